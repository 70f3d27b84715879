-- Texts written one behind the other.
use Prim.Native.Nat.{ℕ, suc, ◌≤◌, ◌<◌, ◌+◌, min, max}
use native.Mathlib.Omega.{arith}
use native.Mathlib.Nat.{suc-add, add-suc, add-zero}
use native.Mathlib.Decide.{dec_lt}
use mathlib.Core.List.{List, [], ◌∷◌, ◌++◌}
use mathlib.Core.Path.{◌≡◌, refl, sym, ◌∙◌, ap, subst}
use lib.ListN.{length, take, drop, set, length-append}
use lib.Seq.{sets, set_out, length-sets, sets-eq, take_at}
use Rattle.text_ascii.specs.Page.{Puts}
use Rattle.text_ascii.specs.Wrote.{Wrote}
use Rattle.text_ascii.specs.declared.Page.{Page}

sets_append : (l : List ℕ) (i : ℕ) (a b : List ℕ) → sets (sets l i a) (i + length a) b ≡ sets l i (a ++ b)
sets_append l i [] b = ap (λ (k : ℕ). sets l k b) (add-zero i)
sets_append l i (x ∷ a) b =
    ap (λ (k : ℕ). sets (sets (set l i x) (suc i) a) k b) (add-suc i (length a) ∙ sym (suc-add i (length a))) ∙ sets_append (set l i x) (suc i) a b

-- behind the end there is no room
sets_out : (l : List ℕ) (i : ℕ) (a : List ℕ) → length l ≤ i → sets l i a ≡ l
sets_out l i [] h = refl
sets_out l i (x ∷ a) h =
    ap (λ (m : List ℕ). sets m (suc i) a) (set_out l i x h) ∙ sets_out l (suc i) a (omega arith)

module _ {l m o : List ℕ} {at n k : ℕ} {s t : List ℕ} where
  pub wrote_more : Wrote l at s m n → Wrote m n t o k → Wrote l at (s ++ t) o k
  wrote_more f g =
      let ls : length m ≡ length l = ap length f.bytes ∙ length-sets l at s in
      let p : n ≡ min (at + length s) (max at (length l)) = f.place in
      let q : k ≡ min (n + length t) (max n (length m)) = g.place in
      record {
        bytes = g.bytes ∙ ap (λ (x : List ℕ). sets x n t) f.bytes ∙ behind p (dec_lt (length l) (at + length s));
        place = omega (arith, length-append s t);
      }
    where
      behind : n ≡ min (at + length s) (max at (length l)) → Dec (length l < at + length s) → sets (sets l at s) n t ≡ sets l at (s ++ t)
      behind p (no h) = ap (λ (j : ℕ). sets (sets l at s) j t) (let e : n ≡ at + length s = omega arith in e) ∙ sets_append l at s t
      behind p (yes h) =
          sets_out (sets l at s) n t (omega (arith, length-sets l at s))
          ∙ sym (sets_out (sets l at s) (at + length s) t (omega (arith, length-sets l at s)))
          ∙ sets_append l at s t

pub wrote_length : {l m : List ℕ} {at n : ℕ} {s : List ℕ} → Wrote l at s m n → length m ≡ length l
wrote_length {l} {m} {at} {n} {s} w = ap length w.bytes ∙ length-sets l at s

-- a text is what it equals
pub wrote_as : {l m : List ℕ} {at n : ℕ} {s t : List ℕ} → s ≡ t → Wrote l at s m n → Wrote l at t m n
wrote_as {l} {m} {at} {n} e w = subst (λ (u : List ℕ). Wrote l at u m n) e w

pub wrote_nothing : (l : List ℕ) (at : ℕ) → Wrote l at [] l at
wrote_nothing l at = record { bytes = refl; place = omega arith }

-- a text that has room stands there whole
pub wrote_whole : (l t m : List ℕ) (n : ℕ) → Wrote l 0 t m n → length t ≤ length l → take n m ≡ t
wrote_whole l t m n w h =
    let p : n ≡ min (0 + length t) (max 0 (length l)) = w.place in
    let e : length t ≡ n = omega arith in
    ap (take n) (w.bytes ∙ sets-eq t l 0 (omega arith)) ∙ take_at t (drop (0 + length t) l) n e

-- ---- on a page

pub puts_more : {a b c : Page} {s t : List ℕ} → Puts a b s → Puts b c t → Puts a c (s ++ t)
puts_more f g = record { same = g.same ∙ f.same; wrote = wrote_more f.wrote g.wrote }

pub puts_as : {a b : Page} {s t : List ℕ} → s ≡ t → Puts a b s → Puts a b t
puts_as e f = record { same = f.same; wrote = wrote_as e f.wrote }

pub puts_nothing : (a : Page) → Puts a a []
puts_nothing a = record { same = refl; wrote = wrote_nothing _ _ }
