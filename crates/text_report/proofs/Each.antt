-- Texts written by a loop, one of them a turn.
use Prim.Native.Nat.{ℕ, ◌≤◌, ◌<◌, ◌+◌, ◌-◌, ◌*◌}
use mathlib.Core.List.{List, ◌++◌}
use mathlib.Core.Path.{◌≡◌, ap, sym, subst, ◌∙◌}
use native.Mathlib.Nat.{suc-mul}
use native.Mathlib.Numerals.{add-one}
use native.Mathlib.Omega.{arith}
use lib.ListN.{get_or, take}
use lib.Seq.{get_or-take}
use Rattle.text_ascii.specs.declared.Page.{Page}
use Rattle.text_report.specs.Report.{each}
use Rattle.text_report.specs.Within.{Within}
use Rattle.text_report.proofs.Lengths.{each_more, each_none, within_as, within_more, within_nothing, within_room}

-- the loop's invariant: the first i of n texts are on the page, each within its room
pub record Put (n room : ℕ) (text : ℕ → List ℕ) (old new : Page) (i : ℕ) : Type 0 where
  pub bound : i ≤ n
  pub within : Within (i * room) old new (each text i)

module _ {n room : ℕ} {text : ℕ → List ℕ} {a : Page} where
  pub none_put : Put n room text a a 0
  none_put = record { bound = omega arith; within = within_as (each_none text) (within_nothing (0 * room) a) }

  module _ {b : Page} {i : ℕ} (p : Put n room text a b i) where
    pub put_more : {c : Page} {t : List ℕ} → i < n → Within room b c t → t ≡ text i → Put n room text a c (i + 1)
    put_more h w e = record {
      bound = omega arith;
      within =
          within_room
          (within_as (ap (λ (s : List ℕ). each text i ++ s) e ∙ each_more text i) (within_more p.within w))
          (rw (add-one i, suc-mul i room) (omega arith));
    }

    pub put_all : {whole : ℕ} → n ≤ i → n * room ≤ whole → Within whole a b (each text n)
    put_all h w =
        let e : i ≡ n = omega (arith, p.bound) in
        within_room (within_as (ap (each text) e) p.within) (rw e w)

  -- where the texts are numbered from 1
  pub put_next : {b c : Page} {t : List ℕ} (k : ℕ) → Put n room text a b (k - 1) → 1 ≤ k → k ≤ n → Within room b c t → t ≡ text (k - 1)
      → Put n room text a c (k + 1 - 1)
  put_next {b} {c} {t} k p g h w e =
      let same : k - 1 + 1 ≡ k + 1 - 1 = omega arith in
      subst (λ (i : ℕ). Put n room text a c i) same (put_more p (omega arith) w e)

-- an element that counts
pub counted : {A : Type 0} (text : A → List ℕ) (d : A) (xs : List A) (count i : ℕ) → i < count → text (get_or xs i d) ≡ text (get_or (take count xs) i d)
counted text d xs count i h = ap text (sym (get_or-take count xs i d h))
