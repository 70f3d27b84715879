-- What `begins` tells.
use Prim.Native.Nat.{ℕ, ◌≤◌}
use native.Mathlib.Omega.{arith}
use mathlib.Core.Bool.{Bool, true, false, ◌&&◌, cond, false≢true}
use mathlib.Core.List.{List, [], ◌∷◌, ◌++◌}
use mathlib.Core.Path.{◌≡◌, refl}
use lib.Dec.{eqb}
use lib.ListN.{length, drop}
use borrow.Author.Tests.{eqb-true, eq-eqb}
use Rattle.text_ascii.specs.Bytes.{begins}

pub both_l : (a b : Bool) → (a && b) ≡ true → a ≡ true
both_l true b e = refl
both_l false b e = absurd (false≢true e)

pub both_r : (a b : Bool) → (a && b) ≡ true → b ≡ true
both_r true b e = e
both_r false b e = absurd (false≢true e)

-- bytes that begin with a word are the word and what is left
pub begins_splits : (s w : List ℕ) → begins s w ≡ true → s ≡ w ++ drop (length w) s
unfolding begins
begins_splits s [] e = refl
begins_splits [] (w ∷ ws) e = absurd (false≢true e)
begins_splits (c ∷ s) (w ∷ ws) e =
    let h : c ≡ w = eqb-true c w (both_l (eqb c w) _ e) in
    let t : s ≡ ws ++ drop (length ws) s = begins_splits s ws (both_r (eqb c w) _ e) in
    λ i. h i ∷ t i

pub begins_word : (w t : List ℕ) → begins (w ++ t) w ≡ true
unfolding begins
begins_word [] t = refl
begins_word (c ∷ w) t = rw (eq-eqb c c refl) (begins_word w t)

pub begins_fits : (s w : List ℕ) → begins s w ≡ true → length w ≤ length s
unfolding begins
begins_fits s [] e = omega arith
begins_fits [] (w ∷ ws) e = absurd (false≢true e)
begins_fits (c ∷ s) (w ∷ ws) e = omega (arith, begins_fits s ws (both_r (eqb c w) _ e))

-- a byte at which two words differ
unfoldable pub clash : List ℕ → List ℕ → Bool
clash [] w = false
clash (c ∷ s) [] = false
clash (c ∷ s) (w ∷ ws) = cond (eqb c w) (clash s ws) true

pub clash_begins : (v w t : List ℕ) → clash v w ≡ true → begins (v ++ t) w ≡ false
unfolding clash begins
clash_begins [] w t e = absurd (false≢true e)
clash_begins (c ∷ v) [] t e = absurd (false≢true e)
clash_begins (c ∷ v) (w ∷ ws) t e = go (eqb c w) (clash_begins v ws t) e
  where
    go : (b : Bool) → (clash v ws ≡ true → begins (v ++ t) ws ≡ false) → cond b (clash v ws) true ≡ true → (b && begins (v ++ t) ws) ≡ false
    go true h k = h k
    go false h k = refl
