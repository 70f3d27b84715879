-- The texts of an array's elements: which value is read outside the array does not matter.
use Prim.Native.Nat.{ℕ, suc, ◌≤◌, ◌<◌, ◌-◌}
use native.Mathlib.Omega.{arith}
use mathlib.Core.List.{List}
use mathlib.Core.Path.{◌≡◌, ◌∙◌, ap}
use lib.ListN.{get_or, length}
use Rattle.std.proofs.lemmas.List.{get_or_default}

-- where they are numbered from 1
module _ {A : Type 0} (text : ℕ → A → List ℕ) (xs : List A) (i : ℕ) (d e : A) where
  pub element_from_1 : 1 ≤ i → i < length xs → text i (get_or xs i d) ≡ text (suc (i - 1)) (get_or xs (suc (i - 1)) e)
  element_from_1 g h =
      let k : i ≡ suc (i - 1) = omega arith in
      ap (text i) (get_or_default xs i d e h) ∙ ap (λ (n : ℕ). text n (get_or xs n e)) k

-- of two arrays
pub both_elements : {A B : Type 0} (text : A → B → List ℕ) (xs : List A) (ys : List B) (i : ℕ) (d e : A) (f g : B) → i < length xs → i < length ys
    → text (get_or xs i d) (get_or ys i f) ≡ text (get_or xs i e) (get_or ys i g)
both_elements text xs ys i d e f g h k = λ n. text (get_or_default xs i d e h n) (get_or_default ys i f g k n)
