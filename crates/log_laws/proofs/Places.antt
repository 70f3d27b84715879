-- What stands in a list after a store.
use Prim.Native.Nat.{ℕ, ◌<◌}
use mathlib.Core.Path.{◌≡◌, sym, ap, subst, ◌∙◌}
use mathlib.Core.List.{List}
use mathlib.Core.Logic.{◌≢◌, ⊎_elim}
use lib.ListN.{get_or, length, set}
use lib.Seq.{get_or-set_other, get_or-set_same, set_out}
use Rattle.log_entry.proofs.Tests.{below_or_not, same_number}

-- the element at j after the one at i is set
pub set_cases : {A : Type 0} (P : A → Type 0) (xs : List A) (i j : ℕ) (a d : A) → i < length xs → (j ≡ i → P a) → (j ≢ i → P (get_or xs j d))
    → P (get_or (set xs i a) j d)
set_cases P xs i j a d h new old =
    ⊎_elim
    (λ (k : j ≡ i). subst P (sym (ap (λ (n : ℕ). get_or (set xs i a) n d) k ∙ get_or-set_same xs i a d h)) (new k))
    (λ (k : j ≡ i → ⊥). subst P (sym (get_or-set_other xs i j a d k)) (old k))
    (same_number j i)

-- the same at any index: past the end nothing is set
pub set_either : {A : Type 0} (P : A → Type 0) (xs : List A) (i j : ℕ) (a d : A) → (j ≡ i → P a) → P (get_or xs j d) → P (get_or (set xs i a) j d)
set_either P xs i j a d new old =
    ⊎_elim
    (λ (h : i < length xs). set_cases P xs i j a d h new (λ k. old))
    (λ h. subst (λ ys. P (get_or ys j d)) (sym (set_out xs i a h)) old)
    (below_or_not i (length xs))
