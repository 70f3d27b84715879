-- What a scan's answer tells of the elements, and the other way round.
use Prim.Native.Nat.{ℕ, zero, suc, ◌+◌, ◌<◌}
use mathlib.Core.Path.{◌≡◌, refl, subst, ap, ◌∙◌}
use mathlib.Core.Bool.{Bool, true, false, ◌||◌, cond, false≢true}
use mathlib.Core.List.{List, [], ◌∷◌}
use native.Mathlib.Omega.{arith}
use lib.ListN.{get_or, length}
use Rattle.log_votes.specs.Scan.{all_from, any_from, first_of}
use Rattle.log_entry.proofs.Tests.{and_left, and_right, both, is_false, opposed, or_left, or_right}

module _ {A : Type 0} (f : ℕ → A → Bool) (d : A) where
  moved : {i j : ℕ} (x : A) {t : Bool} → i ≡ j → f i x ≡ t → f j x ≡ t
  moved x {t} e h = subst (λ (n : ℕ). f n x ≡ t) e h

  any_from_lem : (i : ℕ) (xs : List A) (k : ℕ) → k < length xs → f (i + k) (get_or xs k d) ≡ true → any_from f i xs ≡ true
  unfolding any_from
  any_from_lem i [] k h e = absurd (omega arith)
  any_from_lem i (x ∷ xs) zero h e = or_left (f i x) (any_from f (suc i) xs) (moved x (omega arith) e)
  any_from_lem i (x ∷ xs) (suc k) h e =
      or_right (f i x) (any_from f (suc i) xs) (any_from_lem (suc i) xs k (omega arith) (moved (get_or xs k d) (omega arith) e))

  found_from : (i : ℕ) (xs : List A) → any_from f i xs ≡ true → (k : ℕ) × (k < length xs) × (f (i + k) (get_or xs k d) ≡ true)
  unfolding any_from
  found_from i [] e = absurd (false≢true e)
  found_from i (x ∷ xs) e = split (f i x) refl (found_from (suc i) xs) e
    where
      split : (t : Bool) → f i x ≡ t
          → (any_from f (suc i) xs ≡ true → (k : ℕ) × (k < length xs) × (f (suc i + k) (get_or xs k d) ≡ true))
          → (t || any_from f (suc i) xs) ≡ true
          → (k : ℕ) × (k < suc (length xs)) × (f (i + k) (get_or (x ∷ xs) k d) ≡ true)
      split true h rest e = (0, omega arith, moved x (omega arith) h)
      split false h rest e = let r = rest e in (suc r.0, omega (arith, r.1), moved (get_or xs r.0 d) (omega arith) r.2)

  all_from_lem : (i : ℕ) (xs : List A) → ((k : ℕ) → k < length xs → f (i + k) (get_or xs k d) ≡ true) → all_from f i xs ≡ true
  unfolding all_from
  all_from_lem i [] h = refl
  all_from_lem i (x ∷ xs) h =
      both (f i x) (all_from f (suc i) xs) (moved x (omega arith) (h 0 (omega arith)))
      (all_from_lem (suc i) xs (λ k b. moved (get_or xs k d) (omega arith) (h (suc k) (omega arith))))

  each_from : (i : ℕ) (xs : List A) → all_from f i xs ≡ true → (k : ℕ) → k < length xs → f (i + k) (get_or xs k d) ≡ true
  unfolding all_from
  each_from i [] e k h = absurd (omega arith)
  each_from i (x ∷ xs) e zero h = moved x (omega arith) (and_left (f i x) (all_from f (suc i) xs) e)
  each_from i (x ∷ xs) e (suc k) h =
      moved (get_or xs k d) (omega arith) (each_from (suc i) xs (and_right (f i x) (all_from f (suc i) xs) e) k (omega arith))

  -- an element that passes
  pub any_here : (xs : List A) (k : ℕ) → k < length xs → f k (get_or xs k d) ≡ true → any_from f 0 xs ≡ true
  any_here xs k h e = any_from_lem 0 xs k h (moved (get_or xs k d) (omega arith) e)

  pub found : (xs : List A) → any_from f 0 xs ≡ true → (k : ℕ) × (k < length xs) × (f k (get_or xs k d) ≡ true)
  found xs e = let r = found_from 0 xs e in (r.0, r.1, moved (get_or xs r.0 d) (omega arith) r.2)

  -- no element passes
  pub none_here : (xs : List A) → any_from f 0 xs ≡ false → (k : ℕ) → k < length xs → f k (get_or xs k d) ≡ false
  none_here xs e k h = is_false (f k (get_or xs k d)) (λ p. opposed (any_here xs k h p) e)

  pub none_found : (xs : List A) → ((k : ℕ) → k < length xs → f k (get_or xs k d) ≡ true → ⊥) → any_from f 0 xs ≡ false
  none_found xs h = is_false (any_from f 0 xs) (λ e. let r = found xs e in h r.0 r.1 r.2)

  -- every element passes
  pub each_here : (xs : List A) → all_from f 0 xs ≡ true → (k : ℕ) → k < length xs → f k (get_or xs k d) ≡ true
  each_here xs e k h = moved (get_or xs k d) (omega arith) (each_from 0 xs e k h)

  pub all_here : (xs : List A) → ((k : ℕ) → k < length xs → f k (get_or xs k d) ≡ true) → all_from f 0 xs ≡ true
  all_here xs h = all_from_lem 0 xs (λ k b. moved (get_or xs k d) (omega arith) (h k b))

module _ {A : Type 0} (f : A → Bool) (d : A) where
  -- some element passes, so the first does
  pub first_passes : (xs : List A) (k : ℕ) → k < length xs → f (get_or xs k d) ≡ true
      → (j : ℕ) × (first_of f d xs ≡ get_or xs j d) × (f (get_or xs j d) ≡ true)
  unfolding first_of
  first_passes [] k h e = absurd (omega arith)
  first_passes (x ∷ xs) zero h e = (0, ap (λ (b : Bool). cond b x (first_of f d xs)) e, e)
  first_passes (x ∷ xs) (suc k) h e = split (f x) refl (first_passes xs k (omega arith) e)
    where
      split : (t : Bool) → f x ≡ t → ((j : ℕ) × (first_of f d xs ≡ get_or xs j d) × (f (get_or xs j d) ≡ true))
          → (j : ℕ) × (cond (f x) x (first_of f d xs) ≡ get_or (x ∷ xs) j d) × (f (get_or (x ∷ xs) j d) ≡ true)
      split true p rest = (0, ap (λ (b : Bool). cond b x (first_of f d xs)) p, p)
      split false p rest = (suc rest.0, ap (λ (b : Bool). cond b x (first_of f d xs)) p ∙ rest.1, rest.2)

  pub first_missing : (xs : List A) → ((k : ℕ) → k < length xs → f (get_or xs k d) ≡ true → ⊥) → first_of f d xs ≡ d
  unfolding first_of
  first_missing [] none = refl
  first_missing (x ∷ xs) none =
      ap (λ (b : Bool). cond b x (first_of f d xs)) (is_false (f x) (none 0 (omega arith)))
      ∙ first_missing xs (λ k h. none (suc k) (omega arith))
