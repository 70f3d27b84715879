-- Members of a list and their order, for lists that are made by appending.
use Prim.Native.Nat.{ℕ, zero, suc, ◌<◌}
use mathlib.Core.Path.{◌≡◌, refl, sym}
use mathlib.Core.List.{List, [], ◌∷◌, ◌++◌}
use mathlib.Core.Logic.{◌⊎◌, inl, inr, ⊎_elim}
use native.Mathlib.Omega.{arith}
use lib.ListN.{get_or, length}

module _ {A : Type 0} where
  abbrev pub In : A → List A → Type 0
  In x [] = ⊥
  In x (y ∷ ys) = (x ≡ y) ⊎ In x ys

  pub in_left : (x : A) (xs ys : List A) → In x xs → In x (xs ++ ys)
  in_left x [] ys h = absurd h
  in_left x (y ∷ xs) ys (inl e) = inl e
  in_left x (y ∷ xs) ys (inr h) = inr (in_left x xs ys h)

  pub in_right : (x : A) (xs ys : List A) → In x ys → In x (xs ++ ys)
  in_right x [] ys h = h
  in_right x (y ∷ xs) ys h = inr (in_right x xs ys h)

  pub in_either : (x : A) (xs ys : List A) → In x (xs ++ ys) → In x xs ⊎ In x ys
  in_either x [] ys h = inr h
  in_either x (y ∷ xs) ys (inl e) = inl (inl e)
  in_either x (y ∷ xs) ys (inr h) = ⊎_elim (λ (k : In x xs). inl (inr k)) (λ k. inr k) (in_either x xs ys h)

  pub at_in : (d : A) (xs : List A) (i : ℕ) → i < length xs → In (get_or xs i d) xs
  at_in d [] i h = absurd (omega arith)
  at_in d (x ∷ xs) zero h = inl refl
  at_in d (x ∷ xs) (suc i) h = inr (at_in d xs i (omega arith))

  pub in_at : (d x : A) (xs : List A) → In x xs → (i : ℕ) × (i < length xs) × (get_or xs i d ≡ x)
  in_at d x [] h = absurd h
  in_at d x (y ∷ xs) (inl e) = (0, omega arith, sym e)
  in_at d x (y ∷ xs) (inr h) = let r = in_at d x xs h in (suc r.0, omega (arith, r.1), r.2)

  -- each element stands before those after it
  module _ (Before : A → A → Type 0) where
    abbrev pub Sorted : List A → Type 0
    Sorted [] = Unit {0}
    Sorted (x ∷ xs) = ((y : A) → In y xs → Before x y) × Sorted xs

    pub sorted_append : (xs ys : List A) → Sorted xs → Sorted ys → ((x y : A) → In x xs → In y ys → Before x y) → Sorted (xs ++ ys)
    sorted_append [] ys s t h = t
    sorted_append (x ∷ xs) ys s t h = (
      λ y k. ⊎_elim (λ (m : In y xs). s.0 y m) (λ m. h x y (inl refl) m) (in_either y xs ys k),
      sorted_append xs ys s.1 t (λ a b m n. h a b (inr m) n),
    )

    pub sorted_at : (d : A) (xs : List A) → Sorted xs → (i j : ℕ) → i < j → j < length xs → Before (get_or xs i d) (get_or xs j d)
    sorted_at d [] s i j h k = absurd (omega arith)
    sorted_at d (x ∷ xs) s i zero h k = absurd (omega arith)
    sorted_at d (x ∷ xs) s zero (suc j) h k = s.0 (get_or xs j d) (at_in d xs j (omega arith))
    sorted_at d (x ∷ xs) s (suc i) (suc j) h k = sorted_at d xs s.1 i j (omega arith) (omega arith)
