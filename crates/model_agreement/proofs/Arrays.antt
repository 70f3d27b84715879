-- What holds of every element of a row, when one of them is stored.
use Prim.Native.Nat.{ℕ, ◌+◌, ◌*◌, ◌<◌, zero, suc}
use mathlib.Core.Path.{◌≡◌, sym, subst, refl}
use mathlib.Core.Logic.{◌⊎◌, inl, inr, ◌≢◌}
use mathlib.Core.List.{List}
use native.Mathlib.Decide.{ℕ_discrete, dec_lt}
use native.Mathlib.Omega.{arith}
use lib.ListN.{get_or, length, replicate, set}
use lib.Seq.{get_or-set_other, get_or-set_same, set_out}
use Rattle.model_steps.specs.Limits.{instances}

module _ {X : Type 0} where
  -- the element of number k changes, the others stay
  pub set_ind : (P : ℕ → X → Type 0) (l : List X) (d : X) (k : ℕ) (x : X)
      → k < length l
      → P k x
      → ((j : ℕ) → k ≢ j → P j (get_or l j d))
      → (j : ℕ) → P j (get_or (set l k x) j d)
  set_ind P l d k x h p f j = go (ℕ_discrete k j)
    where
      go : Dec (k ≡ j) → P j (get_or (set l k x) j d)
      go (yes e) = subst (λ y. P y (get_or (set l k x) y d)) e (subst (λ y. P k y) (sym (get_or-set_same l k x d h)) p)
      go (no e) = subst (λ y. P j y) (sym (get_or-set_other l k j x d (λ q. e (sym q)))) (f j e)

  -- what holds of each element whatever its number
  pub set_all : (P : X → Type 0) (l : List X) (d : X) (k : ℕ) (x : X) → P x → ((j : ℕ) → P (get_or l j d))
      → (j : ℕ) → P (get_or (set l k x) j d)
  set_all P l d k x p f j = go (dec_lt k (length l))
    where
      go : Dec (k < length l) → P (get_or (set l k x) j d)
      go (yes h) = set_ind (λ _ y. P y) l d k x h p (λ i _. f i) j
      go (no h) = subst (λ y. P (get_or y j d)) (sym (set_out l k x (omega arith))) (f j)

  -- a row by acceptor and instance: the element of a and i changes
  pub slot_ind : (P : ℕ → ℕ → X → Type 0) (l : List X) (d : X) (a i : ℕ) (x : X)
      → i < instances
      → a * instances + i < length l
      → P a i x
      → ((b j : ℕ) → j < instances → (a ≢ b) ⊎ (i ≢ j) → P b j (get_or l (b * instances + j) d))
      → (b j : ℕ) → j < instances → P b j (get_or (set l (a * instances + i) x) (b * instances + j) d)
  slot_ind P l d a i x g h p f b j q = go (ℕ_discrete a b) (ℕ_discrete i j)
    where
      k : ℕ
      k = a * instances + i

      other : (a ≢ b) ⊎ (i ≢ j) → b * instances + j ≢ k → P b j (get_or (set l k x) (b * instances + j) d)
      other c e = subst (λ y. P b j y) (sym (get_or-set_other l k (b * instances + j) x d e)) (f b j q c)

      go : Dec (a ≡ b) → Dec (i ≡ j) → P b j (get_or (set l k x) (b * instances + j) d)
      go (yes d') (yes e) = rw (← d', ← e) (subst (λ y. P a i y) (sym (get_or-set_same l k x d h)) p)
      go (yes d') (no e) = other (inr e) (omega arith)
      go (no d') (yes e) = other (inl d') (omega arith)
      go (no d') (no e) = other (inl d') (omega arith)

-- at a and i, and elsewhere, where nothing is stored
pub slot_cases : (P : ℕ → ℕ → Type 0) (a i : ℕ) → P a i → ((b j : ℕ) → (a ≢ b) ⊎ (i ≢ j) → P b j) → (b j : ℕ) → P b j
slot_cases P a i p f b j = go (ℕ_discrete a b) (ℕ_discrete i j)
  where
    go : Dec (a ≡ b) → Dec (i ≡ j) → P b j
    go (yes d) (yes e) = rw (← d, ← e) p
    go (yes d) (no e) = f b j (inr e)
    go (no d) e = f b j (inl d)

pub each_case : (P : ℕ → Type 0) (k : ℕ) → P k → ((j : ℕ) → k ≢ j → P j) → (j : ℕ) → P j
each_case P k p f j = go (ℕ_discrete k j)
  where
    go : Dec (k ≡ j) → P j
    go (yes e) = rw (← e) p
    go (no e) = f j e

-- an element of a row of equals
pub same_each : {A : Type 0} (n i : ℕ) (a : A) → a ≡ get_or (replicate n a) i a
same_each zero i a = refl
same_each (suc n) zero a = refl
same_each (suc n) (suc i) a = same_each n i a
