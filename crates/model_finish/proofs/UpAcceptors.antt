-- The acceptors that are up, as a list: all of them, each once, the lowest first.
use Prim.Native.Nat.{ℕ, suc, ◌≤◌, ◌<◌}
use native.Mathlib.Decide.{ℕ_discrete, dec_lt}
use native.Mathlib.Omega.{arith}
use mathlib.Core.Bool.{Bool, true, false, cond}
use mathlib.Core.List.{List, [], ◌∷◌, ◌++◌, append-nil}
use mathlib.Core.Logic.{◌⊎◌, inl, inr}
use mathlib.Core.Path.{◌≡◌, ap, refl, subst, sym, ◌∙◌}
use lib.ListN.{get_or, length, length-append, get_or-append}
use lib.Seq.{get_or-append_seam}
use Rattle.log_entry.proofs.Tests.{opposed}
use Rattle.model_steps.specs.declared.Role.TheVariants.{Acceptor}
use Rattle.model_protocol.specs.declared.Down.{Down}
use Rattle.model_protocol.specs.World.{is_down}
use Rattle.model_finish.specs.Claims.{AskedAreLowest}
use Rattle.model_finish.specs.Such.{quorum, up_acceptor, up_acceptors, up_below}

-- of the acceptors below n
pub record UpTo (d : Down) (n : ℕ) (xs : List ℕ) : Type 0 where
  pub below : (k : ℕ) → k < length xs → get_or xs k 0 < n
  pub up : (k : ℕ) → k < length xs → is_down d Acceptor (get_or xs k 0) ≡ false
  pub ascending : (j k : ℕ) → j < k → k < length xs → get_or xs j 0 < get_or xs k 0
  pub all : (a : ℕ) → a < n → is_down d Acceptor a ≡ false → (k : ℕ) × (k < length xs) × (get_or xs k 0 ≡ a)

-- the next one is down
module _ {d : Down} {n : ℕ} {xs : List ℕ} (u : UpTo d n xs) where
  passes_over : is_down d Acceptor n ≡ true → UpTo d (suc n) xs
  passes_over down = record {
    below = λ k h. omega (arith, u.below k h);
    up = u.up;
    ascending = u.ascending;
    all = λ a h up. elim (ℕ_discrete a n) [
      | yes e ↦ absurd (opposed down (sym (ap (is_down d Acceptor) e) ∙ up))
      | no e ↦ u.all a (omega arith) up
    ];
  }

  -- it is up
  last : get_or (xs ++ n ∷ []) (length xs) 0 ≡ n
  last = get_or-append_seam xs n [] 0

  earlier : (k : ℕ) → k < length xs → get_or (xs ++ n ∷ []) k 0 ≡ get_or xs k 0
  earlier k h = get_or-append xs (n ∷ []) 0 k h

  longer : length (xs ++ n ∷ []) ≡ suc (length xs)
  longer = length-append xs (n ∷ []) ∙ omega arith

  -- of each place of the longer list: an earlier one, or the last
  each : (P : ℕ → ℕ → Type 0) → ((k : ℕ) → k < length xs → P k (get_or xs k 0)) → P (length xs) n
      → (k : ℕ) → k < length (xs ++ n ∷ []) → P k (get_or (xs ++ n ∷ []) k 0)
  each P f p k h = go (ℕ_discrete k (length xs))
    where
      go : Dec (k ≡ length xs) → P k (get_or (xs ++ n ∷ []) k 0)
      go (yes e) = subst (λ (j : ℕ). P j (get_or (xs ++ n ∷ []) j 0)) (sym e) (subst (P (length xs)) (sym last) p)
      go (no e) = let l : k < length xs = omega (arith, longer) in subst (P k) (sym (earlier k l)) (f k l)

  takes_in : is_down d Acceptor n ≡ false → UpTo d (suc n) (xs ++ n ∷ [])
  takes_in up = record {
    below = each (λ k a. a < suc n) (λ k h. omega (arith, u.below k h)) (omega arith);
    up = each (λ k a. is_down d Acceptor a ≡ false) u.up up;
    ascending =
        λ j k l h. each (λ k a. j < k → get_or (xs ++ n ∷ []) j 0 < a)
        (λ k h g. subst (λ (a : ℕ). a < get_or xs k 0) (sym (earlier j (omega arith))) (u.ascending j k g h))
        (λ g. subst (λ (a : ℕ). a < n) (sym (earlier j g)) (u.below j g))
        k h l;
    all = λ a h g. elim (ℕ_discrete a n) [
      | yes e ↦ (length xs, omega (arith, longer), last ∙ sym e)
      | no e ↦ let k = u.all a (omega arith) g in (k.0, omega (arith, longer, k.1), earlier k.0 k.1 ∙ k.2)
    ];
  }

up_to : (d : Down) (n : ℕ) → UpTo d n (up_below d n)
unfolding up_below
up_to d ℕ.zero = record {
  below = λ k h. absurd (omega arith);
  up = λ k h. absurd (omega arith);
  ascending = λ j k l h. absurd (omega arith);
  all = λ a h. absurd (omega arith);
}
up_to d (suc n) = go (is_down d Acceptor n) refl (up_to d n)
  where
    go : (t : Bool) → is_down d Acceptor n ≡ t → UpTo d n (up_below d n) → UpTo d (suc n) (up_below d n ++ cond t [] (n ∷ []))
    go true e u = subst (UpTo d (suc n)) (sym (append-nil (up_below d n))) (passes_over u e)
    go false e u = takes_in u e

-- the m lowest of them are those that the list asks
pub asked_are_lowest : AskedAreLowest
asked_are_lowest w c s =
    let u = up_to w.down w.acceptors in
    let enough = s.quorum_up in
    record {
      is_acceptor = λ k h. u.below k (omega arith);
      is_up = λ k h. u.up k (omega arith);
      ascending = λ j k l h. u.ascending j k l (omega arith);
      lowest = λ a h up. among u enough a (u.all a h up);
    }
  where
    among : UpTo w.down w.acceptors (up_acceptors w) → quorum w.acceptors ≤ length (up_acceptors w) → (a : ℕ)
        → (k : ℕ) × (k < length (up_acceptors w)) × (up_acceptor w k ≡ a)
        → ((k : ℕ) × (k < quorum w.acceptors) × (up_acceptor w k ≡ a)) ⊎ ((k : ℕ) → k < quorum w.acceptors → up_acceptor w k < a)
    among u enough a (k, l, e) = elim (dec_lt k (quorum w.acceptors)) [
      | yes h ↦ inl (k, h, e)
      | no h ↦ inr (λ j g. subst (λ (x : ℕ). up_acceptor w j < x) e (u.ascending j k (omega arith) l))
    ]
