-- The table of owners follows the rule, and names coordinators only.
use Prim.Native.Nat.{ℕ, zero, suc, ◌/◌, ◌%◌, ◌≤◌, ◌<◌}
use mathlib.Core.Path.{◌≡◌, refl, ap}
use mathlib.Core.Bool.{Bool, true, ◌&&◌}
use mathlib.Core.List.{[]}
use mathlib.Core.Logic.{◌⊎◌, inl, inr}
use native.Mathlib.Nat.{mod-lt}
use native.Mathlib.Omega.{arith}
use lib.Dec.{eqb}
use lib.ListN.{get_or, get_or-eq_default}
use borrow.Author.Tests.{eqb-true}
use Rattle.log_entry.proofs.Tests.{and_left, and_right, below_or_not, same_number}
use Rattle.model_steps.specs.Limits.{ballots, coordinators}
use Rattle.model_owners.specs.Owners.{OwnersByRule, in_row, owner, owners}

-- the test passes at every number below n
abbrev every : (ℕ → Bool) → ℕ → Bool
every f zero = true
every f (suc n) = f n && every f n

at : (f : ℕ → Bool) (n : ℕ) → every f n ≡ true → (k : ℕ) → k < n → f k ≡ true
at f zero e k h = absurd (omega arith)
at f (suc n) e k h = go (at f n (and_right (f n) (every f n) e) k) (same_number k n)
  where
    go : (k < n → f k ≡ true) → (k ≡ n) ⊎ (k ≡ n → ⊥) → f k ≡ true
    go below (inl g) = rw g (and_left (f n) (every f n) e)
    go below (inr g) = below (omega arith)

-- ballot k + 1 has the owner of the rule
abbrev by_rule_lem : ℕ → Bool
by_rule_lem k = eqb (owner (suc k)) (suc k % coordinators)

-- `refl` is the test of the whole table, entry by entry
pub owners_by_rule : OwnersByRule
unfolding owner owners
owners_by_rule zero l h = absurd (omega arith)
owners_by_rule (suc k) l h = eqb-true (owner (suc k)) (suc k % coordinators) (at by_rule_lem ballots refl k (omega arith))

-- ---- every number has a coordinator for an owner: what is no ballot has coordinator 0

unused : owner 0 ≡ 0
unfolding owner owners
unused = refl

beyond : (b : ℕ) → ballots < b → owner b ≡ 0
unfolding owner owners
beyond b h = ap (λ row. get_or row (b % in_row) 0) (get_or-eq_default owners [] {n = b / in_row} (omega arith))

pub owner_is_coordinator : (b : ℕ) → owner b < coordinators
owner_is_coordinator zero = rw unused (omega arith)
owner_is_coordinator (suc k) = go (below_or_not k ballots)
  where
    go : (k < ballots) ⊎ (ballots ≤ k) → owner (suc k) < coordinators
    go (inl h) = rw (owners_by_rule (suc k) (omega arith) (omega arith)) (mod-lt (suc k) (omega arith))
    go (inr h) = rw (beyond (suc k) (omega arith)) (omega arith)
