-- How many acceptors there are where a coordinator is such.
use Prim.Native.Nat.{ℕ, ◌≤◌, ◌<◌}
use native.Mathlib.Omega.{arith}
use mathlib.Core.Bool.{true}
use mathlib.Core.Logic.{◌⊎◌, inl, inr}
use mathlib.Core.Path.{◌≡◌}
use borrow.Author.Tests.{eqb-true}
use lib.Dec.{eqb}
use Rattle.log_entry.proofs.Tests.{or_cases}
use Rattle.model_steps.specs.Limits.{can_set_up, fewest_acceptors, most_acceptors}
use Rattle.model_protocol.specs.declared.World.{World}
use Rattle.model_finish.specs.Such.{Such}

pub three_or_five : (n : ℕ) → can_set_up n ≡ true → (n ≡ fewest_acceptors) ⊎ (n ≡ most_acceptors)
three_or_five n h = go (or_cases (eqb n fewest_acceptors) (eqb n most_acceptors) h)
  where
    go : (eqb n fewest_acceptors ≡ true) ⊎ (eqb n most_acceptors ≡ true) → (n ≡ fewest_acceptors) ⊎ (n ≡ most_acceptors)
    go (inl e) = inl (eqb-true n fewest_acceptors e)
    go (inr e) = inr (eqb-true n most_acceptors e)

pub few_acceptors : (n : ℕ) → (n ≡ fewest_acceptors) ⊎ (n ≡ most_acceptors) → (0 < n) × (n ≤ most_acceptors)
few_acceptors n (inl e) = (omega arith, omega arith)
few_acceptors n (inr e) = (omega arith, omega arith)

module _ {w : World} {c : ℕ} (such : Such w c) where
  pub live : 0 < w.acceptors
  live = (few_acceptors w.acceptors such.set_up).0

  pub few : w.acceptors ≤ most_acceptors
  few = (few_acceptors w.acceptors such.set_up).1
