-- What processes keep after a list of steps.
use Rattle.log_entry.specs.Refusal.{not_met}
use Prim.Native.Nat.{ℕ}
use mathlib.Core.Path.{◌≡◌, refl}
use mathlib.Core.Bool.{true, false}
use mathlib.Core.List.{List, [], ◌∷◌}
use lib.ListN.{get_or}
use Rattle.log_entry.specs.Entry.{take_entry, vote_entry}
use Rattle.log_votes.specs.declared.Outcome.{Outcome}
use Rattle.log_votes.specs.declared.Outcome.TheVariants as outcome
use Rattle.log_core.specs.Log.{outcome_of}
use Rattle.model_steps.specs.declared.Step.{Step}
use Rattle.model_steps.specs.declared.Step.TheVariants.{Setup, Request, Open, Propose, Deliver, Tell, Restore}
use Rattle.model_protocol.specs.declared.World.{World}
use Rattle.model_protocol.specs.Step.{step_of}
use Rattle.model_protocol.specs.World.{log_of, process_of, restored_to}
use Rattle.model_protocol.proofs.Compute.{computed}

abbrev heard_of : World → ℕ → ℕ → Outcome
heard_of w p tx = (get_or (process_of w p).heard tx (record { outcome = outcome.Open })).outcome

abbrev pub stores : List Step
stores =
    Setup 3
    -- processes 1 and 2 take stores 0 and 1, and are restored
    ∷ Request (take_entry 1 1 0) 0 ∷ Deliver 0 ∷ Request (take_entry 2 1 1) 0 ∷ Deliver 1 ∷ Open 0 0 3 ∷ Deliver 2 ∷ Deliver 3 ∷ Deliver 5
    ∷ Deliver 6 ∷ Propose 0 0 3 ∷ Deliver 7 ∷ Deliver 8 ∷ Deliver 10 ∷ Deliver 11 ∷ Restore 0 1 ∷ Deliver 12 ∷ Restore 0 2 ∷ Deliver 13
    -- store 0 commits transaction 4, while process 2 sent an abort on its behalf, which comes too
    -- late
    ∷ Request (vote_entry 2 1 1 0 4 0x03 false 0) 0 ∷ Request (vote_entry 1 1 0 0 4 0x01 true 10) 0 ∷ Deliver 15 ∷ Open 0 1 3 ∷ Deliver 16
    ∷ Deliver 17 ∷ Deliver 19 ∷ Deliver 20 ∷ Propose 0 1 3 ∷ Deliver 21 ∷ Deliver 22 ∷ Deliver 24 ∷ Deliver 25
    -- a restore is sent
    ∷ Restore 0 1
    -- store 0 commits transaction 5, and then the restore is delivered
    ∷ Deliver 14 ∷ Request (vote_entry 1 1 0 0 5 0x01 true 11) 0 ∷ Deliver 27 ∷ Open 0 2 3 ∷ Deliver 28 ∷ Deliver 29 ∷ Deliver 31 ∷ Deliver 32
    ∷ Propose 0 2 3 ∷ Deliver 33 ∷ Deliver 34 ∷ Deliver 36 ∷ Deliver 37 ∷ Deliver 26
    ∷ []

-- the abort that process 2 sent is not what it heard: the transaction committed
pub nothing_heard : heard_of (computed stores) 2 4 ≡ outcome.Open
unfolding computed
nothing_heard = refl

pub committed : outcome_of (log_of (computed stores) 0) 4 ≡ outcome.Commit
unfolding computed
committed = refl

-- the restore holds the store as it was when it was sent
pub one_row : (restored_to (computed stores) 1).count ≡ 1
unfolding computed
one_row = refl

-- nobody is told of an open transaction
pub open_not_told : (step_of (computed stores) (Tell 0 2 7)).answer ≡ not_met
unfolding computed
open_not_told = refl

-- only the current instance is opened
pub other_instance_lem : (step_of (computed stores) (Open 0 2 6)).answer ≡ not_met
unfolding computed
other_instance_lem = refl
