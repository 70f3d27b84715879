-- The claim is not empty: lists of steps that decide, tell and restore.
use Prim.Native.Nat.{ℕ, ◌≤◌}
use mathlib.Core.Path.{◌≡◌, refl, subst}
use mathlib.Core.Bool.{true}
use mathlib.Core.List.{List, [], ◌∷◌}
use lib.ListN.{length}
use Rattle.log_entry.specs.Entry.{take_entry, vote_entry}
use Rattle.log_votes.specs.declared.Outcome.TheVariants as outcome
use Rattle.log_core.specs.Log.{holder_of, outcome_of}
use Rattle.log_core.specs.Replay.{row_at}
use Rattle.model_steps.specs.declared.Step.{Step}
use Rattle.model_steps.specs.declared.Step.TheVariants.{Setup, Request, Open, Propose, Deliver, Tell, Restore}
use Rattle.model_protocol.specs.World.{coordinator_of, log_of, process_of, restored_to}
use Rattle.model_protocol.proofs.Agreeing.{highest, highest_agree}
use Rattle.model_protocol.proofs.Compute.{computed}
use Rattle.model_agreement.specs.Claim.{kept_of}
use Rattle.model_agreement.proofs.Theorem.{demand_3}

-- a list at whose end a coordinator has applied so many instances has a sequence of at least as
-- many batches
decides : (steps : List Step) (k p : ℕ) → (coordinator_of (computed steps) k).applied ≡ p → p ≤ length (demand_3 steps).sequence
unfolding computed
decides steps k p e = subst (λ x. x ≤ length (demand_3 steps).sequence) e ((demand_3 steps).applied_within k)

-- ---- two instances, applied by all three coordinators

abbrev pub whole : List Step
whole =
    Setup 3
    -- processes 1 and 2 take stores 0 and 1; coordinator 0 decides that in instance 0
    ∷ Request (take_entry 1 1 0) 0 ∷ Deliver 0 ∷ Request (take_entry 2 1 1) 0 ∷ Deliver 1 ∷ Open 0 0 3 ∷ Deliver 2 ∷ Deliver 3 ∷ Deliver 5
    ∷ Deliver 6 ∷ Propose 0 0 3 ∷ Deliver 7 ∷ Deliver 8 ∷ Deliver 10 ∷ Deliver 11
    -- they are restored and vote commit; coordinator 1 learns instance 0 and decides the votes in
    -- instance 1
    ∷ Restore 0 1 ∷ Deliver 12 ∷ Restore 0 2 ∷ Deliver 13 ∷ Request (vote_entry 1 1 0 0 4 0x03 true 10) 1 ∷ Deliver 14
    ∷ Request (vote_entry 2 1 1 1 4 0x03 true 11) 1 ∷ Deliver 15 ∷ Open 1 0 4 ∷ Deliver 17 ∷ Deliver 18 ∷ Deliver 19 ∷ Deliver 20
    ∷ Propose 1 0 4 ∷ Deliver 22 ∷ Deliver 23 ∷ Deliver 24 ∷ Deliver 25 ∷ Open 1 1 4 ∷ Deliver 27 ∷ Deliver 28 ∷ Deliver 29 ∷ Deliver 30
    ∷ Propose 1 1 4 ∷ Deliver 32 ∷ Deliver 33 ∷ Deliver 34 ∷ Deliver 35
    -- coordinators 0 and 2 learn what they lack
    ∷ Open 0 1 6 ∷ Deliver 36 ∷ Deliver 38 ∷ Deliver 39 ∷ Deliver 40 ∷ Propose 0 1 6 ∷ Deliver 41 ∷ Deliver 43 ∷ Deliver 44 ∷ Deliver 45
    ∷ Open 2 0 5 ∷ Deliver 46 ∷ Deliver 47 ∷ Deliver 49 ∷ Deliver 50 ∷ Propose 2 0 5 ∷ Deliver 51 ∷ Deliver 52 ∷ Deliver 54 ∷ Deliver 55
    ∷ Open 2 1 8 ∷ Deliver 56 ∷ Deliver 57 ∷ Deliver 59 ∷ Deliver 60 ∷ Propose 2 1 8 ∷ Deliver 61 ∷ Deliver 62 ∷ Deliver 64 ∷ Deliver 65
    -- process 1 hears of the commit from coordinator 0, and process 2 takes a restore from
    -- coordinator 2
    ∷ Tell 0 1 4 ∷ Deliver 66 ∷ Restore 2 2 ∷ Deliver 67
    ∷ []

pub all_apply_two : ((coordinator_of (computed whole) 0).applied ≡ 2)
    × ((coordinator_of (computed whole) 1).applied ≡ 2)
    × ((coordinator_of (computed whole) 2).applied ≡ 2)
unfolding computed
all_apply_two = (refl, refl, refl)

pub two_decided : 2 ≤ length (demand_3 whole).sequence
two_decided = decides whole 0 2 all_apply_two.0

pub process_1_heard_commit : kept_of (computed whole) 1 4 ≡ outcome.Commit
unfolding computed
process_1_heard_commit = refl

-- process 2 took a restore of store 1 at position 2, with a row
pub process_2_restored : ((process_of (computed whole) 2).store ≡ 1)
    × ((process_of (computed whole) 2).position ≡ 2)
    × ((restored_to (computed whole) 2).count ≡ 1)
unfolding computed
process_2_restored = (refl, refl, refl)

pub row_restored : row_at (restored_to (computed whole) 2) 0 ≡ record { group = 1; tx = 4; update = 11 }
unfolding computed
row_restored = refl

-- ---- a later coordinator adopts the batch of the highest ballot, while a majority of its promises
-- carries an older one

pub one_decided : 1 ≤ length (demand_3 highest).sequence
one_decided = decides highest 2 1 highest_agree.1

-- ---- a store is taken over while a vote of the old holder is on the wire

abbrev pub takeover : List Step
takeover =
    Setup 3
    -- process 1 takes store 0, is restored and sends a vote
    ∷ Request (take_entry 1 1 0) 0 ∷ Deliver 0 ∷ Open 0 0 3 ∷ Deliver 1 ∷ Deliver 2 ∷ Deliver 4 ∷ Deliver 5 ∷ Propose 0 0 3 ∷ Deliver 6
    ∷ Deliver 7 ∷ Deliver 9 ∷ Deliver 10 ∷ Restore 0 1 ∷ Deliver 11 ∷ Request (vote_entry 1 1 0 0 4 0x01 true 10) 0
    -- process 2 takes the store over
    ∷ Request (take_entry 2 1 0) 0 ∷ Deliver 13 ∷ Open 0 1 3 ∷ Deliver 14 ∷ Deliver 15 ∷ Deliver 17 ∷ Deliver 18 ∷ Propose 0 1 3 ∷ Deliver 19
    ∷ Deliver 20 ∷ Deliver 22 ∷ Deliver 23
    -- the vote arrives and is decided in instance 2
    ∷ Deliver 12 ∷ Open 0 2 3 ∷ Deliver 24 ∷ Deliver 25 ∷ Deliver 27 ∷ Deliver 28 ∷ Propose 0 2 3 ∷ Deliver 29 ∷ Deliver 30 ∷ Deliver 32
    ∷ Deliver 33
    ∷ []

pub three_decided : 3 ≤ length (demand_3 takeover).sequence
unfolding computed
three_decided = decides takeover 0 3 refl

-- the vote is refused: process 2 holds the store, and nothing is known of the transaction
pub taken_over : holder_of (log_of (computed takeover) 0) 0 ≡ 2
unfolding computed
taken_over = refl

pub vote_refused : outcome_of (log_of (computed takeover) 0) 4 ≡ outcome.Open
unfolding computed
vote_refused = refl
