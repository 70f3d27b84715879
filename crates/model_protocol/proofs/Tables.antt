-- The tables of steps and answers, by computation, and what stands in the world at their ends.
use Prim.Native.Nat.{ℕ}
use mathlib.Core.Path.{◌≡◌, refl}
use mathlib.Core.Bool.{true, false}
use mathlib.Core.List.{List, [], ◌∷◌, ◌++◌, map}
use lib.ListN.{get_or, take}
use Rattle.log_entry.specs.declared.Entry.{Entry}
use Rattle.log_votes.specs.declared.Outcome.{Outcome}
use Rattle.log_votes.specs.declared.Outcome.TheVariants as outcome
use Rattle.log_votes.specs.Vote.{vote_kept, vote_turn, vote_update}
use Rattle.log_core.specs.declared.Replayed.{Replayed}
use Rattle.log_core.specs.Log.{turn_of, vote_at}
use Rattle.log_core.specs.Replay.{no_replay, rows_from, rows_in}
use Rattle.model_protocol.specs.declared.Followed.{Followed}
use Rattle.model_protocol.specs.declared.Message.{Message}
use Rattle.model_protocol.specs.declared.Process.{Process}
use Rattle.model_protocol.specs.declared.World.{World}
use Rattle.model_protocol.specs.Process.{takes_follow}
use Rattle.model_protocol.specs.Queue.{queued}
use Rattle.model_protocol.specs.Tables.{Holds, Tried, accept_promises, answers_the_down, as_defined, ballots_of_one, before_setup, comes_back, comes_back_again, down_and_belief, follows_taken, full_queue, hears_again, learns_anothers, left_running, none_to_follow, numbers_used, of_five, opens_with_three, other_instance, own_left_running, proposes_with_three, receivers_down, restored_anew, restored_once, steps_of, taken_over, three_left, told, update_a, update_b}
use Rattle.model_protocol.specs.World.{coordinator_of, follows_of, log_of, no_followed, message_of, process_of, restored_to, slot_of, started_in}
use Rattle.model_protocol.proofs.Compute.{computed}
use Rattle.model_protocol.specs.Message.{said_accepted, said_acceptor, said_batch}

pub before_setup_lem : Holds before_setup
unfolding computed as_defined before_setup
before_setup_lem = refl

pub ballots_of_one_lem : Holds ballots_of_one
unfolding computed as_defined ballots_of_one
ballots_of_one_lem = refl

pub of_five_lem : Holds of_five
unfolding computed as_defined of_five
of_five_lem = refl

pub down_and_belief_lem : Holds (restored_once ++ down_and_belief)
unfolding computed as_defined restored_once down_and_belief
down_and_belief_lem = refl

pub numbers_used_lem : Holds (restored_once ++ three_left ++ numbers_used)
unfolding computed as_defined restored_once three_left numbers_used
numbers_used_lem = refl

pub proposes_with_three_lem : Holds (restored_once ++ three_left ++ proposes_with_three)
unfolding computed as_defined restored_once three_left proposes_with_three
proposes_with_three_lem = refl

pub opens_with_three_lem : Holds (restored_once ++ three_left ++ opens_with_three)
unfolding computed as_defined restored_once three_left opens_with_three
opens_with_three_lem = refl

pub full_queue_lem : Holds full_queue
unfolding computed as_defined full_queue
full_queue_lem = refl

pub other_instance_lem : Holds (restored_once ++ other_instance)
unfolding computed as_defined restored_once other_instance
other_instance_lem = refl

pub learns_anothers_lem : Holds learns_anothers
unfolding computed as_defined learns_anothers
learns_anothers_lem = refl

pub accept_promises_lem : Holds accept_promises
unfolding computed as_defined accept_promises
accept_promises_lem = refl

pub answers_the_down_lem : Holds answers_the_down
unfolding computed as_defined answers_the_down
answers_the_down_lem = refl

pub told_answers : Holds (restored_once ++ told)
unfolding computed as_defined restored_once told
told_answers = refl

pub receivers_down_lem : Holds (restored_once ++ told ++ receivers_down)
unfolding computed as_defined restored_once told receivers_down
receivers_down_lem = refl

pub taken_over_answers : Holds (restored_once ++ taken_over)
unfolding computed as_defined restored_once taken_over
taken_over_answers = refl

pub left_running_lem : Holds (restored_once ++ left_running ++ follows_taken ++ restored_anew)
unfolding computed as_defined restored_once left_running follows_taken restored_anew
left_running_lem = refl

pub none_to_follow_lem : Holds (restored_once ++ left_running ++ none_to_follow)
unfolding computed as_defined restored_once left_running none_to_follow
none_to_follow_lem = refl

pub comes_back_lem : Holds (restored_once ++ comes_back ++ comes_back_again ++ hears_again)
unfolding computed as_defined restored_once comes_back comes_back_again hears_again
comes_back_lem = refl

pub own_left_running_lem : Holds (restored_once ++ own_left_running)
unfolding computed as_defined restored_once own_left_running
own_left_running_lem = refl

-- ---- what stands in the world at the end

abbrev after : List Tried → World
after table = computed (steps_of table)

-- who asked for the entries that are queued
abbrev queued_by : World → ℕ → List ℕ
queued_by w k = map (λ (e : Entry). e.process) (queued (coordinator_of w k).queue)

abbrev heard_of : World → ℕ → ℕ → Outcome
heard_of w p tx = (get_or (process_of w p).heard tx (record { outcome = outcome.Open })).outcome

-- the last restore that a process took
abbrev rows_of : World → ℕ → List Replayed
rows_of w p = take (restored_to w p).count (rows_in (restored_to w p))

-- "the first up to four queue entries" were proposed; the rest keep their order, and the refused
-- one could join later
pub first_four : ((said_batch (message_of (after full_queue) 15)).count ≡ 4)
    × ((log_of (after full_queue) 0).holders ≡ 1 ∷ 2 ∷ 3 ∷ 4 ∷ 0 ∷ 0 ∷ 0 ∷ 0 ∷ [])
    × (queued_by (after full_queue) 0 ≡ 5 ∷ 6 ∷ 7 ∷ 8 ∷ 9 ∷ [])
unfolding computed full_queue
first_four = (refl, refl, refl)

-- "Queue entries equal to an entry of the learned batch leave, the rest keep their order."
pub equal_ones_leave : ((log_of (after learns_anothers) 1).holders ≡ 1 ∷ 2 ∷ 0 ∷ 0 ∷ 0 ∷ 0 ∷ 0 ∷ 0 ∷ [])
    × (queued_by (after learns_anothers) 1 ≡ 9 ∷ 8 ∷ [])
    × (queued_by (after learns_anothers) 0 ≡ 1 ∷ 2 ∷ [])
unfolding computed learns_anothers
equal_ones_leave = (refl, refl, refl)

-- "sends prepare to every acceptor, down or not, acceptor 0 first"; a promise carries the accepted
-- pair; an accept promises
pub slot_and_promise : (map (λ (m : Message). said_acceptor m) (take 4 (after accept_promises).messages) ≡ 0 ∷ 0 ∷ 1 ∷ 2 ∷ [])
    × ((slot_of (after accept_promises) 2 0).promised ≡ 8)
    × ((slot_of (after accept_promises) 2 0).ballot ≡ 6)
    × (said_accepted (message_of (after accept_promises) 16) ≡ 6)
    × ((after accept_promises).sent ≡ 17)
unfolding computed accept_promises
slot_and_promise = (refl, refl, refl, refl, refl)

-- each hears what the tells delivered to it say, of an abort too, and nothing else
pub heard_told : (heard_of (after (restored_once ++ told)) 1 4 ≡ outcome.Commit)
    × (heard_of (after (restored_once ++ told)) 1 5 ≡ outcome.Open)
    × (heard_of (after (restored_once ++ told)) 1 6 ≡ outcome.Abort)
    × (heard_of (after (restored_once ++ told)) 1 7 ≡ outcome.Open)
    × (heard_of (after (restored_once ++ told)) 2 4 ≡ outcome.Open)
    × (heard_of (after (restored_once ++ told)) 2 5 ≡ outcome.Abort)
unfolding computed restored_once told
heard_told = (refl, refl, refl, refl, refl, refl)

-- the position is the applied count; an older restore that comes later is not taken
pub restored_last : ((process_of (after restored_once) 1).position ≡ 1)
    × (rows_of (after restored_once) 1 ≡ [])
    × ((process_of (after (restored_once ++ told)) 1).position ≡ 2)
    × ((process_of (after (restored_once ++ told)) 1).store ≡ 0)
    × (rows_of (after (restored_once ++ told)) 1 ≡ record { group = 1; tx = 4; update = update_a } ∷ [])
unfolding computed restored_once told rows_from
restored_last = (refl, refl, refl, refl, refl)

-- a store that was taken over, and the next one
pub restored_other : ((log_of (after (restored_once ++ taken_over)) 0).holders ≡ 2 ∷ 1 ∷ 0 ∷ 0 ∷ 0 ∷ 0 ∷ 0 ∷ 0 ∷ [])
    × ((process_of (after (restored_once ++ taken_over)) 1).store ≡ 1)
    × ((process_of (after (restored_once ++ taken_over)) 1).position ≡ 3)
unfolding computed restored_once taken_over
restored_other = (refl, refl, refl)

-- "A restore shall also carry the running transactions in which the store has a kept commit vote":
-- 4 and 6, and no follow was taken yet
pub listed_running : ((process_of (after (restored_once ++ left_running)) 2).running ≡ 0x50)
    × ((process_of (after (restored_once ++ left_running)) 2).followed ≡ 0)
    × (rows_of (after (restored_once ++ left_running)) 2 ≡ record { group = 1; tx = 5; update = update_b } ∷ [])
    × ((process_of (after (restored_once ++ left_running)) 3).running ≡ 0)
unfolding computed restored_once left_running rows_from
listed_running = (refl, refl, refl, refl)

abbrev follow_of : World → ℕ → ℕ → Followed
follow_of w p tx = get_or (follows_of w p).of tx no_followed

-- "the outcome and the update (0 if aborted)"
pub follows_kept : ((process_of (after (restored_once ++ left_running ++ follows_taken)) 2).running ≡ 0x50)
    × ((process_of (after (restored_once ++ left_running ++ follows_taken)) 2).followed ≡ 0x50)
    × (follow_of (after (restored_once ++ left_running ++ follows_taken)) 2 4 ≡ record { outcome = outcome.Commit; update = update_a })
    × (follow_of (after (restored_once ++ left_running ++ follows_taken)) 2 6 ≡ record { outcome = outcome.Abort; update = 0 })
    × ((process_of (after (restored_once ++ left_running ++ follows_taken)) 3).followed ≡ 0)
    × ((process_of (after (restored_once ++ left_running ++ follows_taken)) 1).followed ≡ 0)
unfolding computed restored_once left_running follows_taken
follows_kept = (refl, refl, refl, refl, refl, refl)

-- a later restore lists what runs then, and no follow was taken since it; transaction 4 ran when
-- group 1 was begun
pub begins_anew : ((process_of (after (restored_once ++ left_running ++ follows_taken ++ restored_anew)) 2).running ≡ 0)
    × ((process_of (after (restored_once ++ left_running ++ follows_taken ++ restored_anew)) 2).followed ≡ 0)
    × (rows_of (after (restored_once ++ left_running ++ follows_taken ++ restored_anew)) 2
    ≡ record { group = 1; tx = 4; update = update_a } ∷ record { group = 1; tx = 5; update = update_b } ∷ [])
unfolding computed restored_once left_running follows_taken restored_anew rows_from
begins_anew = (refl, refl, refl)

-- the vote of turn 2 is kept, and the late one of turn 1 is not; the holder's turn is 2
pub late_vote_refused : (vote_turn (vote_at (log_of (after (restored_once ++ comes_back)) 0) 5 0) ≡ 2)
    × (vote_update (vote_at (log_of (after (restored_once ++ comes_back)) 0) 5 0) ≡ update_b)
    × (vote_kept (vote_at (log_of (after (restored_once ++ comes_back)) 0) 4 0) ≡ false)
    × (turn_of (log_of (after (restored_once ++ comes_back)) 0) 0 ≡ 2)
    × (queued_by (after (restored_once ++ comes_back)) 0 ≡ [])
unfolding computed restored_once comes_back
late_vote_refused = (refl, refl, refl, refl, refl)

-- what it knows before it comes back once more
pub known_in_turn_2 : ((process_of (after (restored_once ++ comes_back)) 1).turn ≡ 2)
    × ((process_of (after (restored_once ++ comes_back)) 1).position ≡ 2)
    × (heard_of (after (restored_once ++ comes_back)) 1 5 ≡ outcome.Commit)
unfolding computed restored_once comes_back
known_in_turn_2 = (refl, refl, refl)

-- "with nothing heard and nothing held": as a process of a fresh world, and the restore of turn 2
-- is not taken in turn 3
pub knows_nothing : (process_of (after (restored_once ++ comes_back ++ comes_back_again)) 1 ≡ started_in 3)
    × (restored_to (after (restored_once ++ comes_back ++ comes_back_again)) 1 ≡ no_replay)
unfolding computed restored_once comes_back comes_back_again
knows_nothing = (refl, refl)

-- a tell from before is heard in the new turn; and a later `back` forgets it again
pub heard_again : (heard_of (after (restored_once ++ comes_back ++ comes_back_again ++ take 1 hears_again)) 1 5 ≡ outcome.Commit)
    × (process_of (after (restored_once ++ comes_back ++ comes_back_again ++ hears_again)) 1 ≡ started_in 255)
    × (get_or (after (restored_once ++ comes_back ++ comes_back_again ++ hears_again)).down.processes 1 true ≡ false)
unfolding computed restored_once comes_back comes_back_again hears_again
heard_again = (refl, refl, refl)

-- a process that came back is told what it left running in an earlier turn
pub own_listed : ((process_of (after (restored_once ++ own_left_running)) 1).turn ≡ 2)
    × ((process_of (after (restored_once ++ own_left_running)) 1).position ≡ 3)
    × ((process_of (after (restored_once ++ own_left_running)) 1).running ≡ 0x10)
    × (vote_turn (vote_at (log_of (after (restored_once ++ own_left_running)) 0) 4 0) ≡ 1)
unfolding computed restored_once own_left_running
own_listed = (refl, refl, refl, refl)

-- a process whose last restore is of store 0 and lists 4, 5 and 6, and that took a follow of 6
abbrev followed6 : Process
followed6 = record { turn = 1; heard = []; store = 0; position = 3; running = 0x70; followed = 0x40 }

-- "exactly if it is for its last restore's store and a transaction listed there as running, and none
-- for that transaction was taken since that restore"
pub takes_exactly : map (λ (tx : ℕ). takes_follow followed6 0 tx) (3 ∷ 4 ∷ 5 ∷ 6 ∷ 7 ∷ []) ≡ false ∷ true ∷ true ∷ false ∷ false ∷ []
takes_exactly = refl

pub takes_none : (takes_follow followed6 1 4 ≡ false) × (takes_follow (record { turn = 1; heard = []; store = 0; position = 0; running = 0x10; followed = 0 }) 0 4 ≡ false)
takes_none = (refl, refl)
