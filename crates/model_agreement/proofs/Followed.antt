-- The follow is needed, and does what it is for: a list of steps in which the update of a committed
-- transaction is neither a row of the last restore nor a follow, and then is a follow. What the claim
-- asks for is there, so it says so too.
use Prim.Native.Nat.{ℕ, ◌≤◌, ◌<◌}
use mathlib.Core.Path.{◌≡◌, refl, sym, ap, subst, ◌∙◌}
use mathlib.Core.Bool.{true}
use mathlib.Core.List.{List, ◌++◌}
use mathlib.Core.Logic.{◌≢◌, inl, inr}
use native.Mathlib.Omega.{arith}
use lib.ListN.{drop, length, take, take-append-drop}
use lib.Seq.{take-take}
use Rattle.log_entry.specs.Bits.{has}
use Rattle.log_entry.proofs.Tests.{opposed}
use Rattle.log_core.specs.declared.Log.{Log}
use Rattle.log_core.specs.declared.Replay.{Replay}
use Rattle.log_votes.specs.Vote.{vote_kept, vote_process, vote_turn, vote_update}
use Rattle.log_votes.specs.declared.Outcome.TheVariants as outcome
use Rattle.log_core.specs.Log.{held_before, holder_of, latest_of, outcome_of, vote_at}
use Rattle.log_core.specs.Replay.{row_at}
use Rattle.log_laws.specs.Conditions.{Took}
use Rattle.log_laws.specs.Reached.{reached}
use Rattle.log_laws.specs.TakenOver.{RowIn}
use Rattle.log_laws.specs.Votes.{KeptCommit}
use Rattle.log_laws.proofs.TakenBefore.{took_turn}
use Rattle.log_laws.proofs.Theorems.{held_before_exactly, kept_vote_stays, outcome_never_changes}
use Rattle.model_steps.specs.declared.Step.{Step}
use Rattle.model_protocol.specs.Tables.{follows_taken, left_running, restored_once, steps_of, update_a}
use Rattle.model_protocol.specs.Batch.{Batch}
use Rattle.model_protocol.specs.declared.World.{World}
use Rattle.model_protocol.specs.Step.{run}
use Rattle.model_protocol.specs.World.{coordinator_of, follows_of, fresh_world, log_of, process_of, restored_to}
use Rattle.model_protocol.proofs.Compute.{computed}
use Rattle.model_agreement.specs.Claim.{Claim, IsSequence}
use Rattle.model_agreement.specs.History.{Restored, history, restored_of}
use Rattle.model_agreement.specs.Plain.{all_entries, plain_log}
use Rattle.model_agreement.specs.TakenOver.{AllFollowed, EarlierCommit, Holds}
use Rattle.model_agreement.proofs.FollowsKept.{followed_is}
use Rattle.model_agreement.proofs.Plain.{plain_reached}
use Rattle.model_agreement.proofs.Theorem.{demand_3, not_open}

-- process 2 took store 0 over while transaction 4 ran, with a commit vote of process 1; it is
-- committed since, and process 2 took its restore
abbrev before : List Step
before = steps_of (restored_once ++ left_running)

-- and then the follows
abbrev after : List Step
after = steps_of (restored_once ++ left_running ++ follows_taken)

-- the vote of the old holder, and its transaction
pub old_vote_committed : KeptCommit (log_of (computed before) 0) 4 0
    × (vote_update (vote_at (log_of (computed before) 0) 4 0) ≡ update_a)
    × (vote_process (vote_at (log_of (computed before) 0) 4 0) ≡ 1)
    × (outcome_of (log_of (computed before) 0) 4 ≡ outcome.Commit)
    × (holder_of (log_of (computed before) 0) 0 ≡ 2)
unfolding computed restored_once left_running
old_vote_committed = ((refl, refl), refl, refl, refl, refl)

-- a replay with one row, of another transaction
other_row : (y : Replay) (tx update : ℕ) → y.count ≡ 1 → (row_at y 0).tx ≢ tx → RowIn y tx update → ⊥
other_row y tx update c d r =
    let z : r.0 ≡ 0 = omega (arith, r.1) in
    d (subst (λ (i : ℕ). (row_at y i).tx ≡ tx) z r.2)

-- the one row of the restore is of transaction 5
one_row : ((restored_to (computed before) 2).count ≡ 1) × ((row_at (restored_to (computed before) 2) 0).tx ≡ 5)
unfolding computed restored_once left_running
one_row = (refl, refl)

-- in neither
pub not_held_before : Holds (restored_of 2 (history before)) 4 update_a → ⊥
unfolding computed restored_once left_running
not_held_before (inl r) =
    other_row (restored_to (computed before) 2) 4 update_a one_row.0 (λ e. omega (arith, one_row.1, e))
    (subst (λ (y : Replay). RowIn y 4 update_a) (sym ((demand_3 before).restored_replay 2)) r)
not_held_before (inr t) = opposed (((demand_3 before).restored_follows 2 _).1 t).0 refl

-- in one
pub held_after : Holds (restored_of 2 (history after)) 4 update_a
unfolding computed restored_once left_running follows_taken
held_after = inr (((demand_3 after).restored_follows 2 (record { tx = 4; outcome = outcome.Commit; update = update_a })).0 (refl, refl))

-- ---- the claim says so too: nothing is lost, and what it asks for is there

abbrev sequence : List Batch
sequence = (demand_3 after).sequence

-- the first steps, until the restore is sent
abbrev count : ℕ
count = 62

abbrev sending : List Step
sending = take count after

-- coordinator 0 has applied three batches by then, and process 1 has taken store 0
three_applied : ((coordinator_of (computed sending) 0).applied ≡ 3) × (held_before (log_of (computed sending) 0) 1 0 ≡ true) × (latest_of (log_of (computed sending) 0) 1 ≡ 1)
unfolding computed restored_once left_running follows_taken
three_applied = (refl, refl, refl)

-- the log that sent the restore
sender : log_of (computed sending) 0 ≡ plain_log (take 3 sequence)
unfolding computed
sender =
    c.logs 0
    ∙ ap (λ (n : ℕ). plain_log (take n c.sequence)) three_applied.0
    ∙ ap plain_log (ap (take 3) begins ∙ take-take 3 (length c.sequence) sequence enough)
  where
    c : Claim sending (history sending) (run fresh_world sending)
    c = demand_3 sending

    begins : c.sequence ≡ take (length c.sequence) sequence
    begins = c.only_grows (drop count after) sequence (subst (λ (steps : List Step). IsSequence (history steps) sequence) (sym (take-append-drop count after)) (demand_3 after).is_sequence)

    enough : 3 ≤ length c.sequence
    enough = subst (λ (n : ℕ). n ≤ length c.sequence) three_applied.0 (c.applied_within 0)

-- ---- and at the end

abbrev world : World
world = computed after

abbrev restored : Restored
restored = restored_of 2 (history after)

at_end : ((process_of world 2).store ≡ 0) × ((process_of world 2).position ≡ 3) × ((process_of world 2).followed ≡ 0x50)
    × ((process_of world 2).running ≡ 0x50) × ((coordinator_of world 0).applied ≡ 4)
unfolding computed restored_once left_running follows_taken
at_end = (refl, refl, refl, refl, refl)

old_vote : KeptCommit (log_of world 0) 4 0 × (vote_process (vote_at (log_of world 0) 4 0) ≡ 1) × (vote_turn (vote_at (log_of world 0) 4 0) ≡ 1) × (outcome_of (log_of world 0) 4 ≡ outcome.Commit)
unfolding computed restored_once left_running follows_taken
old_vote = ((refl, refl), refl, refl, refl)

its_store : restored.store ≡ 0
unfolding computed
its_store = sym ((demand_3 after).restored_store 2) ∙ at_end.0

its_position : restored.position ≡ 3
unfolding computed
its_position = sym ((demand_3 after).restored_position 2) ∙ at_end.1

-- a follow of each listed transaction was taken
pub all_followed : AllFollowed restored
unfolding computed
all_followed tx listed =
    sym (followed_is (process_of world 2) (follows_of world 2) restored.follows ((demand_3 after).restored_follows 2) tx)
    ∙ ap (λ (set : ℕ). has set tx) (at_end.2 ∙ sym at_end.3 ∙ (demand_3 after).restored_running 2)
    ∙ listed

-- ---- the vote of the old holder, by the plain log fed the whole sequence

last : log_of world 0 ≡ reached (all_entries (take 4 sequence))
unfolding computed plain_log
last = (demand_3 after).logs 0 ∙ ap (λ (n : ℕ). plain_log (take n sequence)) at_end.4

vote_stays : vote_at (plain_log sequence) 4 0 ≡ vote_at (log_of world 0) 4 0
vote_stays =
    ap (λ (l : Log). vote_at l 4 0) (plain_reached 4 sequence)
    ∙ kept_vote_stays (all_entries (take 4 sequence)) (all_entries (drop 4 sequence)) 4 0 (subst (λ (l : Log). vote_kept (vote_at l 4 0) ≡ true) last old_vote.0.0)
    ∙ ap (λ (l : Log). vote_at l 4 0) (sym last)

outcome_stays : outcome_of (plain_log sequence) 4 ≡ outcome.Commit
outcome_stays =
    ap (λ (l : Log). outcome_of l 4) (plain_reached 4 sequence)
    ∙ outcome_never_changes (all_entries (take 4 sequence)) (all_entries (drop 4 sequence)) 4 (λ e. not_open outcome.Commit tt (sym committed ∙ e))
    ∙ committed
  where
    committed : outcome_of (reached (all_entries (take 4 sequence))) 4 ≡ outcome.Commit
    committed = ap (λ (l : Log). outcome_of l 4) (sym last) ∙ old_vote.3

-- it took it in turn 1: no later turn of it is in that log
took : Took (all_entries (take 3 sequence)) 1 1 0
unfolding plain_log
took = subst (λ (t : ℕ). Took (all_entries (take 3 sequence)) 1 t 0) (omega (arith, turns.0, turns.1, last)) some.1
  where
    some : (turn : ℕ) × Took (all_entries (take 3 sequence)) 1 turn 0
    some = (held_before_exactly (all_entries (take 3 sequence)) 1 0).0 (subst (λ (l : Log). held_before l 1 0 ≡ true) sender three_applied.1)

    turns : (1 ≤ some.0) × (some.0 ≤ latest_of (reached (all_entries (take 3 sequence))) 1)
    turns = took_turn (all_entries (take 3 sequence)) 1 some.0 0 some.1

    last : latest_of (reached (all_entries (take 3 sequence))) 1 ≡ 1
    last = ap (λ (l : Log). latest_of l 1) (sym sender) ∙ three_applied.2

-- the premises of `none_lost` hold here
pub earlier : EarlierCommit 2 restored sequence 4
earlier = record {
  kept_commit = rw (its_store, vote_stays) old_vote.0;
  committed = outcome_stays;
  took = rw (voter, in_turn, its_store, its_position) took;
  another = λ e. absurd (omega (arith, e, voter));
}
  where
    voter : vote_process (vote_at (plain_log sequence) 4 restored.store) ≡ 1
    voter = rw (its_store, vote_stays) old_vote.1

    in_turn : vote_turn (vote_at (plain_log sequence) 4 restored.store) ≡ 1
    in_turn = rw (its_store, vote_stays) old_vote.2

-- so it gives what was found above: the update is held
pub held_by_the_claim : Holds restored 4 (vote_update (vote_at (plain_log sequence) 4 restored.store))
held_by_the_claim = (demand_3 after).taken_over.none_lost 2 4 (subst (λ (n : ℕ). 0 < n) (sym its_position) (omega arith)) all_followed earlier
