-- The steps of the world: for each kind the refusals, in the order in which they are tried, and
-- what the step does. Both go by the parts of the world that the step touches.
use Rattle.std.specs.Prelude.{ℕ, suc, Bool, ◌&&◌, ◌||◌, not, cond, List, [], ◌∷◌, eqb, leb, get_or, is_ok, set}
use Rattle.log_entry.specs.declared.Entry.{Entry}
use Rattle.log_entry.specs.Entry.{by_of, ill_formed, is_take}
use Rattle.log_entry.specs.Limits.{stores}
use Rattle.log_entry.specs.Number.{Answer}
use Rattle.log_entry.specs.Refusal.{accepted, check, Check, first_refusal, ill_formed_vote, no_place, not_met, not_sent_yet, outside_limits, party_down}
use Rattle.log_core.specs.declared.Log.{Log}
use Rattle.log_core.specs.declared.Replay.{Replay}
use Rattle.log_core.specs.Enter.{feed}
use Rattle.log_votes.specs.Vote.{vote_update}
use Rattle.log_votes.specs.Outcome.{is_commit, is_committed, is_open}
use Rattle.log_core.specs.Follow.{awaited_of}
use Rattle.log_core.specs.Log.{outcome_of, turn_of, vote_at}
use Rattle.log_core.specs.Replay.{no_replay, replay_of}
use Rattle.model_steps.specs.declared.Role.TheVariants.{Coord, Proc}
use Rattle.model_steps.specs.declared.Step.{Step}
use Rattle.model_steps.specs.declared.Step.TheVariants.{Setup, Request, Open, Propose, Deliver, Tell, Restore, Follow, Crash, Back}
use Rattle.model_steps.specs.Limits.{most_acceptors, outside_step}
use Rattle.model_protocol.specs.declared.Change.{Change}
use Rattle.model_protocol.specs.declared.Coordinator.{Coordinator}
use Rattle.model_protocol.specs.declared.Message.{Message}
use Rattle.model_protocol.specs.declared.Parts.{Parts}
use Rattle.model_protocol.specs.declared.Places.{Places}
use Rattle.model_protocol.specs.declared.Process.{Process}
use Rattle.model_protocol.specs.declared.Stepped.{Stepped}
use Rattle.model_protocol.specs.declared.World.{World}
use Rattle.model_owners.specs.Owners.{owner}
use Rattle.model_paxos.specs.Majority.{majority}
use Rattle.model_protocol.specs.Batch.{entries_of}
use Rattle.model_protocol.specs.Change.{acceptors_now, coordinator_now, done, down_now, gives_replay, is_anew, is_given, is_kept, is_taken, learned_by, parts, process_now, sending, starts_anew}
use Rattle.model_protocol.specs.Coordinator.{batch_to_propose, is_proposed, proposing, with_round}
use Rattle.model_protocol.specs.Deliver.{delivery_change, no_place_for, receiver_down}
use Rattle.model_protocol.specs.Message.{accept_to, follow_to, prepare_to, request_to, restore_to, said_kind, said_outcome, said_store, tell_to}
use Rattle.model_protocol.specs.Places.{message_at, places_of}
use Rattle.model_protocol.specs.Process.{believes, with_follow}
use Rattle.model_protocol.specs.Send.{copy_of, lacks_numbers, send_to_all}
use Rattle.model_protocol.specs.World.{coordinator_of, crashed, empty_slot, follows_of, is_down, log_of, message_of, new_round, no_follows, process_of, replay_with, started_in, up_again}

-- 5: no setup
abbrev pub not_set_up : Parts → Bool
not_set_up p = eqb p.acceptors 0

-- "before setup five acceptors count"
abbrev pub acceptors_counted : ℕ → ℕ
acceptors_counted n = cond (eqb n 0) most_acceptors n

-- the store that the process holds; one past the last store if it holds none
unfoldable pub held_from : ℕ → ℕ → List ℕ → ℕ
held_from process store [] = store
held_from process store (h ∷ holders) = cond (eqb h process) store (held_from process (suc store) holders)

abbrev pub held_store : Log → ℕ → ℕ
held_store l process = held_from process 0 l.holders

-- the store that the process holds, if it has a kept commit vote on the transaction; one past the
-- last store if not
abbrev pub voting_store : Log → ℕ → ℕ → ℕ
voting_store l process tx = let s = held_store l process in cond (is_commit s (vote_at l tx s)) s stores

-- "the update (0 if aborted)" of the store's vote on a decided transaction
abbrev pub update_of : Log → ℕ → ℕ → ℕ
update_of l tx store = cond (is_committed (outcome_of l tx)) (vote_update (vote_at l tx store)) 0

-- ---- refusals

-- "voter does not believe it holds `by`"
abbrev pub voter_not_holder : Entry → Process → Bool
voter_not_holder e p = not (is_take e) && not (believes p (by_of e))

-- "A take or vote with another turn than the process's present one"
abbrev pub other_turn : Entry → Process → Bool
other_turn e p = not (eqb e.turn p.turn)

-- "a ballot of its own, above all it opened in the current instance"
abbrev pub cannot_open : Coordinator → ℕ → ℕ → ℕ → Bool
cannot_open k c i b = not (eqb i k.applied) || not (eqb (owner b) c) || leb b k.round.ballot

-- "no majority of promises; proposed already; nothing to propose", where there are n acceptors
abbrev pub cannot_propose : ℕ → Coordinator → ℕ → ℕ → Bool
cannot_propose n k i b =
    not (eqb i k.applied)
    || not (eqb b k.round.ballot)
    || not (majority n k.round.promises)
    || is_proposed k.round
    || eqb k.round.accepted 0 && eqb k.queue.count 0

-- the refusals after 2, by the parts that the step touches. A message that was not sent has no
-- receiver, so 4 is tried before 3
unfoldable pub step_checks : Parts → Step → List Check
step_checks p (Setup n) = check not_met (not (not_set_up p)) ∷ []
-- "A sent vote meets 1, 2, 3, 5, 6, 7". A sent take meets 5 too, where there was no setup or the
-- turn is another, but not 7, and nobody asks what its process believes
step_checks p (Request e to) =
    check party_down (is_down p.down Proc e.process || is_down p.down Coord to)
    ∷ check not_met (not_set_up p || other_turn e p.process || voter_not_holder e p.process)
    ∷ check no_place (lacks_numbers p.sent 1)
    ∷ check ill_formed_vote (not (is_take e) && ill_formed e)
    ∷ []
step_checks p (Open c i b) =
    check party_down (is_down p.down Coord c)
    ∷ check not_met (not_set_up p || cannot_open p.coordinator c i b)
    ∷ check no_place (lacks_numbers p.sent p.acceptors)
    ∷ []
step_checks p (Propose c i b) =
    check party_down (is_down p.down Coord c)
    ∷ check not_met (not_set_up p || cannot_propose p.acceptors p.coordinator i b)
    ∷ check no_place (lacks_numbers p.sent p.acceptors)
    ∷ []
step_checks p (Deliver m) =
    check not_sent_yet (leb p.sent m)
    ∷ check party_down (receiver_down p.down p.message (said_kind p.message))
    ∷ check not_met (not_set_up p)
    ∷ check no_place (no_place_for p (said_kind p.message))
    ∷ []
step_checks p (Tell c process tx) =
    check party_down (is_down p.down Coord c || is_down p.down Proc process)
    ∷ check not_met (not_set_up p || is_open (said_outcome p.message))
    ∷ check no_place (lacks_numbers p.sent 1)
    ∷ []
step_checks p (Restore c process) =
    check party_down (is_down p.down Coord c || is_down p.down Proc process)
    ∷ check not_met (not_set_up p || leb stores (said_store p.message))
    ∷ check no_place (lacks_numbers p.sent 1)
    ∷ []
-- "Follow is refused 5 while the transaction runs, where the process is not the holder, or where the
-- store has no kept commit vote on it." `FollowRefusedExactly` says it of the log
step_checks p (Follow c process tx) =
    check party_down (is_down p.down Coord c || is_down p.down Proc process)
    ∷ check not_met (not_set_up p || is_open (said_outcome p.message) || leb stores (said_store p.message))
    ∷ check no_place (lacks_numbers p.sent 1)
    ∷ []
step_checks p (Crash role id) = check party_down (is_down p.down role id) ∷ check not_met (not_set_up p) ∷ []
-- "starts a process again, down or up (3 does not stop it)"; "the turn must be above its present
-- one"
step_checks p (Back process turn) = check not_met (not_set_up p || leb turn p.process.turn) ∷ []

-- the answer to a step: "The lowest number that applies is given."
unfoldable pub step_refusal : Parts → Step → Answer
step_refusal p s = first_refusal (check outside_limits (outside_step (acceptors_counted p.acceptors) s) ∷ step_checks p s)

-- ---- what an accepted step does to the parts, and what it sends

unfoldable pub change_of : Parts → Step → Change
change_of p (Setup n) = done (acceptors_now p n)
change_of p (Request e to) = sending p 1 (request_to to e)
-- "sends prepare to every acceptor, down or not, acceptor 0 first"
change_of p (Open c i b) = sending (coordinator_now p (with_round p.coordinator (new_round b))) p.acceptors (prepare_to i b 0)
-- "Sends accept to every acceptor in the same order."
change_of p (Propose c i b) =
    let v = batch_to_propose p.coordinator in
    sending (coordinator_now p (with_round p.coordinator (proposing p.coordinator.round v))) p.acceptors (accept_to i b v 0)
change_of p (Deliver m) = delivery_change p (said_kind p.message)
change_of p (Tell c process tx) = sending p 1 p.message
change_of p (Restore c process) = gives_replay p p.message
change_of p (Follow c process tx) = sending p 1 p.message
change_of p (Crash role id) = done (down_now p (crashed p.down role id))
-- "starts a process again [..], with nothing heard and nothing held"
change_of p (Back process turn) = starts_anew (down_now (process_now p (started_in turn)) (up_again p.down process))

-- ---- the message of a step, where d is the one that it delivers; l is the log of a coordinator
-- that applied n instances

unfoldable pub message_for : Step → Message → Log → ℕ → Message
message_for (Setup k) d l n = d
message_for (Request e to) d l n = d
message_for (Open c i b) d l n = d
message_for (Propose c i b) d l n = d
message_for (Deliver m) d l n = d
-- "`tell` sends a process the outcome of a decided tx."
message_for (Tell c process tx) d l n = tell_to process tx (outcome_of l tx)
-- "`restore` sends the store's holder, by this coordinator's log, the applied count as position and
-- the store's replay." The replay goes beside it: see `put_back`. "A restore shall also carry the
-- running transactions in which the store has a kept commit vote." It "names the holder's turn".
message_for (Restore c process) d l n =
    let s = held_store l process in
    restore_to process (turn_of l s) s n (awaited_of l s)
-- "`follow coord proc tx` sends the holder the store, the outcome and the update (0 if aborted)"
message_for (Follow c process tx) d l n =
    let s = voting_store l process tx in
    follow_to process s tx (outcome_of l tx) (update_of l tx s)
message_for (Crash role id) d l n = d
message_for (Back process turn) d l n = d

-- ---- the step: the parts are taken from their places, changed, and put back

-- the parts at these places, and the message
abbrev pub parts_at : World → Places → Message → Parts
parts_at w at m =
    parts
    w.acceptors
    w.sent
    w.down
    (coordinator_of w at.coordinator)
    (get_or w.slots at.slot empty_slot)
    (process_of w at.process)
    m

abbrev pub delivered_in : World → Step → Message
delivered_in w s = message_of w (message_at s)

abbrev pub replay_in : World → Step → Replay
replay_in w s = replay_with w (message_at s)

abbrev pub places_in : World → Step → Places
places_in w s = places_of s (delivered_in w s)

abbrev pub message_in : World → Step → Message
message_in w s =
    let k = (places_in w s).coordinator in
    message_for s (delivered_in w s) (log_of w k) (coordinator_of w k).applied

abbrev pub parts_of : World → Step → Parts
parts_of w s = parts_at w (places_in w s) (message_in w s)

-- the world with the parts of the change at these places, and the coordinator's log fed the batch.
-- The process may take r, the replay of the message delivered, or that message as a follow, or
-- start anew. With the message that is sent next may go its store's replay, by the coordinator's
-- log
abbrev pub put_back : World → Places → Replay → Change → World
put_back w at r ch =
    let log = log_of w at.coordinator in
    record {
      acceptors = ch.parts.acceptors;
      slots = set w.slots at.slot ch.parts.slot;
      coordinators = set w.coordinators at.coordinator ch.parts.coordinator;
      logs = set w.logs at.coordinator (feed log (entries_of (learned_by ch.beside)));
      processes = set w.processes at.process ch.parts.process;
      restored =
          cond (is_anew ch.beside)
          (set w.restored at.process no_replay)
          (cond (is_taken ch.beside) (set w.restored at.process r) w.restored);
      follows =
          cond (is_anew ch.beside)
          (set w.follows at.process no_follows)
          (cond (is_kept ch.beside)
          (set w.follows at.process (with_follow (follows_of w at.process) ch.parts.message))
          w.follows);
      down = ch.parts.down;
      messages = w.messages;
      replays = cond (is_given ch.beside) (set w.replays w.sent (replay_of log (said_store ch.message))) w.replays;
      sent = w.sent;
    }

-- the world after the change, r being the replay of the message delivered
abbrev pub changed : World → Places → Replay → Change → World
changed w at r ch = send_to_all (put_back w at r ch) ch.count (copy_of ch.message)

abbrev pub answered : World → Answer → Stepped
answered w a = record { world = w; answer = a }

-- the world after the step, and the answer: a refused step leaves the world as it was
unfoldable pub step_of : World → Step → Stepped
step_of w s =
    let p = parts_of w s in
    cond (is_ok (step_refusal p s)) (answered (changed w (places_in w s) (replay_in w s) (change_of p s)) accepted) (answered w (step_refusal p s))

-- "Each later one gets the world that the last one handed back"
unfoldable pub run : World → List Step → World
run w [] = w
run w (s ∷ steps) = run (step_of w s).world steps
