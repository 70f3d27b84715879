-- The step `deliver`: what a message of each kind does to its receiver.
use Rattle.std.specs.Prelude.{Bool, false, ◌&&◌, not, cond}
use Rattle.model_steps.specs.declared.Role.TheVariants.{Acceptor, Coord, Proc}
use Rattle.model_protocol.specs.declared.Change.{Change}
use Rattle.model_protocol.specs.declared.Down.{Down}
use Rattle.model_protocol.specs.Kind.{Kind, Request, Prepare, Accept, Promise, Accepted, Tell, Restore, Follow}
use Rattle.model_protocol.specs.declared.Message.{Message}
use Rattle.model_protocol.specs.declared.Parts.{Parts}
use Rattle.model_protocol.specs.Acceptor.{accepting, accepts, promises, promising}
use Rattle.model_owners.specs.Owners.{owner}
use Rattle.model_paxos.specs.Majority.{majority}
use Rattle.model_protocol.specs.Change.{slot_now, coordinator_now, done, keeps_follow, learns, process_now, sending, takes_replay}
use Rattle.model_protocol.specs.Coordinator.{counting, is_heard, learning, promise_heard, proposal_of, with_queue, with_round}
use Rattle.model_protocol.specs.Message.{accepted_from, promise_from, said_accepted, said_acceptor, said_ballot, said_batch, said_entry, said_inst, said_outcome, said_position, said_running, said_store, said_to, said_turn, said_tx}
use Rattle.model_protocol.specs.Process.{following, hearing_outcome, taking, takes_follow, takes_restore}
use Rattle.model_protocol.specs.Queue.{is_full, is_in, joining, queued}
use Rattle.model_protocol.specs.Send.{lacks_numbers}
use Rattle.model_protocol.specs.World.{is_down}

-- the receiver is down
abbrev pub receiver_down : Down → Message → Kind → Bool
receiver_down d m Request = is_down d Coord (said_to m)
receiver_down d m Prepare = is_down d Acceptor (said_acceptor m)
receiver_down d m Accept = is_down d Acceptor (said_acceptor m)
receiver_down d m Promise = is_down d Coord (owner (said_ballot m))
receiver_down d m Accepted = is_down d Coord (owner (said_ballot m))
receiver_down d m Tell = is_down d Proc (said_to m)
receiver_down d m Restore = is_down d Proc (said_to m)
receiver_down d m Follow = is_down d Proc (said_to m)

-- 6: no number is left for the answer of an acceptor that has one to send, or the queue is full for
-- a new entry
abbrev pub no_place_for : Parts → Kind → Bool
no_place_for p Request = is_full p.coordinator.queue && not (is_in (said_entry p.message) (queued p.coordinator.queue))
no_place_for p Prepare = promises p.slot (said_ballot p.message) && lacks_numbers p.sent 1
no_place_for p Accept = accepts p.slot (said_ballot p.message) && lacks_numbers p.sent 1
no_place_for p Promise = false
no_place_for p Accepted = false
no_place_for p Tell = false
no_place_for p Restore = false
no_place_for p Follow = false

-- what the message does
unfoldable pub delivery_change : Parts → Kind → Change
-- "A delivered request joins the queue unless an equal entry is there."
delivery_change p Request = done (coordinator_now p (with_queue p.coordinator (joining p.coordinator.queue (said_entry p.message))))
-- "Prepare of b: if b is above the promised ballot, it promises b and sends b's coordinator a
-- promise with its accepted pair; else nothing."
delivery_change p Prepare =
    let m = p.message in
    let x = p.slot in
    cond
    (promises x (said_ballot m))
    (sending (slot_now p (promising x (said_ballot m))) 1 (promise_from (said_inst m) (said_ballot m) (said_acceptor m) x.ballot x.batch))
    (done p)
-- "Accept of b: if b is not below the promised ballot, it promises and accepts b and sends b's
-- coordinator accepted; else nothing."
delivery_change p Accept =
    let m = p.message in
    cond
    (accepts p.slot (said_ballot m))
    (sending (slot_now p (accepting (said_ballot m) (said_batch m))) 1 (accepted_from (said_inst m) (said_ballot m) (said_acceptor m)))
    (done p)
-- "Promises and acceptances for another instance, or for a ballot other than the one opened last,
-- are passed over"
delivery_change p Promise =
    let m = p.message in
    let c = p.coordinator in
    cond
    (is_heard c (said_inst m) (said_ballot m) (said_acceptor m))
    (done (coordinator_now p (with_round c (promise_heard c.round (said_acceptor m) (said_accepted m) (said_batch m)))))
    (done p)
-- "When a majority accepted, the batch is applied in order; a refused entry is skipped."
delivery_change p Accepted =
    let m = p.message in
    let c = p.coordinator in
    let r = counting c.round (said_acceptor m) in
    cond
    (is_heard c (said_inst m) (said_ballot m) (said_acceptor m))
    (cond
    (majority p.acceptors r.acceptances)
    (learns (coordinator_now p (learning c)) (proposal_of c.round))
    (done (coordinator_now p (with_round c r))))
    (done p)
-- "It hears outcomes only by `tell`."
delivery_change p Tell = done (process_now p (hearing_outcome p.process (said_tx p.message) (said_outcome p.message)))
-- "A process takes a delivered restore exactly if its position is above the last it took, 0 at
-- first, and from then believes it holds that store and no other." "A restore names the holder's
-- turn and is taken only at that turn."
delivery_change p Restore =
    let m = p.message in
    cond (takes_restore p.process (said_turn m) (said_position m)) (takes_replay (process_now p (taking p.process (said_store m) (said_position m) (said_running m)))) (done p)
-- "A process takes a delivered follow exactly if it is for its last restore's store and a
-- transaction listed there as running, and none for that transaction was taken since that restore."
delivery_change p Follow =
    let m = p.message in
    cond (takes_follow p.process (said_store m) (said_tx m)) (keeps_follow (process_now p (following p.process (said_tx m)))) (done p)
