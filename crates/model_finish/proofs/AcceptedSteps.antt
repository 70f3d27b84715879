-- The steps of the list, each where it is accepted: the world after it.
use Prim.Native.Nat.{ℕ, ◌+◌, ◌*◌, ◌-◌, ◌%◌, ◌≤◌, ◌<◌}
use native.Mathlib.Nat.{mod-eq_of_lt}
use native.Mathlib.Omega.{arith}
use mathlib.Core.Bool.{Bool, true, false, ◌&&◌, ◌||◌}
use mathlib.Core.Path.{◌≡◌, ap, refl, subst, sym, ◌∙◌}
use lib.Dec.{eqb, leb}
use borrow.Author.Tests.{eq-eqb, le-leb, le-ltb, lt-leb, lt-ltb, ne_eqb}
use Rattle.log_entry.specs.Refusal.{accepted, first_refusal}
use Rattle.log_core.specs.declared.Replay.{Replay}
use Rattle.model_steps.specs.declared.Role.TheVariants.{Acceptor, Coord}
use Rattle.model_steps.specs.declared.Step.{Step}
use Rattle.model_steps.specs.declared.Step.TheVariants.{Deliver, Open, Propose}
use Rattle.model_steps.specs.Limits.{ballots, coordinators, instances, messages, most_acceptors, no_ballot, no_coordinator, outside_step}
use Rattle.model_owners.specs.Owners.{owner}
use Rattle.model_paxos.specs.Majority.{majority}
use Rattle.model_protocol.specs.declared.AcceptorSlot.{AcceptorSlot}
use Rattle.model_protocol.specs.Batch.{Batch}
use Rattle.model_protocol.specs.declared.Coordinator.{Coordinator}
use Rattle.model_protocol.specs.Kind.{Accept, Accepted, Prepare, Promise}
use Rattle.model_protocol.specs.declared.Message.{Message}
use Rattle.model_protocol.specs.declared.Parts.{Parts}
use Rattle.model_protocol.specs.declared.World.{World}
use Rattle.model_protocol.specs.Acceptor.{accepting, accepts, promises, promising}
use Rattle.model_protocol.specs.Coordinator.{batch_to_propose, counting, is_heard, is_proposed, learning, promise_heard, proposal_of, proposing, with_round}
use Rattle.model_protocol.specs.Deliver.{delivery_change, no_place_for, receiver_down}
use Rattle.model_protocol.specs.Limits.{slot_places}
use Rattle.model_protocol.specs.Message.{accept_to, accepted_from, prepare_to, promise_from, said_kind}
use Rattle.model_protocol.specs.Places.{delivery_places, only_coordinator, only_owner, places_of}
use Rattle.model_protocol.specs.Send.{lacks_numbers, send_to_all}
use Rattle.model_protocol.specs.Step.{answered, change_of, changed, message_for, parts_at, parts_of, places_in, replay_in, step_checks, step_of, step_refusal}
use Rattle.model_protocol.specs.World.{coordinator_of, is_down, message_of, new_round, replay_with, slot_of, with_message}
use Rattle.model_agreement.proofs.ChangedWorld.{accepts_sent, coordinator_changed, coordinator_learns, prepares_sent, slot_answers, slot_at, with_coordinator, with_learned, with_slot}

not_both : (t : Bool) → (t && false) ≡ false
not_both true = refl
not_both false = refl

-- ---- a step that no refusal applies to

accepted_step : (w : World) (s : Step) → step_refusal (parts_of w s) s ≡ accepted
    → step_of w s ≡ answered (changed w (places_in w s) (replay_in w s) (change_of (parts_of w s) s)) accepted
unfolding step_of
accepted_step w s h = rw h

-- no number of open or propose is outside its limits
pub record InRange (c i b : ℕ) : Type 0 where
  pub coordinator : c < coordinators
  pub instance : i < instances
  pub positive : 0 < b
  pub ballot : b ≤ ballots

inside : (c i b : ℕ) → InRange c i b → (no_coordinator c || leb instances i || no_ballot b) ≡ false
inside c i b r =
    rw (
      lt-leb coordinators c r.coordinator,
      lt-leb instances i r.instance,
      ne_eqb b 0 (λ e. omega (arith, r.positive)),
      le-ltb ballots b r.ballot,
    )

open_passes : (p : Parts) (c i b : ℕ) → InRange c i b → is_down p.down Coord c ≡ false → 0 < p.acceptors → p.coordinator.applied ≡ i
    → owner b ≡ c → p.coordinator.round.ballot < b → p.sent + p.acceptors ≤ messages → step_refusal p (Open c i b) ≡ accepted
unfolding step_refusal first_refusal step_checks outside_step
open_passes p c i b r up live current own above room =
    rw (
      inside c i b r,
      up,
      ne_eqb p.acceptors 0 (λ e. omega arith),
      eq-eqb i p.coordinator.applied (sym current),
      eq-eqb (owner b) c own,
      lt-leb b p.coordinator.round.ballot above,
      le-ltb (messages - p.sent) p.acceptors (omega arith),
    )

propose_passes : (p : Parts) (c i b : ℕ) → InRange c i b → is_down p.down Coord c ≡ false → 0 < p.acceptors → p.coordinator.applied ≡ i
    → p.coordinator.round.ballot ≡ b → majority p.acceptors p.coordinator.round.promises ≡ true
    → is_proposed p.coordinator.round ≡ false → 0 < p.coordinator.queue.count → p.sent + p.acceptors ≤ messages
    → step_refusal p (Propose c i b) ≡ accepted
unfolding step_refusal first_refusal step_checks outside_step
propose_passes p c i b r up live current opened heard fresh queued room =
    rw (
      inside c i b r,
      up,
      ne_eqb p.acceptors 0 (λ e. omega arith),
      eq-eqb i p.coordinator.applied (sym current),
      eq-eqb b p.coordinator.round.ballot (sym opened),
      heard,
      fresh,
      ne_eqb p.coordinator.queue.count 0 (λ e. omega arith),
      not_both (eqb p.coordinator.round.accepted 0),
      le-ltb (messages - p.sent) p.acceptors (omega arith),
    )

deliver_passes : (p : Parts) (j : ℕ) → j < messages → j < p.sent → receiver_down p.down p.message (said_kind p.message) ≡ false
    → 0 < p.acceptors → no_place_for p (said_kind p.message) ≡ false → step_refusal p (Deliver j) ≡ accepted
unfolding step_refusal first_refusal step_checks outside_step
deliver_passes p j inside sent up live place =
    rw (lt-leb messages j inside, lt-leb p.sent j sent, up, ne_eqb p.acceptors 0 (λ e. omega arith), place)

-- ---- open and propose

module _ (w : World) (c i b : ℕ) (r : InRange c i b) (up : is_down w.down Coord c ≡ false) (live : 0 < w.acceptors)
    (current : (coordinator_of w c).applied ≡ i) (room : w.sent + w.acceptors ≤ messages) where
  place : c % coordinators ≡ c
  place = mod-eq_of_lt r.coordinator

  pub open_goes : owner b ≡ c → (coordinator_of w c).round.ballot < b
      → step_of w (Open c i b)
      ≡ answered (send_to_all (with_coordinator w c (with_round (coordinator_of w c) (new_round b))) w.acceptors (prepare_to i b)) accepted
  unfolding places_of message_for change_of
  open_goes own above =
      accepted_step w (Open c i b) (open_passes (parts_of w (Open c i b)) c i b r up live (rw place current) own (rw place above) room)
      ∙ ap (λ (v : World). answered v accepted)
      (prepares_sent w (only_coordinator c) (replay_with w 0) (message_of w 0) (with_round (coordinator_of w (c % coordinators)) (new_round b)) w.acceptors i b
      ∙ ap (λ (k : ℕ). send_to_all (with_coordinator w k (with_round (coordinator_of w k) (new_round b))) w.acceptors (prepare_to i b)) place)

  pub propose_goes : (coordinator_of w c).round.ballot ≡ b → majority w.acceptors (coordinator_of w c).round.promises ≡ true
      → is_proposed (coordinator_of w c).round ≡ false → 0 < (coordinator_of w c).queue.count
      → step_of w (Propose c i b)
      ≡ answered
      (send_to_all
      (with_coordinator w c (with_round (coordinator_of w c) (proposing (coordinator_of w c).round (batch_to_propose (coordinator_of w c)))))
      w.acceptors (accept_to i b (batch_to_propose (coordinator_of w c))))
      accepted
  unfolding places_of message_for change_of
  propose_goes opened heard fresh queued =
      accepted_step w (Propose c i b)
      (propose_passes (parts_of w (Propose c i b)) c i b r up live (rw place current) (rw place opened) (rw place heard) (rw place fresh) (rw place queued) room)
      ∙ ap (λ (v : World). answered v accepted)
      (accepts_sent w (only_coordinator c) (replay_with w 0) (message_of w 0) (proposed (c % coordinators)) w.acceptors i b (batch_to_propose (coordinator_of w (c % coordinators)))
      ∙ ap (λ (k : ℕ). send_to_all (with_coordinator w k (proposed k)) w.acceptors (accept_to i b (batch_to_propose (coordinator_of w k)))) place)
    where
      proposed : ℕ → Coordinator
      proposed k = with_round (coordinator_of w k) (proposing (coordinator_of w k).round (batch_to_propose (coordinator_of w k)))

-- ---- deliver

module _ (w : World) (j : ℕ) (sent : j < w.sent) (most : w.sent ≤ messages) (live : 0 < w.acceptors) where
  numbered : j < messages
  numbered = omega arith

  -- the parts that the delivery of the message touches
  abbrev parts_for : Message → Parts
  parts_for m = parts_at w (delivery_places m (said_kind m)) m

  -- what the delivery of the message comes to
  abbrev Comes : Message → Type 0
  Comes m =
      receiver_down w.down m (said_kind m) ≡ false → no_place_for (parts_for m) (said_kind m) ≡ false
      → step_of w (Deliver j) ≡ answered (changed w (delivery_places m (said_kind m)) (replay_with w (j % messages)) (delivery_change (parts_for m) (said_kind m))) accepted

  delivered_itself : Comes (message_of w (j % messages))
  unfolding places_of message_for change_of
  delivered_itself up room = accepted_step w (Deliver j) (deliver_passes (parts_of w (Deliver j)) j numbered sent up live room)

  deliver_goes : (m : Message) → message_of w j ≡ m → Comes m
  deliver_goes m e = subst Comes (ap (message_of w) (mod-eq_of_lt numbered) ∙ e) delivered_itself

  -- to an acceptor, which answers
  module _ (i b a : ℕ) (acceptor : a < most_acceptors) (instance : i < instances) (one : w.sent < messages)
      (up : is_down w.down Acceptor a ≡ false) where
    slot_place : (a * instances + i) % slot_places ≡ a * instances + i
    slot_place = mod-eq_of_lt (omega arith)

    one_left : lacks_numbers w.sent 1 ≡ false
    one_left = le-ltb (messages - w.sent) 1 (omega arith)

    abbrev slot : AcceptorSlot
    slot = slot_of w a i

    promised : (r : Replay) → slot.promised < b
        → changed w (slot_at a i) r (delivery_change (parts_at w (slot_at a i) (prepare_to i b a)) Prepare)
        ≡ with_message (with_slot w a i (promising slot b)) (promise_from i b a slot.ballot slot.batch)
    unfolding delivery_change
    promised r above = rw (lt-ltb slot.promised b above) (slot_answers w r (prepare_to i b a) a i _ _)

    pub prepare_goes : message_of w j ≡ prepare_to i b a → slot.promised < b
        → step_of w (Deliver j)
        ≡ answered (with_message (with_slot w a i (promising slot b)) (promise_from i b a slot.ballot slot.batch)) accepted
    prepare_goes e above =
        deliver_goes (prepare_to i b a) e up (rw one_left (not_both (promises (parts_for (prepare_to i b a)).slot b)))
        ∙ ap (λ (v : World). answered v accepted) (rw slot_place (promised (replay_with w (j % messages)) above))

    voted : (r : Replay) (v : Batch) → slot.promised ≤ b
        → changed w (slot_at a i) r (delivery_change (parts_at w (slot_at a i) (accept_to i b v a)) Accept)
        ≡ with_message (with_slot w a i (accepting b v)) (accepted_from i b a)
    unfolding delivery_change
    voted r v low = rw (le-leb slot.promised b low) (slot_answers w r (accept_to i b v a) a i _ _)

    pub accept_goes : (v : Batch) → message_of w j ≡ accept_to i b v a → slot.promised ≤ b
        → step_of w (Deliver j) ≡ answered (with_message (with_slot w a i (accepting b v)) (accepted_from i b a)) accepted
    accept_goes v e low =
        deliver_goes (accept_to i b v a) e up (rw one_left (not_both (accepts (parts_for (accept_to i b v a)).slot b)))
        ∙ ap (λ (u : World). answered u accepted) (rw slot_place (voted (replay_with w (j % messages)) v low))

  -- to the ballot's coordinator, which opened it last, in its current instance
  module _ (i b a : ℕ) (acceptor : a < most_acceptors) (up : is_down w.down Coord (owner b) ≡ false)
      (current : (coordinator_of w (owner b)).applied ≡ i) (opened : (coordinator_of w (owner b)).round.ballot ≡ b) where
    abbrev its : Coordinator
    its = coordinator_of w (owner b)

    is_heard_lem : is_heard its i b a ≡ true
    is_heard_lem = rw (eq-eqb i its.applied (sym current), eq-eqb b its.round.ballot (sym opened), lt-ltb a most_acceptors acceptor)

    heard : (r : Replay) (d : ℕ) (v : Batch)
        → changed w (only_owner b) r (delivery_change (parts_at w (only_owner b) (promise_from i b a d v)) Promise)
        ≡ with_coordinator w (owner b) (with_round its (promise_heard its.round a d v))
    unfolding delivery_change
    heard r d v = rw is_heard_lem (coordinator_changed w (only_owner b) r (promise_from i b a d v) (with_round its (promise_heard its.round a d v)))

    pub promise_goes : (d : ℕ) (v : Batch) → message_of w j ≡ promise_from i b a d v
        → step_of w (Deliver j) ≡ answered (with_coordinator w (owner b) (with_round its (promise_heard its.round a d v))) accepted
    promise_goes d v e =
        deliver_goes (promise_from i b a d v) e up refl ∙ ap (λ (u : World). answered u accepted) (heard (replay_with w (j % messages)) d v)

    counted : (r : Replay) → majority w.acceptors (counting its.round a).acceptances ≡ false
        → changed w (only_owner b) r (delivery_change (parts_at w (only_owner b) (accepted_from i b a)) Accepted)
        ≡ with_coordinator w (owner b) (with_round its (counting its.round a))
    unfolding delivery_change
    counted r few = rw (is_heard_lem, few) (coordinator_changed w (only_owner b) r (accepted_from i b a) (with_round its (counting its.round a)))

    learned : (r : Replay) → majority w.acceptors (counting its.round a).acceptances ≡ true
        → changed w (only_owner b) r (delivery_change (parts_at w (only_owner b) (accepted_from i b a)) Accepted)
        ≡ with_learned w (owner b) (learning its) (proposal_of its.round)
    unfolding delivery_change
    learned r most' = rw (is_heard_lem, most') (coordinator_learns w (only_owner b) r (accepted_from i b a) (learning its) (proposal_of its.round))

    pub accepted_counts : message_of w j ≡ accepted_from i b a → majority w.acceptors (counting its.round a).acceptances ≡ false
        → step_of w (Deliver j) ≡ answered (with_coordinator w (owner b) (with_round its (counting its.round a))) accepted
    accepted_counts e few =
        deliver_goes (accepted_from i b a) e up refl ∙ ap (λ (u : World). answered u accepted) (counted (replay_with w (j % messages)) few)

    pub accepted_learns : message_of w j ≡ accepted_from i b a → majority w.acceptors (counting its.round a).acceptances ≡ true
        → step_of w (Deliver j) ≡ answered (with_learned w (owner b) (learning its) (proposal_of its.round)) accepted
    accepted_learns e enough =
        deliver_goes (accepted_from i b a) e up refl ∙ ap (λ (u : World). answered u accepted) (learned (replay_with w (j % messages)) enough)
