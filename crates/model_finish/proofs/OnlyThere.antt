-- What the steps of the list leave as it was, one after the other.
use Prim.Native.Nat.{ℕ, ◌*◌, ◌+◌, ◌≤◌, ◌<◌}
use native.Mathlib.Omega.{arith}
use mathlib.Core.Path.{◌≡◌, refl, ◌∙◌}
use lib.ListN.{get_or}
use lib.Seq.{get_or-set_other}
use Rattle.log_core.specs.Enter.{feed}
use Rattle.log_core.specs.Log.{empty_log}
use Rattle.model_steps.specs.Limits.{instances}
use Rattle.model_protocol.specs.declared.AcceptorSlot.{AcceptorSlot}
use Rattle.model_protocol.specs.declared.Coordinator.{Coordinator}
use Rattle.model_protocol.specs.declared.Message.{Message}
use Rattle.model_protocol.specs.declared.World.{World}
use Rattle.model_protocol.specs.Batch.{Batch, entries_of}
use Rattle.model_protocol.specs.Message.{no_message}
use Rattle.model_protocol.specs.World.{empty_slot, fresh_coordinator, log_of, message_of, with_message}
use Rattle.model_agreement.proofs.ChangedWorld.{with_coordinator, with_learned, with_slot}
use Rattle.model_agreement.proofs.SentMessages.{Outbox, filled, outbox_of, posted}
use Rattle.model_finish.specs.Claims.{OnlyAt}
use Rattle.model_finish.proofs.Sending.{filled_old, filled_replays}

module _ {c i : ℕ} where
  pub only_then : {u w v : World} → OnlyAt c i u w → OnlyAt c i w v → OnlyAt c i u v
  only_then p q = record {
    acceptors = q.acceptors ∙ p.acceptors;
    down = q.down ∙ p.down;
    coordinators = λ k ne. q.coordinators k ne ∙ p.coordinators k ne;
    logs = λ k ne. q.logs k ne ∙ p.logs k ne;
    slots = λ a j l ne. q.slots a j l ne ∙ p.slots a j l ne;
    processes = q.processes ∙ p.processes;
    restored = q.restored ∙ p.restored;
    follows = q.follows ∙ p.follows;
    sends = omega (arith, p.sends, q.sends);
    messages = λ j l. q.messages j (omega (arith, p.sends)) ∙ p.messages j l;
    replays = q.replays ∙ p.replays;
  }

module _ (c i : ℕ) (w : World) where
  -- the coordinator changes, and messages may be sent: ms are those of before and the new ones, and
  -- they are k
  with_messages : (x : Coordinator) (ms : Outbox) (k : ℕ) → w.sent ≤ k → ((j : ℕ) → j < w.sent → get_or ms.messages j no_message ≡ message_of w j)
      → ms.replays ≡ w.replays → OnlyAt c i w (posted (with_coordinator w c x) ms k)
  with_messages x ms k more same replays = record {
    acceptors = refl;
    down = refl;
    coordinators = λ j ne. get_or-set_other w.coordinators c j x fresh_coordinator ne;
    logs = λ j ne. refl;
    slots = λ a j l ne. refl;
    processes = refl;
    restored = refl;
    follows = refl;
    sends = more;
    messages = same;
    replays = replays;
  }

  pub only_coordinator_lem : (x : Coordinator) → OnlyAt c i w (with_coordinator w c x)
  only_coordinator_lem x = with_messages x (outbox_of w) w.sent (omega arith) (λ j l. refl) refl

  -- and it sends to n acceptors
  pub only_sends : (x : Coordinator) (n : ℕ) (f : ℕ → Message)
      → OnlyAt c i w (posted (with_coordinator w c x) (filled (outbox_of w) w.sent n f) (w.sent + n))
  only_sends x n f =
      with_messages x (filled (outbox_of w) w.sent n f) (w.sent + n) (omega arith)
      (filled_old (outbox_of w) w.sent f n) (filled_replays (outbox_of w) w.sent f n)

  -- an acceptor's slot changes, and it answers
  pub only_slot_lem : (a : ℕ) (x : AcceptorSlot) (y : Message) → i < instances → OnlyAt c i w (with_message (with_slot w a i x) y)
  only_slot_lem a x y h = record {
    acceptors = refl;
    down = refl;
    coordinators = λ j ne. refl;
    logs = λ j ne. refl;
    slots = λ e j l ne. get_or-set_other w.slots (a * instances + i) (e * instances + j) x empty_slot (omega arith);
    processes = refl;
    restored = refl;
    follows = refl;
    sends = omega arith;
    messages = λ j l. get_or-set_other w.messages w.sent j y no_message (omega arith);
    replays = refl;
  }

  -- the coordinator applies a batch
  pub only_learned : (x : Coordinator) (v : Batch) → OnlyAt c i w (with_learned w c x v)
  only_learned x v = record {
    acceptors = refl;
    down = refl;
    coordinators = λ j ne. get_or-set_other w.coordinators c j x fresh_coordinator ne;
    logs = λ j ne. get_or-set_other w.logs c j (feed (log_of w c) (entries_of v)) empty_log ne;
    slots = λ a j l ne. refl;
    processes = refl;
    restored = refl;
    follows = refl;
    sends = omega arith;
    messages = λ j l. refl;
    replays = refl;
  }
