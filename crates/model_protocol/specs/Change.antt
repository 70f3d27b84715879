-- The parts of the world that a step touches, with one of them changed, and changes.
use Rattle.std.specs.Prelude.{ℕ, Bool, false, true}
use Rattle.log_entry.specs.Number.{Answer}
use Rattle.log_entry.specs.Refusal.{accepted}
use Rattle.model_protocol.specs.declared.AcceptorSlot.{AcceptorSlot}
use Rattle.model_protocol.specs.declared.Coordinator.{Coordinator}
use Rattle.model_protocol.specs.declared.Down.{Down}
use Rattle.model_protocol.specs.declared.Message.{Message}
use Rattle.model_protocol.specs.declared.Process.{Process}
use Rattle.model_protocol.specs.Batch.{Batch, no_batch}
use Rattle.model_protocol.specs.Message.{no_message}
use Rattle.model_protocol.specs.declared.Beside.{Beside}
use Rattle.model_protocol.specs.declared.Beside.TheVariants.{Nothing, Learns, GivesReplay, TakesReplay, KeepsFollow, StartsAnew}
use Rattle.model_protocol.specs.declared.Change.{Change}
use Rattle.model_protocol.specs.declared.Parts.{Parts}

abbrev pub parts : ℕ → ℕ → Down → Coordinator → AcceptorSlot → Process → Message → Parts
parts acceptors sent down coordinator slot process message = record {
  acceptors = acceptors;
  sent = sent;
  down = down;
  coordinator = coordinator;
  slot = slot;
  process = process;
  message = message;
}

abbrev pub acceptors_now : Parts → ℕ → Parts
acceptors_now p n = parts n p.sent p.down p.coordinator p.slot p.process p.message

abbrev pub down_now : Parts → Down → Parts
down_now p d = parts p.acceptors p.sent d p.coordinator p.slot p.process p.message

abbrev pub coordinator_now : Parts → Coordinator → Parts
coordinator_now p c = parts p.acceptors p.sent p.down c p.slot p.process p.message

abbrev pub slot_now : Parts → AcceptorSlot → Parts
slot_now p x = parts p.acceptors p.sent p.down p.coordinator x p.process p.message

abbrev pub process_now : Parts → Process → Parts
process_now p h = parts p.acceptors p.sent p.down p.coordinator p.slot h p.message

-- ---- what a change does beside the parts

-- the batch that the coordinator learned; one without entries if none
abbrev pub learned_by : Beside → Batch
learned_by (Learns b) = b
learned_by x = no_batch

-- its store's replay goes with the message
abbrev pub is_given : Beside → Bool
is_given GivesReplay = true
is_given x = false

-- the process takes the replay of the message delivered
abbrev pub is_taken : Beside → Bool
is_taken TakesReplay = true
is_taken x = false

-- the process takes the follow that is the message delivered
abbrev pub is_kept : Beside → Bool
is_kept KeepsFollow = true
is_kept x = false

-- the process starts anew
abbrev pub is_anew : Beside → Bool
is_anew StartsAnew = true
is_anew x = false

-- ---- changes

-- the parts are these, and nothing is sent
abbrev pub without_messages : Parts → Answer → Change
without_messages p answer = record { answer = answer; parts = p; count = 0; message = no_message; beside = Nothing }

-- the step is accepted, the parts are these, and n messages are sent
abbrev pub sending : Parts → ℕ → Message → Change
sending p n m = record { answer = accepted; parts = p; count = n; message = m; beside = Nothing }

-- the step is accepted, the parts are these, and the coordinator's log is to be fed the batch
abbrev pub learns : Parts → Batch → Change
learns p b = record { answer = accepted; parts = p; count = 0; message = no_message; beside = Learns b }

-- the step is accepted, the parts are these, and a restore is sent, with its store's replay
abbrev pub gives_replay : Parts → Message → Change
gives_replay p m = record { answer = accepted; parts = p; count = 1; message = m; beside = GivesReplay }

-- the step is accepted, the parts are these, and the process takes the replay of the message
-- delivered
abbrev pub takes_replay : Parts → Change
takes_replay p = record { answer = accepted; parts = p; count = 0; message = no_message; beside = TakesReplay }

-- the step is accepted, the parts are these, and the process takes the follow delivered
abbrev pub keeps_follow : Parts → Change
keeps_follow p = record { answer = accepted; parts = p; count = 0; message = no_message; beside = KeepsFollow }

-- the step is accepted, the parts are these, and the process starts anew
abbrev pub starts_anew : Parts → Change
starts_anew p = record { answer = accepted; parts = p; count = 0; message = no_message; beside = StartsAnew }

-- the step is accepted, the parts are these, and nothing is sent
abbrev pub done : Parts → Change
done p = without_messages p accepted
