-- The world with parts put back: what a step leaves alone is as it was.
use mathlib.Core.Path.{◌≡◌, refl, ◌∙◌}
use lib.ListN.{get_or, set}
use lib.Seq.{set-get_or}
use Rattle.log_entry.specs.Number.{Answer}
use Rattle.log_core.specs.declared.Replay.{Replay}
use Rattle.log_core.specs.Enter.{feed}
use Rattle.log_core.specs.Log.{empty_log}
use Rattle.model_protocol.specs.declared.Message.{Message}
use Rattle.model_protocol.specs.declared.Places.{Places}
use Rattle.model_protocol.specs.declared.World.{World}
use Rattle.model_protocol.specs.Batch.{entries_of, no_batch}
use Rattle.model_protocol.specs.Change.{without_messages}
use Rattle.model_protocol.specs.Send.{copy_of, send_to_all}
use Rattle.model_protocol.specs.Step.{changed, parts_at, put_back}
use Rattle.model_protocol.specs.World.{empty_slot, fresh_coordinator, fresh_process, log_of}

module _ (w : World) (at : Places) where
  pub same_slots : set w.slots at.slot (get_or w.slots at.slot empty_slot) ≡ w.slots
  same_slots = set-get_or w.slots at.slot empty_slot

  pub same_coordinators : set w.coordinators at.coordinator (get_or w.coordinators at.coordinator fresh_coordinator) ≡ w.coordinators
  same_coordinators = set-get_or w.coordinators at.coordinator fresh_coordinator

  pub same_processes : set w.processes at.process (get_or w.processes at.process fresh_process) ≡ w.processes
  same_processes = set-get_or w.processes at.process fresh_process

  -- where nothing is learned
  pub same_logs : set w.logs at.coordinator (feed (log_of w at.coordinator) (entries_of no_batch)) ≡ w.logs
  unfolding feed no_batch
  same_logs = set-get_or w.logs at.coordinator empty_log

  pub all_back : (m : Message) (r : Replay) (a : Answer) → put_back w at r (without_messages (parts_at w at m) a) ≡ w
  all_back m r a = λ i. record {
    acceptors = w.acceptors;
    slots = same_slots i;
    coordinators = same_coordinators i;
    logs = same_logs i;
    processes = same_processes i;
    restored = w.restored;
    follows = w.follows;
    down = w.down;
    messages = w.messages;
    replays = w.replays;
    sent = w.sent;
  }

pub none_sent : (w : World) (m : Message) → send_to_all w 0 (copy_of m) ≡ w
unfolding send_to_all
none_sent w m = refl

-- parts that are as they were change nothing
pub nothing_changed : (w : World) (at : Places) (m : Message) (r : Replay) (a : Answer) → changed w at r (without_messages (parts_at w at m) a) ≡ w
nothing_changed w at m r a = none_sent _ _ ∙ all_back w at m r a
