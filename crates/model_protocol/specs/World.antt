-- The world's value: the fresh world, what stands where, the world with one message more, and who
-- is down.
use Rattle.std.specs.Prelude.{ℕ, ◌+◌, ◌*◌, Bool, true, false, None, [], get_or, replicate, set}
use Rattle.log_entry.specs.Limits.{first_turn, process_places, transactions}
use Rattle.log_core.specs.declared.Log.{Log}
use Rattle.log_core.specs.declared.Replay.{Replay}
use Rattle.log_votes.specs.declared.Outcome.TheVariants.{Open}
use Rattle.log_core.specs.Log.{empty_log}
use Rattle.log_core.specs.Replay.{no_replay}
use Rattle.model_steps.specs.declared.Role.{Role}
use Rattle.model_steps.specs.declared.Role.TheVariants.{Acceptor, Coord, Proc}
use Rattle.model_steps.specs.Limits.{coordinators, instances, messages, most_acceptors}
use Rattle.model_protocol.specs.declared.AcceptorSlot.{AcceptorSlot}
use Rattle.model_protocol.specs.declared.Coordinator.{Coordinator}
use Rattle.model_protocol.specs.declared.Down.{Down}
use Rattle.model_protocol.specs.declared.Followed.{Followed}
use Rattle.model_protocol.specs.declared.Follows.{Follows}
use Rattle.model_protocol.specs.declared.Message.{Message}
use Rattle.model_protocol.specs.declared.Process.{Process}
use Rattle.model_protocol.specs.declared.Round.{Round}
use Rattle.model_protocol.specs.declared.World.{World}
use Rattle.model_protocol.specs.Batch.{no_batch}
use Rattle.model_protocol.specs.Limits.{slot_places}
use Rattle.model_protocol.specs.Message.{no_message}
use Rattle.model_protocol.specs.Queue.{queue_of}

-- ---- at first

-- "a promised ballot and an accepted ballot with batch, 0 at first"
abbrev pub empty_slot : AcceptorSlot
empty_slot = record { promised = 0; ballot = 0; batch = no_batch }

-- the round of a ballot that was just opened; of ballot 0, where none was
abbrev pub new_round : ℕ → Round
new_round b = record { ballot = b; promises = 0; accepted = 0; batch = no_batch; proposal = None; acceptances = 0 }

unfoldable pub fresh_coordinator : Coordinator
fresh_coordinator = record { applied = 0; queue = queue_of []; round = new_round 0 }

-- a process as in a fresh world, in this turn: it heard nothing and took no restore
unfoldable pub started_in : ℕ → Process
started_in turn = record { turn = turn; heard = replicate transactions (record { outcome = Open }); store = 0; position = 0; running = 0; followed = 0 }

-- its present turn is "1 at setup"
abbrev pub fresh_process : Process
fresh_process = started_in first_turn

-- the follow of no transaction
abbrev pub no_followed : Followed
no_followed = record { outcome = Open; update = 0 }

unfoldable pub no_follows : Follows
no_follows = record { of = replicate transactions no_followed }

unfoldable pub all_up : Down
all_up = record {
  acceptors = replicate most_acceptors false;
  coordinators = replicate coordinators false;
  processes = replicate process_places false;
}

-- "the fresh world: no setup, all up, nothing sent, queues and logs empty"
unfoldable pub fresh_world : World
fresh_world = record {
  acceptors = 0;
  slots = replicate slot_places empty_slot;
  coordinators = replicate coordinators fresh_coordinator;
  logs = replicate coordinators empty_log;
  processes = replicate process_places fresh_process;
  restored = replicate process_places no_replay;
  follows = replicate process_places no_follows;
  down = all_up;
  messages = replicate messages no_message;
  replays = replicate messages no_replay;
  sent = 0;
}

-- ---- what stands where

-- acceptor a's slot of instance i
abbrev pub slot_of : World → ℕ → ℕ → AcceptorSlot
slot_of w a i = get_or w.slots (a * instances + i) empty_slot

abbrev pub coordinator_of : World → ℕ → Coordinator
coordinator_of w c = get_or w.coordinators c fresh_coordinator

-- coordinator c's log
abbrev pub log_of : World → ℕ → Log
log_of w c = get_or w.logs c empty_log

abbrev pub process_of : World → ℕ → Process
process_of w p = get_or w.processes p fresh_process

abbrev pub message_of : World → ℕ → Message
message_of w m = get_or w.messages m no_message

-- the replay that goes with message m
abbrev pub replay_with : World → ℕ → Replay
replay_with w m = get_or w.replays m no_replay

-- the replay of the last restore that process p took
abbrev pub restored_to : World → ℕ → Replay
restored_to w p = get_or w.restored p no_replay

-- the follows that process p took
abbrev pub follows_of : World → ℕ → Follows
follows_of w p = get_or w.follows p no_follows

-- the party is down
abbrev pub is_down : Down → Role → ℕ → Bool
is_down d Acceptor id = get_or d.acceptors id false
is_down d Coord id = get_or d.coordinators id false
is_down d Proc id = get_or d.processes id false

-- ---- changes

-- with one message more
abbrev pub with_message : World → Message → World
with_message w m = record {
  acceptors = w.acceptors;
  slots = w.slots;
  coordinators = w.coordinators;
  logs = w.logs;
  processes = w.processes;
  restored = w.restored;
  follows = w.follows;
  down = w.down;
  messages = set w.messages w.sent m;
  replays = w.replays;
  sent = w.sent + 1;
}

-- the party is down from now on
abbrev pub crashed : Down → Role → ℕ → Down
crashed d Acceptor id =
    record { acceptors = set d.acceptors id true; coordinators = d.coordinators; processes = d.processes }
crashed d Coord id =
    record { acceptors = d.acceptors; coordinators = set d.coordinators id true; processes = d.processes }
crashed d Proc id =
    record { acceptors = d.acceptors; coordinators = d.coordinators; processes = set d.processes id true }

-- the process is up from now on
abbrev pub up_again : Down → ℕ → Down
up_again d id = record { acceptors = d.acceptors; coordinators = d.coordinators; processes = set d.processes id false }
