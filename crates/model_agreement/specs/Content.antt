-- What a message says, by its kind.
use Rattle.std.specs.Prelude.{ℕ}
use Rattle.log_entry.specs.declared.Entry.{Entry}
use Rattle.log_votes.specs.declared.Outcome.{Outcome}
use Rattle.log_core.specs.declared.Replay.{Replay}
use Rattle.model_paxos.specs.Messages.{Paxos, accept, accepted, prepare, promise}
use Rattle.model_protocol.specs.Batch.{Batch}
use Rattle.model_protocol.specs.Kind.{Kind, Request, Prepare, Accept, Promise, Accepted, Tell, Restore, Follow}
use Rattle.model_protocol.specs.Message.{said_accepted, said_acceptor, said_ballot, said_batch, said_entry, said_inst, said_kind, said_outcome, said_position, said_running, said_store, said_to, said_turn, said_tx, said_update}
use Rattle.model_protocol.specs.declared.Message.{Message}

pub data Content : Type 0 where
  paxos : Paxos Batch → Content
  -- coordinator, entry
  request : ℕ → Entry → Content
  -- process, transaction, outcome
  tell : ℕ → ℕ → Outcome → Content
  -- process and its turn, store, position, replay, the transactions listed as running
  restore : ℕ → ℕ → ℕ → ℕ → Replay → ℕ → Content
  -- process, store, transaction, outcome, update
  follow : ℕ → ℕ → ℕ → Outcome → ℕ → Content

-- of a message m with which the replay r goes
abbrev pub content_as : Kind → Message → Replay → Content
content_as Request m r = request (said_to m) (said_entry m)
content_as Prepare m r = paxos (prepare (said_inst m) (said_ballot m) (said_acceptor m))
content_as Accept m r = paxos (accept (said_inst m) (said_ballot m) (said_acceptor m) (said_batch m))
content_as Promise m r = paxos (promise (said_inst m) (said_ballot m) (said_acceptor m) (said_accepted m) (said_batch m))
content_as Accepted m r = paxos (accepted (said_inst m) (said_ballot m) (said_acceptor m))
content_as Tell m r = tell (said_to m) (said_tx m) (said_outcome m)
content_as Restore m r = restore (said_to m) (said_turn m) (said_store m) (said_position m) r (said_running m)
content_as Follow m r = follow (said_to m) (said_store m) (said_tx m) (said_outcome m) (said_update m)

abbrev pub content_of : Message → Replay → Content
content_of m r = content_as (said_kind m) m r
