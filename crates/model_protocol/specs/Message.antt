-- What a message says, 0 where its kind does not say it, and the messages of each kind.
use Rattle.std.specs.Prelude.{ℕ}
use Rattle.log_entry.specs.declared.Entry.{Entry}
use Rattle.log_votes.specs.declared.Outcome.{Outcome}
use Rattle.log_votes.specs.declared.Outcome.TheVariants.{Open}
use Rattle.model_protocol.specs.declared.Message.{Message}
use Rattle.model_protocol.specs.declared.Message.TheVariants as said
use Rattle.model_protocol.specs.Kind.{Kind}
use Rattle.model_protocol.specs.Kind as kind
use Rattle.model_protocol.specs.Batch.{Batch, no_batch, no_entry}

-- ---- what a message says

abbrev pub said_kind : Message → Kind
said_kind (said.Request to entry) = kind.Request
said_kind (said.Prepare inst ballot acceptor) = kind.Prepare
said_kind (said.Accept inst ballot acceptor batch) = kind.Accept
said_kind (said.Promise inst ballot acceptor accepted batch) = kind.Promise
said_kind (said.Accepted inst ballot acceptor) = kind.Accepted
said_kind (said.Tell to tx outcome) = kind.Tell
said_kind (said.Restore to turn store position running) = kind.Restore
said_kind (said.Follow to store tx outcome update) = kind.Follow

-- the coordinator that a request goes to, or the process
abbrev pub said_to : Message → ℕ
said_to (said.Request to entry) = to
said_to (said.Tell to tx outcome) = to
said_to (said.Restore to turn store position running) = to
said_to (said.Follow to store tx outcome update) = to
said_to m = 0

abbrev pub said_turn : Message → ℕ
said_turn (said.Restore to turn store position running) = turn
said_turn m = 0

-- the acceptor that it goes to, or that it comes from
abbrev pub said_acceptor : Message → ℕ
said_acceptor (said.Prepare inst ballot acceptor) = acceptor
said_acceptor (said.Accept inst ballot acceptor batch) = acceptor
said_acceptor (said.Promise inst ballot acceptor accepted batch) = acceptor
said_acceptor (said.Accepted inst ballot acceptor) = acceptor
said_acceptor m = 0

abbrev pub said_inst : Message → ℕ
said_inst (said.Prepare inst ballot acceptor) = inst
said_inst (said.Accept inst ballot acceptor batch) = inst
said_inst (said.Promise inst ballot acceptor accepted batch) = inst
said_inst (said.Accepted inst ballot acceptor) = inst
said_inst m = 0

abbrev pub said_ballot : Message → ℕ
said_ballot (said.Prepare inst ballot acceptor) = ballot
said_ballot (said.Accept inst ballot acceptor batch) = ballot
said_ballot (said.Promise inst ballot acceptor accepted batch) = ballot
said_ballot (said.Accepted inst ballot acceptor) = ballot
said_ballot m = 0

-- the accepted ballot of a promise
abbrev pub said_accepted : Message → ℕ
said_accepted (said.Promise inst ballot acceptor accepted batch) = accepted
said_accepted m = 0

-- the batch proposed, or the one that goes with the accepted ballot
abbrev pub said_batch : Message → Batch
said_batch (said.Accept inst ballot acceptor batch) = batch
said_batch (said.Promise inst ballot acceptor accepted batch) = batch
said_batch m = no_batch

abbrev pub said_entry : Message → Entry
said_entry (said.Request to entry) = entry
said_entry m = no_entry

abbrev pub said_tx : Message → ℕ
said_tx (said.Tell to tx outcome) = tx
said_tx (said.Follow to store tx outcome update) = tx
said_tx m = 0

abbrev pub said_outcome : Message → Outcome
said_outcome (said.Tell to tx outcome) = outcome
said_outcome (said.Follow to store tx outcome update) = outcome
said_outcome m = Open

abbrev pub said_store : Message → ℕ
said_store (said.Restore to turn store position running) = store
said_store (said.Follow to store tx outcome update) = store
said_store m = 0

-- the applied count of the sender
abbrev pub said_position : Message → ℕ
said_position (said.Restore to turn store position running) = position
said_position m = 0

-- the running transactions that a restore lists, bit t for transaction t
abbrev pub said_running : Message → ℕ
said_running (said.Restore to turn store position running) = running
said_running m = 0

-- the update of a follow
abbrev pub said_update : Message → ℕ
said_update (said.Follow to store tx outcome update) = update
said_update m = 0

-- ---- the messages of each kind

abbrev pub prepare_to : ℕ → ℕ → ℕ → Message
prepare_to inst ballot acceptor = said.Prepare inst ballot acceptor

abbrev pub accept_to : ℕ → ℕ → Batch → ℕ → Message
accept_to inst ballot batch acceptor = said.Accept inst ballot acceptor batch

-- the acceptor's promise, with its accepted pair
abbrev pub promise_from : ℕ → ℕ → ℕ → ℕ → Batch → Message
promise_from inst ballot acceptor accepted batch = said.Promise inst ballot acceptor accepted batch

abbrev pub accepted_from : ℕ → ℕ → ℕ → Message
accepted_from inst ballot acceptor = said.Accepted inst ballot acceptor

abbrev pub request_to : ℕ → Entry → Message
request_to coord entry = said.Request coord entry

abbrev pub tell_to : ℕ → ℕ → Outcome → Message
tell_to process tx outcome = said.Tell process tx outcome

abbrev pub restore_to : ℕ → ℕ → ℕ → ℕ → ℕ → Message
restore_to process turn store position running = said.Restore process turn store position running

abbrev pub follow_to : ℕ → ℕ → ℕ → Outcome → ℕ → Message
follow_to process store tx outcome update = said.Follow process store tx outcome update

-- the place of no message
abbrev pub no_message : Message
no_message = request_to 0 no_entry
