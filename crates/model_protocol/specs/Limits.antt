-- Document 01, "Numbers in use": the limits of what the parties hold.
use Rattle.std.specs.Prelude.{ℕ, ◌*◌}
use Rattle.model_steps.specs.Limits.{instances, most_acceptors}

-- a batch has 1 to 4 entries
abbrev pub batch_entries : ℕ
batch_entries = 4

-- a queue at most 8
abbrev pub queue_places : ℕ
queue_places = 8

-- a slot for every acceptor and instance
abbrev pub slot_places : ℕ
slot_places = most_acceptors * instances
