-- A coordinator's queue: "The queue is lent as a row of entries, at most eight."
use Rattle.std.specs.Prelude.{◌+◌, Bool, false, ◌||◌, cond, List, [], ◌∷◌, leb, length, replicate, set, take}
use Rattle.std.proofs.lemmas.List.Edits.{sets}
use Rattle.log_entry.specs.declared.Entry.{Entry}
use Rattle.log_entry.specs.Entry.{same_entry}
use Rattle.model_protocol.specs.declared.Entries.{Entries}
use Rattle.model_protocol.specs.Batch.{Batch, batch_of, entries_of, no_entry}
use Rattle.model_protocol.specs.Limits.{batch_entries, queue_places}

abbrev pub Queue : Type 0
Queue = Entries queue_places

-- the queue of these entries, at most eight
unfoldable pub queue_of : List Entry → Queue
queue_of es = record { entries = sets (replicate queue_places no_entry) 0 es; count = length es }

-- the queue's entries, oldest first
abbrev pub queued : Queue → List Entry
queued q = take q.count q.entries

abbrev pub is_full : Queue → Bool
is_full q = leb queue_places q.count

-- an equal entry is there
unfoldable pub is_in : Entry → List Entry → Bool
is_in e [] = false
is_in e (f ∷ fs) = same_entry e f || is_in e fs

-- the queue with one entry more, at its end
abbrev pub joined : Queue → Entry → Queue
joined q e = record { entries = set q.entries q.count e; count = q.count + 1 }

-- "A delivered request joins the queue unless an equal entry is there." For a new entry a full
-- queue is refused (6), and stays as it is
unfoldable pub joining : Queue → Entry → Queue
joining q e = cond (is_in e (queued q) || is_full q) q (joined q e)

-- the entries that equal none of the others, in their order
unfoldable pub without : List Entry → List Entry → List Entry
without [] fs = []
without (e ∷ es) fs = cond (is_in e fs) (without es fs) (e ∷ without es fs)

-- "Queue entries equal to an entry of the learned batch leave, the rest keep their order."
unfoldable pub left_by : Queue → Batch → Queue
left_by q b = queue_of (without (queued q) (entries_of b))

-- "the first up to four queue entries"
unfoldable pub first_batch : Queue → Batch
first_batch q = batch_of (take batch_entries (queued q))
