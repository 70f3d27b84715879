-- Batches: "A batch has 1 to 4 entries".
use Rattle.std.specs.Prelude.{false, List, length, replicate, take}
use Rattle.std.proofs.lemmas.List.Edits.{sets}
use Rattle.log_entry.specs.declared.Entry.{Entry}
use Rattle.log_entry.specs.Entry.{vote_entry}
use Rattle.model_protocol.specs.declared.Entries.{Entries}
use Rattle.model_protocol.specs.Limits.{batch_entries}

abbrev pub Batch : Type 0
Batch = Entries batch_entries

-- the place of no entry: a vote of zeros
abbrev pub no_entry : Entry
no_entry = vote_entry 0 0 0 0 0 0 false 0

-- the place of no batch
unfoldable pub no_batch : Batch
no_batch = record { entries = replicate batch_entries no_entry; count = 0 }

-- the entries of a batch, in order
abbrev pub entries_of : Batch → List Entry
entries_of b = take b.count b.entries

-- the batch of these entries, at most four
unfoldable pub batch_of : List Entry → Batch
batch_of es = record { entries = sets (replicate batch_entries no_entry) 0 es; count = length es }
