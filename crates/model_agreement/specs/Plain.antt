-- "The plain log is fed from empty, batch by batch in order."
use Rattle.std.specs.Prelude.{List, [], ◌∷◌, ◌++◌}
use Rattle.log_entry.specs.declared.Entry.{Entry}
use Rattle.log_core.specs.declared.Log.{Log}
use Rattle.log_core.specs.Enter.{feed}
use Rattle.log_core.specs.Log.{empty_log}
use Rattle.model_protocol.specs.Batch.{Batch, entries_of}

abbrev pub all_entries : List Batch → List Entry
all_entries [] = []
all_entries (b ∷ bs) = entries_of b ++ all_entries bs

unfoldable pub plain_log : List Batch → Log
plain_log bs = feed empty_log (all_entries bs)
