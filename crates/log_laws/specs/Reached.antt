-- The logs of these theorems: every reachable log, which is the empty one fed a list of entries,
-- refused ones skipped.
use Rattle.std.specs.Prelude.{List}
use Rattle.log_entry.specs.declared.Entry.{Entry}
use Rattle.log_core.specs.declared.Log.{Log}
use Rattle.log_core.specs.Enter.{feed}
use Rattle.log_core.specs.Log.{empty_log}

abbrev pub reached : List Entry → Log
reached es = feed empty_log es
