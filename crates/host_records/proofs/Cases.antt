-- The tables of records and what they read as, by computation.
use mathlib.Core.Path.{refl}
use Rattle.log_entry.specs.Entry.{outside}
use Rattle.host_records.specs.Cases.{RecordCasesHold, record_cases, small_cases}
use Rattle.host_records.specs.Numbers.{read_numbers, unreadable}
use Rattle.host_records.specs.Record.{read_record}

pub record_cases_hold : RecordCasesHold
unfolding record_cases small_cases read_record read_numbers unreadable outside
record_cases_hold = (refl, refl)
