-- The buffers that hosts come to, and the entries in a buffer: what the theorems of
-- `proofs/Theorems.antt` speak of.
use Rattle.std.specs.Prelude.{ℕ, suc, List, map, ◌≡◌}
use Rattle.log_entry.specs.declared.Entry.{Entry}
use Rattle.log_entry.specs.Number.{answer_number}
use Rattle.log_entry.specs.Refusal.{accepted}
use Rattle.host_records.specs.declared.Numbers.{Numbers}
use Rattle.host_records.specs.Record.{entry_in}
use Rattle.release_log.specs.Add.{add_answer, add_bytes}
use Rattle.host_lent.specs.Lent.{records_in}

-- a buffer that was filled only by accepted adds of one limit, from empty, and the count of its
-- records
pub data Filled (limit : ℕ) : List ℕ → ℕ → Type 0 where
  empty : {bytes : List ℕ} → Filled limit bytes 0
  added : {bytes : List ℕ} {count : ℕ} (n : Numbers) → Filled limit bytes count → add_answer limit bytes count n ≡ answer_number accepted
      → Filled limit (add_bytes limit bytes count n) (suc count)

-- the entries that the lent records stand for, oldest first
abbrev pub entries_in : List ℕ → ℕ → List Entry
entries_in bytes count = map entry_in (records_in bytes count)
