-- The claims on the buffers that hosts lend. `proofs/Theorems.antt` proves them.
use Rattle.std.specs.Prelude.{ℕ, suc, ◌<◌, false, List, ◌≡◌, drop, get_or, length}
use Rattle.log_entry.specs.Limits.{updates}
use Rattle.log_entry.specs.Number.{answer_number}
use Rattle.log_entry.specs.Refusal.{accepted}
use Rattle.log_core.specs.declared.Replayed.{Replayed}
use Rattle.log_core.specs.Enter.{answered, enter, feed}
use Rattle.log_core.specs.Log.{opened}
use Rattle.host_records.specs.declared.Numbers.{Numbers}
use Rattle.host_records.specs.Numbers.{entry_of}
use Rattle.host_records.specs.Record.{from_low_first}
use Rattle.host_lent.specs.Lent.{lent_log, no_limit}
use Rattle.release_log.specs.Add.{add_answer, add_bytes}
use Rattle.release_log.specs.Filled.{Filled, entries_in}
use Rattle.release_log.specs.Query.{row_bytes, row_update_at}

-- The log after a buffer is the plain log of that limit, fed its entries.
abbrev pub LentLogIsFed : Type 0
LentLogIsFed =
    (limit : ℕ) (bytes : List ℕ) (count : ℕ) → (lent_log limit bytes count).answer ≡ accepted
    → (lent_log limit bytes count).log ≡ feed (opened limit) (entries_in bytes count)

-- After an accepted add, the log after the buffer, one more counted, is the log before with the
-- entry entered.
abbrev pub AddedEntryIsEntered : Type 0
AddedEntryIsEntered =
    (limit : ℕ) (bytes : List ℕ) (count : ℕ) (n : Numbers) → add_answer limit bytes count n ≡ answer_number accepted
    → lent_log limit (add_bytes limit bytes count n) (suc count) ≡ answered (enter (lent_log limit bytes count).log (entry_of n)).log accepted

-- A buffer that was filled only by accepted adds of one of the limits, from empty, is never refused
-- as records with that limit.
abbrev pub FilledIsAccepted : Type 0
FilledIsAccepted =
    (limit : ℕ) (bytes : List ℕ) (count : ℕ) → no_limit limit ≡ false → Filled limit bytes count → (lent_log limit bytes count).answer ≡ accepted

-- what the bytes of a row say
abbrev pub row_in : List ℕ → Replayed
row_in bytes = record { group = get_or bytes 0 0; tx = get_or bytes 1 0; update = from_low_first (drop row_update_at bytes) }

-- A row of a replay has ten bytes, and they say all of it.
abbrev pub RowReadsBack : Type 0
RowReadsBack = (r : Replayed) → r.update < updates → (length (row_bytes r) ≡ 10) × (row_in (row_bytes r) ≡ r)
