-- Document 01, "Hosts in C": "kind (0 take, 1 vote), process, by, store, tx, list, say (0 abort, 1
-- commit), a zero, and the update, low byte first". Document 02: "a host's record grows to 16
-- bytes", and it "carries the turn in its zero byte".
use Rattle.std.specs.Prelude.{ℕ, zero, suc, ◌+◌, ◌*◌, ◌/◌, ◌%◌, Bool, ◌&&◌, cond, not, List, [], ◌∷◌, eqb, drop, get_or, length, Err}
use Rattle.log_entry.specs.Limits.{update_bytes}
use Rattle.log_entry.specs.declared.refusal.Refusal.TheVariants.{Unreadable}
use Rattle.log_entry.specs.declared.Entry.{Entry}
use Rattle.log_entry.specs.Entry.{outside}
use Rattle.host_records.specs.declared.Numbers.{Numbers}
use Rattle.host_records.specs.Numbers.{Reading, byte_values, entry_of, numbers, numbers_of, read_numbers, unreadable}

-- where the bytes of the update begin in a record
abbrev pub update_at : ℕ
update_at = 8

abbrev pub record_size : ℕ
record_size = update_at + update_bytes

-- a number's first n bytes, low byte first
abbrev pub low_first : ℕ → ℕ → List ℕ
low_first zero u = []
low_first (suc n) u = u % byte_values ∷ low_first n (u / byte_values)

-- the number of such bytes
abbrev pub from_low_first : List ℕ → ℕ
from_low_first [] = 0
from_low_first (b ∷ bs) = b + byte_values * from_low_first bs

-- numbers as a record
abbrev pub bytes_of : Numbers → List ℕ
bytes_of n = n.kind ∷ n.process ∷ n.by ∷ n.store ∷ n.tx ∷ n.list ∷ n.say ∷ n.turn ∷ low_first update_bytes n.update

-- an entry as a record
unfoldable pub record_of : Entry → List ℕ
record_of e = bytes_of (numbers_of e)

-- the numbers of a record
abbrev pub numbers_in : List ℕ → Numbers
numbers_in bytes =
    numbers (get_or bytes 0 0) (get_or bytes 1 0) (get_or bytes 2 0) (get_or bytes 3 0) (get_or bytes 4 0) (get_or bytes 5 0) (get_or bytes 6 0) (get_or bytes 7 0) (from_low_first (drop update_at bytes))

-- what a record reads as, for a log of this limit; what is no record, for its length, is 1
unfoldable pub read_record : ℕ → List ℕ → Reading
read_record limit bytes =
    cond (eqb (length bytes) record_size) (read_numbers limit (numbers_in bytes)) (Err Unreadable)

-- the entry that a record's numbers stand for
abbrev pub entry_in : List ℕ → Entry
entry_in bytes = entry_of (numbers_in bytes)

-- an entry of document 01: what a take does not use is 0, and each number is within the limits of a
-- log of this limit
abbrev pub proper : ℕ → Entry → Bool
proper limit e = not (unreadable (numbers_of e)) && not (outside limit e)
