-- The claims on a turn as hosts have it, with its numbers as the documents say them. They hold for
-- a log of any limit.
-- `proofs/Theorems.antt` proves them.
use Rattle.std.specs.Prelude.{ℕ, ◌<◌, ◌≤◌, cond, false, List, ◌∷◌, ◌≡◌, eqb, get_or, Ok, Err}
use Rattle.log_entry.specs.declared.Entry.{Entry}
use Rattle.log_entry.specs.declared.refusal.Refusal.TheVariants.{OutsideLimits}
use Rattle.host_records.specs.Numbers.{numbers, read_numbers, unreadable}
use Rattle.host_records.specs.Record.{read_record, record_of}
use Rattle.host_records.specs.declared.Numbers.{Numbers}

-- "0 meaning 1": a record with turn 0 reads as the same record with turn 1 does.
abbrev pub ZeroMeansFirst : Type 0
ZeroMeansFirst =
    (limit kind process by store tx list say : ℕ) (rest : List ℕ)
    → read_record limit (kind ∷ process ∷ by ∷ store ∷ tx ∷ list ∷ say ∷ 0 ∷ rest) ≡ read_record limit (kind ∷ process ∷ by ∷ store ∷ tx ∷ list ∷ say ∷ 1 ∷ rest)

-- "in a call too"
abbrev pub ZeroMeansFirstInCall : Type 0
ZeroMeansFirstInCall =
    (limit kind process by store tx list say update : ℕ)
    → read_numbers limit (numbers kind process by store tx list say 0 update) ≡ read_numbers limit (numbers kind process by store tx list say 1 update)

-- "carries the turn in its zero byte": the turn of what a record reads as is its eighth byte, and 1
-- where that is 0.
abbrev pub TurnRead : Type 0
TurnRead = (limit : ℕ) (bytes : List ℕ) (e : Entry) → read_record limit bytes ≡ Ok e → e.turn ≡ cond (eqb (get_or bytes 7 0) 0) 1 (get_or bytes 7 0)

-- "turn 1 is stored as 1": what is stored of the numbers of a call has a turn of 1 to 255, never 0.
-- It is theirs, and 1 where that is 0.
abbrev pub StoredTurn : Type 0
StoredTurn =
    (limit : ℕ) (n : Numbers) (e : Entry) → read_numbers limit n ≡ Ok e
    → (0 < get_or (record_of e) 7 0) × (get_or (record_of e) 7 0 ≤ 255) × (get_or (record_of e) 7 0 ≡ cond (eqb n.turn 0) 1 n.turn)

-- "1 to 255": a turn above these, which only a call can say, is outside its limits.
abbrev pub TurnAbove : Type 0
TurnAbove = (limit : ℕ) (n : Numbers) → unreadable n ≡ false → 255 < n.turn → read_numbers limit n ≡ Err OutsideLimits
