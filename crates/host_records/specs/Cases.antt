-- Records and what they read as, byte for byte: the words of documents 01 and 02 on a host's record,
-- with a turn in "its zero byte".
use Rattle.std.specs.Prelude.{ℕ, ◌≡◌, true, false, List, [], ◌∷◌, map, ◌++◌, Result, Ok, Err}
use Rattle.log_entry.specs.declared.Entry.{Entry}
use Rattle.log_entry.specs.Entry.{take_entry, vote_entry}
use Rattle.log_entry.specs.Number.{number_of}
use Rattle.host_records.specs.Numbers.{Reading}
use Rattle.host_records.specs.Record.{read_record}

-- an entry, or the number of the refusal
abbrev Said : Type 0
Said = Result Entry ℕ

abbrev said : Reading → Said
said (Ok e) = Ok e
said (Err r) = Err (number_of r)

pub record Case : Type 0 where
  pub bytes : List ℕ
  pub reading : Said

infix 4 ◌reads◌
abbrev pub ◌reads◌ : List ℕ → Said → Case
bytes reads r = record { bytes = bytes; reading = r }

-- the first eight bytes, and an update of 0
abbrev short : ℕ → ℕ → ℕ → ℕ → ℕ → ℕ → ℕ → ℕ → List ℕ
short kind process by store tx list say turn =
    kind ∷ process ∷ by ∷ store ∷ tx ∷ list ∷ say ∷ turn ∷ 0 ∷ 0 ∷ 0 ∷ 0 ∷ 0 ∷ 0 ∷ 0 ∷ 0 ∷ []

-- the same, and an update whose lowest and highest bytes are not 0
abbrev long : ℕ → ℕ → ℕ → ℕ → ℕ → ℕ → ℕ → ℕ → List ℕ
long kind process by store tx list say turn =
    kind ∷ process ∷ by ∷ store ∷ tx ∷ list ∷ say ∷ turn ∷ 10 ∷ 0 ∷ 0 ∷ 0 ∷ 0 ∷ 0 ∷ 0 ∷ 1 ∷ []

-- of a log of 8 stores
unfoldable pub record_cases : List Case
record_cases =
    -- "carries the turn in its zero byte, 0 meaning 1", of a take and of a vote
    (short 0 3 0 7 0 0 0 0 reads Ok (take_entry 3 1 7))
    ∷ (short 0 3 0 7 0 0 0 1 reads Ok (take_entry 3 1 7))
    ∷ (short 0 3 0 7 0 0 0 255 reads Ok (take_entry 3 255 7))
    ∷ (long 1 3 1 2 31 6 1 0 reads Ok (vote_entry 3 1 1 2 31 6 true 0x010000000000000a))
    ∷ (long 1 3 1 2 31 6 1 2 reads Ok (vote_entry 3 2 1 2 31 6 true 0x010000000000000a))
    ∷ (short 1 3 1 2 31 6 0 255 reads Ok (vote_entry 3 255 1 2 31 6 false 0))
    -- "A wrong kind or say [..] is 1"
    ∷ (short 2 3 0 7 0 0 0 1 reads Err 1)
    ∷ (short 1 3 1 2 31 6 2 1 reads Err 1)
    -- "bytes a take does not use are 0", "or a byte that should be 0 and is not, is 1": each of them
    ∷ (short 0 3 1 7 0 0 0 2 reads Err 1)
    ∷ (short 0 3 0 7 1 0 0 2 reads Err 1)
    ∷ (short 0 3 0 7 0 1 0 2 reads Err 1)
    ∷ (short 0 3 0 7 0 0 1 2 reads Err 1)
    ∷ (long 0 3 0 7 0 0 0 2 reads Err 1)
    -- "a number outside its limits [..] 2": process, store, by, tx
    ∷ (short 0 0 0 7 0 0 0 2 reads Err 2)
    ∷ (short 0 16 0 7 0 0 0 2 reads Err 2)
    ∷ (short 0 3 0 8 0 0 0 2 reads Err 2)
    ∷ (short 1 3 8 2 31 6 1 2 reads Err 2)
    ∷ (short 1 3 1 2 32 6 1 2 reads Err 2)
    -- 1 before 2
    ∷ (short 0 16 0 7 0 0 1 2 reads Err 1)
    -- a byte more than a record
    ∷ (short 0 3 0 7 0 0 0 1 ++ 0 ∷ [] reads Err 1)
    ∷ []

-- Of a log of 3 stores: "A number outside the log's own limits, or a list naming such a store, is
-- refused 2".
unfoldable pub small_cases : List Case
small_cases =
    (short 0 15 0 2 0 0 0 255 reads Ok (take_entry 15 255 2))
    ∷ (long 1 3 1 2 7 6 1 2 reads Ok (vote_entry 3 2 1 2 7 6 true 0x010000000000000a))
    -- store, by, tx, list
    ∷ (short 0 3 0 3 0 0 0 1 reads Err 2)
    ∷ (short 1 3 1 3 7 6 0 1 reads Err 2)
    ∷ (short 1 3 3 2 7 6 0 1 reads Err 2)
    ∷ (short 1 3 1 2 8 6 0 1 reads Err 2)
    ∷ (short 1 3 1 2 7 14 0 1 reads Err 2)
    ∷ (short 1 3 1 2 7 134 0 1 reads Err 2)
    -- 1 before 2
    ∷ (short 0 3 0 3 0 0 1 1 reads Err 1)
    ∷ (short 1 3 1 2 8 6 2 1 reads Err 1)
    ∷ []

-- the record with what it reads as by the definitions, for a log of this limit
abbrev as_read : ℕ → Case → Case
as_read limit c = c.bytes reads said (read_record limit c.bytes)

-- the definitions give the tables
abbrev pub RecordCasesHold : Type 0
RecordCasesHold = (map (as_read 8) record_cases ≡ record_cases) × (map (as_read 3) small_cases ≡ small_cases)
