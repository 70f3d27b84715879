-- Document 02, "A one-saw workshop": a table of entries, and the answers of a log of 3 stores and
-- of one of 8 that follow from its words.
use Rattle.std.specs.Prelude.{ℕ, ◌≡◌, true, false, List, [], ◌∷◌, map}
use Rattle.log_entry.specs.declared.Entry.{Entry}
use Rattle.log_entry.specs.Entry.{take_entry, vote_entry}
use Rattle.log_core.specs.Enter.{answers_to}
use Rattle.log_core.specs.Log.{opened}

-- a row of the table: entries for the empty log, and the answers to them of both logs
pub record Case : Type 0 where
  pub entries : List Entry
  pub small : List ℕ
  pub full : List ℕ

abbrev case : List Entry → List ℕ → List ℕ → Case
case entries small full = record { entries = entries; small = small; full = full }

-- a take, by process, turn and store
abbrev take : ℕ → ℕ → ℕ → Entry
take = take_entry

-- a commit vote of store 0 for itself by process 1, by tx and list
abbrev commit : ℕ → ℕ → Entry
commit tx list = vote_entry 1 1 0 0 tx list true 0

-- an abort vote of process 1, by `by`, store, tx and list
abbrev abort : ℕ → ℕ → ℕ → ℕ → Entry
abort by store tx list = vote_entry 1 1 by store tx list false 0

unfoldable pub limit_cases : List Case
limit_cases =
    -- stores 0 to 2, or 0 to 7
    case (take 1 1 2 ∷ take 2 1 3 ∷ take 3 1 7 ∷ take 4 1 8 ∷ []) (0 ∷ 2 ∷ 2 ∷ 2 ∷ []) (0 ∷ 0 ∷ 0 ∷ 2 ∷ [])
    -- transactions 0 to 7, or 0 to 31
    ∷ case
    (take 1 1 0 ∷ commit 7 0x01 ∷ commit 8 0x01 ∷ commit 31 0x01 ∷ commit 32 0x01 ∷ [])
    (0 ∷ 0 ∷ 2 ∷ 2 ∷ 2 ∷ [])
    (0 ∷ 0 ∷ 0 ∷ 0 ∷ 2 ∷ [])
    -- "or a list naming such a store"
    ∷ case
    (take 1 1 0 ∷ commit 0 0x07 ∷ commit 1 0x09 ∷ commit 2 0x81 ∷ commit 3 0x101 ∷ [])
    (0 ∷ 0 ∷ 2 ∷ 2 ∷ 2 ∷ [])
    (0 ∷ 0 ∷ 0 ∷ 0 ∷ 2 ∷ [])
    -- processes 1 to 15 and turns 1 to 255, of both
    ∷ case
    (take 15 255 2 ∷ take 16 1 1 ∷ take 0 1 1 ∷ take 1 0 1 ∷ take 1 256 1 ∷ [])
    (0 ∷ 2 ∷ 2 ∷ 2 ∷ 2 ∷ [])
    (0 ∷ 2 ∷ 2 ∷ 2 ∷ 2 ∷ [])
    -- 2 before 7: `by` outside and not in the list; `store` likewise; a tx outside and a list
    -- without the store
    ∷ case (take 1 1 0 ∷ abort 3 0 0 0x01 ∷ abort 0 3 0 0x01 ∷ commit 8 0x02 ∷ []) (0 ∷ 2 ∷ 2 ∷ 2 ∷ []) (0 ∷ 7 ∷ 7 ∷ 7 ∷ [])
    -- 2 before 8: process 1 holds nothing
    ∷ case (commit 8 0x01 ∷ commit 0 0x09 ∷ []) (2 ∷ 2 ∷ []) (8 ∷ 8 ∷ [])
    -- 2 before 9: another list than that of the kept commit vote
    ∷ case
    (take 1 1 0 ∷ take 2 1 1 ∷ commit 0 0x03 ∷ vote_entry 2 1 1 1 0 0x0b true 0 ∷ [])
    (0 ∷ 0 ∷ 0 ∷ 2 ∷ [])
    (0 ∷ 0 ∷ 0 ∷ 9 ∷ [])
    -- 2 before 10: an abort is kept, and with it no list
    ∷ case (take 1 1 0 ∷ abort 0 0 0 0x01 ∷ abort 0 0 0 0x09 ∷ []) (0 ∷ 0 ∷ 2 ∷ []) (0 ∷ 0 ∷ 10 ∷ [])
    -- 2 before 11, and before 12
    ∷ case (take 1 1 0 ∷ take 1 1 3 ∷ []) (0 ∷ 2 ∷ []) (0 ∷ 11 ∷ [])
    ∷ case (take 1 2 0 ∷ take 2 1 0 ∷ take 1 1 3 ∷ []) (0 ∷ 0 ∷ 2 ∷ []) (0 ∷ 0 ∷ 12 ∷ [])
    -- "and keeps it": after a take, a vote that begins a group, one that begins none and a refusal
    ∷ case
    (take 1 1 0 ∷ take 2 1 3 ∷ commit 0 0x01 ∷ take 3 1 4 ∷ commit 1 0x03 ∷ commit 9 0x01 ∷ take 4 1 5 ∷ [])
    (0 ∷ 2 ∷ 0 ∷ 2 ∷ 0 ∷ 2 ∷ 2 ∷ [])
    (0 ∷ 0 ∷ 0 ∷ 0 ∷ 0 ∷ 0 ∷ 0 ∷ [])
    ∷ []

-- the row with the answers that the definitions give
abbrev as_defined : Case → Case
as_defined c = case c.entries (answers_to (opened 3) c.entries) (answers_to (opened 8) c.entries)

-- the definitions give the table
abbrev pub LimitCasesHold : Type 0
LimitCasesHold = map as_defined limit_cases ≡ limit_cases
