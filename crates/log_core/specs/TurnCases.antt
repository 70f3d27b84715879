-- Document 02, "Machines that come back": a table of takes and votes in turns, with the answers
-- that follow from its words.
use Rattle.std.specs.Prelude.{ℕ, ◌≡◌, true, false, List, [], ◌∷◌, map}
use Rattle.log_entry.specs.declared.Entry.{Entry}
use Rattle.log_entry.specs.Entry.{take_entry, vote_entry}
use Rattle.log_votes.specs.declared.Outcome.{Outcome}
use Rattle.log_votes.specs.declared.Outcome.TheVariants.{Commit, Abort}
use Rattle.log_core.specs.Enter.{answers_to, feed}
use Rattle.log_core.specs.Log.{empty_log, outcome_of}

-- a transaction's outcome
pub record Ended : Type 0 where
  pub tx : ℕ
  pub outcome : Outcome

abbrev outcome : ℕ → Outcome → Ended
outcome tx o = record { tx = tx; outcome = o }

-- a row of the table: entries for the empty log, the answers to them, and what was decided then
pub record Case : Type 0 where
  pub entries : List Entry
  pub answers : List ℕ
  pub ended : List Ended

abbrev case : List Entry → List ℕ → List Ended → Case
case entries answers ended = record { entries = entries; answers = answers; ended = ended }

-- a take, by process, turn and store
abbrev take : ℕ → ℕ → ℕ → Entry
take = take_entry

-- a commit vote of a store for itself, by process, turn, store, tx and list
abbrev commit : ℕ → ℕ → ℕ → ℕ → ℕ → Entry
commit process turn store tx list = vote_entry process turn store store tx list true 0

-- an abort vote on behalf of `store`, by process, turn, `by`, store, tx and list
abbrev behalf : ℕ → ℕ → ℕ → ℕ → ℕ → ℕ → Entry
behalf process turn by store tx list = vote_entry process turn by store tx list false 0

unfoldable pub turn_cases : List Case
turn_cases =
    -- turns are 1 to 255
    case (take 3 0 0 ∷ take 3 256 0 ∷ take 3 255 0 ∷ []) (2 ∷ 2 ∷ 0 ∷ []) []
    -- a first take is accepted in any turn; another process's turns do not count
    ∷ case (take 3 7 0 ∷ take 4 1 1 ∷ []) (0 ∷ 0 ∷ []) []
    -- its own store again: the same turn is 12, a later one 0, an earlier one 12
    ∷ case (take 3 1 0 ∷ take 3 1 0 ∷ take 3 2 0 ∷ take 3 1 0 ∷ []) (0 ∷ 12 ∷ 0 ∷ 12 ∷ []) []
    -- another store while it holds one: 11, in a later turn and in an earlier one too
    ∷ case (take 3 2 0 ∷ take 3 2 1 ∷ take 3 3 1 ∷ take 3 1 1 ∷ []) (0 ∷ 11 ∷ 11 ∷ 11 ∷ []) []
    -- 3 lost store 0; in the same turn it takes store 1, which it never held, and not store 0
    ∷ case (take 3 1 0 ∷ take 4 1 0 ∷ take 3 1 0 ∷ take 3 1 1 ∷ []) (0 ∷ 0 ∷ 12 ∷ 0 ∷ []) []
    -- 3 held store 0 in turn 1 and store 1 in turn 2, and lost both. In turn 2 store 0 is 12: it
    -- held that store, if in another turn. In turn 3 it is 0.
    ∷ case
    (take 3 1 0 ∷ take 4 1 0 ∷ take 3 2 1 ∷ take 5 1 1 ∷ take 3 2 0 ∷ take 3 3 0 ∷ [])
    (0 ∷ 0 ∷ 0 ∷ 0 ∷ 12 ∷ 0 ∷ [])
    []
    -- the last turn is that of the process, of whichever store: below it a store never held is 12
    ∷ case (take 3 5 0 ∷ take 4 1 0 ∷ take 3 4 1 ∷ take 3 5 1 ∷ []) (0 ∷ 0 ∷ 12 ∷ 0 ∷ []) []
    -- a vote of an earlier or a later turn than the holder's: 12; of the holder's: 0
    ∷ case
    (take 1 2 0 ∷ commit 1 1 0 0 0x01 ∷ commit 1 3 0 0 0x01 ∷ commit 1 2 0 0 0x01 ∷ [])
    (0 ∷ 12 ∷ 12 ∷ 0 ∷ [])
    (outcome 0 Commit ∷ [])
    -- a vote on behalf: by the turn of the holder of `by`, not of `store`
    ∷ case
    (take 1 2 0 ∷ take 2 3 1 ∷ behalf 1 3 0 1 0 0x03 ∷ behalf 1 2 0 1 0 0x03 ∷ [])
    (0 ∷ 0 ∷ 12 ∷ 0 ∷ [])
    (outcome 0 Abort ∷ [])
    -- votes of a wrong turn that are 7, 8, 9 and 10 first
    ∷ case
    (take 1 2 0
    ∷ take 2 1 1
    ∷ commit 1 1 0 0 0x02
    ∷ commit 3 1 0 0 0x01
    ∷ commit 1 2 0 0 0x03
    ∷ commit 2 2 1 0 0x07
    ∷ commit 1 1 0 0 0x03
    ∷ [])
    (0 ∷ 0 ∷ 7 ∷ 8 ∷ 0 ∷ 9 ∷ 10 ∷ [])
    []
    -- it takes its own store in turn 2: the kept vote of turn 1 stays, another of turn 1 is 12, and
    -- one of turn 2 is 0
    ∷ case
    (take 1 1 0 ∷ commit 1 1 0 0 0x01 ∷ take 1 2 0 ∷ commit 1 1 0 1 0x01 ∷ commit 1 2 0 1 0x01 ∷ [])
    (0 ∷ 0 ∷ 0 ∷ 12 ∷ 0 ∷ [])
    (outcome 0 Commit ∷ outcome 1 Commit ∷ [])
    ∷ []

-- the row with the answers and outcomes that the definitions give
abbrev as_defined : Case → Case
as_defined c =
    case c.entries (answers_to empty_log c.entries)
    (map (λ (o : Ended). outcome o.tx (outcome_of (feed empty_log c.entries) o.tx)) c.ended)

-- the definitions give the table
abbrev pub TurnCasesHold : Type 0
TurnCasesHold = map as_defined turn_cases ≡ turn_cases
