-- Document 01, "Cases": P1 to P10 as one table of entries with the answers and results that the
-- document gives.
use Rattle.std.specs.Prelude.{ℕ, suc, ◌≡◌, true, false, List, [], ◌∷◌, map}
use Rattle.log_entry.specs.declared.Entry.{Entry}
use Rattle.log_entry.specs.Entry.{take_entry, vote_entry}
use Rattle.log_votes.specs.declared.Involvement.{Involvement}
use Rattle.log_votes.specs.declared.Involvement.TheVariants.{No, Unknown}
use Rattle.log_core.specs.declared.Log.{Log}
use Rattle.log_votes.specs.declared.Outcome.{Outcome}
use Rattle.log_votes.specs.declared.Outcome.TheVariants.{Open, Commit, Abort}
use Rattle.log_core.specs.Enter.{answers_to, feed}
use Rattle.log_core.specs.Log.{involvement_of, group_of, outcome_of}
use Rattle.log_laws.specs.Reached.{reached}

-- a result: the outcome of a tx, its group, or the involvement of a store in it
pub data Result : Type 0 where
  outcome : ℕ → Outcome → Result
  group : ℕ → ℕ → Result
  involvement : ℕ → ℕ → Involvement → Result

-- a row of the table: the entries shown and the answers to them, after the takes that went before,
-- and what the log says then
pub record Case : Type 0 where
  pub took : List Entry
  pub entries : List Entry
  pub answers : List ℕ
  pub results : List Result

-- "A line without it means turn 1"
abbrev pub take : ℕ → ℕ → Entry
take process store = take_entry process 1 store

-- "Where no take is shown, process s + 1 took store s first"
abbrev pub takes : List Entry
takes =
    take 1 0 ∷ take 2 1 ∷ take 3 2 ∷ take 4 3 ∷ take 5 4 ∷ take 6 5 ∷ take 7 6 ∷ take 8 7 ∷ []

abbrev pub none : List Entry
none = []

-- votes of a store on a tx with a list, by the process that took it
abbrev pub commit : ℕ → ℕ → ℕ → Entry
commit store tx list = vote_entry (suc store) 1 store store tx list true 0

abbrev pub abort : ℕ → ℕ → ℕ → Entry
abort store tx list = vote_entry (suc store) 1 store store tx list false 0

abbrev pub case : List Entry → List Entry → List ℕ → List Result → Case
case took entries answers results = record { took = took; entries = entries; answers = answers; results = results }

-- Two cells are given, since document 02 changes them: whether store 3 is involved in P4, and the
-- last answer of P10.
unfoldable pub cases_with : Involvement → ℕ → List Case
cases_with store3 last =
    -- P1: none: tx 0 open, store 0 unknown
    case takes [] [] (outcome 0 Open ∷ involvement 0 0 Unknown ∷ [])
    -- P2: commit, list 01: commit, group 1
    ∷ case takes (commit 0 0 0x01 ∷ []) (0 ∷ []) (outcome 0 Commit ∷ group 0 1 ∷ [])
    -- P3: one commit of list 03: open
    ∷ case takes (commit 0 0 0x03 ∷ []) (0 ∷ []) (outcome 0 Open ∷ [])
    -- P4: abort by store 3, list 08; commit by 0, list 03: abort; store 3 as given, 5 no
    ∷ case takes
    (abort 3 0 0x08 ∷ commit 0 0 0x03 ∷ [])
    (0 ∷ 0 ∷ [])
    (outcome 0 Abort ∷ involvement 0 3 store3 ∷ involvement 0 5 No ∷ [])
    -- P5: commit, list 03; commit by 1, list 07: 9
    ∷ case takes (commit 0 0 0x03 ∷ commit 1 0 0x07 ∷ []) (0 ∷ 9 ∷ []) []
    -- P6: list 03 committed; abort by 1, list 03: 10
    ∷ case takes
    (commit 0 0 0x03 ∷ commit 1 0 0x03 ∷ abort 1 0 0x03 ∷ [])
    (0 ∷ 0 ∷ 10 ∷ [])
    (outcome 0 Commit ∷ [])
    -- P7: tx 1 and 2 running, 1 commits, 2 commits: both in group 1
    ∷ case takes
    (commit 0 1 0x03 ∷ commit 0 2 0x03 ∷ commit 1 1 0x03 ∷ commit 1 2 0x03 ∷ [])
    (0 ∷ 0 ∷ 0 ∷ 0 ∷ [])
    (group 1 1 ∷ group 2 1 ∷ [])
    -- P8: after 1 commits, 3 starts; 2 commits, 3 commits: 2 in group 1, 3 in 2
    ∷ case takes
    (commit 0 1 0x03 ∷ commit 0 2 0x03 ∷ commit 1 1 0x03 ∷ commit 0 3 0x03 ∷ commit 1 2 0x03 ∷ commit 1 3 0x03 ∷ [])
    (0 ∷ 0 ∷ 0 ∷ 0 ∷ 0 ∷ 0 ∷ [])
    (group 2 1 ∷ group 3 2 ∷ [])
    -- P9: as P8, 3 commits before 2: 2 and 3 in group 2
    ∷ case takes
    (commit 0 1 0x03 ∷ commit 0 2 0x03 ∷ commit 1 1 0x03 ∷ commit 0 3 0x03 ∷ commit 1 3 0x03 ∷ commit 1 2 0x03 ∷ [])
    (0 ∷ 0 ∷ 0 ∷ 0 ∷ 0 ∷ 0 ∷ [])
    (group 2 2 ∷ group 3 2 ∷ [])
    -- P10: 3 takes 0, 4 takes 0, 3 votes: 8; 3 takes 0 again
    ∷ case none
    (take 3 0 ∷ take 4 0 ∷ vote_entry 3 1 0 0 0 0x01 true 0 ∷ take 3 0 ∷ [])
    (0 ∷ 0 ∷ 8 ∷ last ∷ [])
    []
    ∷ []

-- document 02: "In case P4 store 3 becomes no"; "the last answer of P10 becomes 12"
abbrev pub cases : List Case
cases = cases_with No 12

-- the same question, with the log's answer; who is involved is told by the function given
abbrev pub said_by : (Log → ℕ → ℕ → Involvement) → Log → Result → Result
said_by involved l (outcome tx o) = outcome tx (outcome_of l tx)
said_by involved l (group tx g) = group tx (group_of l tx)
said_by involved l (involvement tx store i) = involvement tx store (involved l tx store)

-- the row with the answers and results that the definitions give
abbrev pub as_defined : Case → Case
as_defined c =
    case c.took c.entries (answers_to (reached c.took) c.entries)
    (map (said_by involvement_of (feed (reached c.took) c.entries)) c.results)

-- the definitions give the table
abbrev pub CasesHold : Type 0
CasesHold = map as_defined cases ≡ cases
