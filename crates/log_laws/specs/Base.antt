-- The log of document 01, for comparison. Its refusals, and who is involved, are written from that
-- document; no turn is read. What is accepted is stored as `log_core` does it.
use Rattle.std.specs.Prelude.{ℕ, ◌≡◌, Bool, ◌&&◌, ◌||◌, not, cond, List, [], ◌∷◌, map, eqb, leb, get_or, is_ok}
use Rattle.log_entry.specs.declared.Entry.{Entry}
use Rattle.log_entry.specs.Bits.{has}
use Rattle.log_entry.specs.Entry.{by_of, ill_formed, is_take, list_of, no_process, tx_of, update_in}
use Rattle.log_entry.specs.Limits.{lists, stores, transactions, updates}
use Rattle.log_entry.specs.Number.{Answer, answer_number}
use Rattle.log_entry.specs.Refusal.{Check, check, first_refusal, holds_another, ill_formed_vote, kept_already, not_holder, other_list, outside_limits}
use Rattle.log_votes.specs.declared.Involvement.{Involvement}
use Rattle.log_votes.specs.declared.Involvement.TheVariants.{No, Unknown, Yes}
use Rattle.log_votes.specs.declared.Row.{Row}
use Rattle.log_votes.specs.Involvement.{any_listing}
use Rattle.log_votes.specs.Outcome.{is_commit}
use Rattle.log_votes.specs.Refusal.{any_clash}
use Rattle.log_votes.specs.Row.{vote_of_store}
use Rattle.log_votes.specs.Scan.{any_from}
use Rattle.log_votes.specs.Vote.{vote_kept}
use Rattle.log_core.specs.declared.Effect.{Effect}
use Rattle.log_core.specs.declared.Entered.{Entered}
use Rattle.log_core.specs.declared.Log.{Log}
use Rattle.log_core.specs.declared.Parts.{Parts}
use Rattle.log_core.specs.Decide.{commits, effect_of, group_after, joins, parts_of, refusal, runs_on}
use Rattle.log_core.specs.Enter.{entered}
use Rattle.log_core.specs.Log.{empty_log, row_of}
use Rattle.log_laws.specs.Cases.{Case, case, cases_with, said_by}

-- 2: "a number outside its limits"; a take has a process and a store, a vote all. Updates are as
-- wide as document 02 makes them.
unfoldable pub base_outside : Entry → Bool
base_outside e =
    no_process e.process
    || leb stores e.store
    || not (is_take e) && (leb stores (by_of e) || leb transactions (tx_of e) || leb lists (list_of e) || leb updates (update_in e))

abbrev pub is_holder : ℕ → ℕ → ℕ → Bool
is_holder process s holder = eqb holder process

-- "it holds some store"
abbrev pub holds_some : List ℕ → ℕ → Bool
holds_some holders process = any_from (is_holder process) 0 holders

-- 11: "it holds some store, or held this one before"; the set has those that took the store
abbrev pub base_take_checks : List ℕ → ℕ → Entry → List Check
base_take_checks holders takers e = check holds_another (holds_some holders e.process || has takers e.process) ∷ []

-- 7 to 10
abbrev pub base_vote_checks : List ℕ → Row → Entry → List Check
base_vote_checks holders r e =
    check ill_formed_vote (ill_formed e)
    ∷ check not_holder (not (eqb (get_or holders (by_of e) 0) e.process))
    ∷ check other_list (any_clash e r.votes)
    ∷ check kept_already (vote_kept (vote_of_store e.store r))
    ∷ []

-- by the holders, the set of those that took the entry's store, and the row of its transaction
unfoldable pub base_refusal : List ℕ → ℕ → Row → Entry → Answer
base_refusal holders takers r e =
    first_refusal (check outside_limits (base_outside e) ∷ cond (is_take e) (base_take_checks holders takers e) (base_vote_checks holders r e))

abbrev pub base_answer : Log → Entry → Answer
base_answer l e = base_refusal l.holders (get_or l.takers e.store 0) (row_of l (tx_of e)) e

-- the entry in another turn: it gets the same answer, so no turn is read
abbrev pub in_turn : ℕ → Entry → Entry
in_turn turn e = record { process = e.process; turn = turn; store = e.store; request = e.request }

abbrev pub BaseReadsNoTurn : Type 0
BaseReadsNoTurn = (l : Log) (e : Entry) (turn : ℕ) → base_answer l (in_turn turn e) ≡ base_answer l e

-- what an entry with this answer changes
abbrev pub effect_by : Answer → Parts → Entry → Effect
effect_by answer p e =
    let keeps = is_ok answer && not (is_take e) in
    record {
      answer = answer;
      group = cond keeps (group_after p e) p.row.group;
      begins = keeps && commits p e && not (joins p e);
      runs = keeps && runs_on p e;
    }

-- `log_core` has the same effect by its own answer
abbrev pub OnlyRefusalsDiffer : Type 0
OnlyRefusalsDiffer = (p : Parts) (e : Entry) → effect_of p e ≡ effect_by (refusal p e) p e

unfoldable pub base_enter : Log → Entry → Entered
base_enter l e = entered l e (effect_by (base_answer l e) (parts_of l e) e)

unfoldable pub base_feed : Log → List Entry → Log
base_feed l [] = l
base_feed l (e ∷ es) = base_feed (base_enter l e).log es

abbrev pub base_reached : List Entry → Log
base_reached es = base_feed empty_log es

-- the answers to the entries, one after the other
unfoldable pub base_answers_to : Log → List Entry → List ℕ
base_answers_to l [] = []
base_answers_to l (e ∷ es) = answer_number (base_enter l e).answer ∷ base_answers_to (base_enter l e).log es

-- "Involvement: yes if the store is in the list of any kept vote of that tx; else no if a commit
-- vote is kept; else unknown."
unfoldable pub base_involvement_of : Log → ℕ → ℕ → Involvement
base_involvement_of l tx store =
    let votes = (row_of l tx).votes in
    cond (any_listing store votes) Yes (cond (any_from is_commit 0 votes) No Unknown)

-- the row with the answers and results of the base
abbrev pub as_in_base : Case → Case
as_in_base c =
    case c.took c.entries (base_answers_to (base_reached c.took) c.entries)
    (map (said_by base_involvement_of (base_feed (base_reached c.took) c.entries)) c.results)

-- document 01's own table holds of it; there store 3 is involved in P4, and the last answer of P10
-- is 11
abbrev pub base_cases : List Case
base_cases = cases_with Yes 11

abbrev pub BaseCasesHold : Type 0
BaseCasesHold = map as_in_base base_cases ≡ base_cases
