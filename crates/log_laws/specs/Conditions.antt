-- What the conditions of the refusals say, in the documents' own words. `Answers` says which of
-- them gives the answer. Of 2 it is said in log_entry (`OutsideExactly`): it looks at the entry and
-- the limit alone.
use Rattle.std.specs.Prelude.{ℕ, ◌≤◌, ◌<◌, ◌≡◌, true, false, List, [], ◌∷◌, ◌++◌, ◌↔◌, ◌⊎◌}
use Rattle.log_entry.specs.declared.Entry.{Entry}
use Rattle.log_entry.specs.Bits.{has}
use Rattle.log_entry.specs.Entry.{by_of, ill_formed, is_take, list_of, says_commit, tx_of, update_in}
use Rattle.log_entry.specs.Refusal.{accepted}
use Rattle.log_votes.specs.Vote.{vote_list}
use Rattle.log_core.specs.declared.Log.{Log}
use Rattle.log_core.specs.Enter.{enter, feed}
use Rattle.log_core.specs.Log.{empty_log, held_before, holder_of, latest_of, turn_of, vote_at}
use Rattle.log_laws.specs.Answers.{another, clash, holds_not, other_turn, stale}
use Rattle.log_laws.specs.Reached.{reached}
use Rattle.log_laws.specs.Votes.{KeptCommit}

-- ---- 7: "list without `store` or `by`; commit on behalf; abort with an update other than 0"

pub record WellFormed (e : Entry) : Type 0 where
  pub lists_store : has (list_of e) e.store ≡ true
  pub lists_by : has (list_of e) (by_of e) ≡ true
  pub commit_own : says_commit e ≡ true → by_of e ≡ e.store
  pub abort_zero : says_commit e ≡ false → update_in e ≡ 0

abbrev pub IllFormedExactly : Type 0
IllFormedExactly = (e : Entry) → (ill_formed e ≡ false) ↔ WellFormed e

-- ---- 8: "process does not hold `by`"

abbrev pub HoldsNotExactly : Type 0
HoldsNotExactly = (l : Log) (e : Entry) → (holds_not l e ≡ false) ↔ (holder_of l (by_of e) ≡ e.process)

-- ---- 9: "a commit vote with list L is kept, and this is a commit with another list or an abort
-- whose list is not within L"

pub record Fits (e : Entry) (list : ℕ) : Type 0 where
  pub same_list : says_commit e ≡ true → list_of e ≡ list
  pub within_list : says_commit e ≡ false → (t : ℕ) → has (list_of e) t ≡ true → has list t ≡ true

abbrev pub ClashExactly : Type 0
ClashExactly =
    (l : Log) (e : Entry)
    → (clash l e ≡ false) ↔ ((s : ℕ) → KeptCommit l (tx_of e) s → Fits e (vote_list (vote_at l (tx_of e) s)))

-- ---- 11: "it holds another store now"

-- it does not exactly if each store that it holds is this one
abbrev pub HoldsAnotherExactly : Type 0
HoldsAnotherExactly =
    (l : Log) (e : Entry) → 1 ≤ e.process → (another l e ≡ false) ↔ ((s : ℕ) → holder_of l s ≡ e.process → s ≡ e.store)

-- ---- 12: "a take whose turn is below the last accepted one of that process, or equal to it where
-- the process holds or held that store"

-- a take of the store by the process in this turn stands in the list, and was accepted
pub record TookFrom (l : Log) (es : List Entry) (process turn store : ℕ) : Type 0 where
  pub before : List Entry
  pub entry : Entry
  pub after : List Entry
  pub split : es ≡ before ++ entry ∷ after
  pub is_take : is_take entry ≡ true
  pub taker : entry.process ≡ process
  pub in_turn : entry.turn ≡ turn
  pub taken : entry.store ≡ store
  pub is_accepted : (enter (feed l before) entry).answer ≡ accepted

abbrev pub Took : List Entry → ℕ → ℕ → ℕ → Type 0
Took es process turn store = TookFrom empty_log es process turn store

-- "the process holds or held that store": it took it, in whichever turn
abbrev pub HeldBeforeExactly : Type 0
HeldBeforeExactly =
    (es : List Entry) (process store : ℕ) → (held_before (reached es) process store ≡ true) ↔ ((turn : ℕ) × Took es process turn store)

-- the last accepted take of the process, of whichever store, is in this turn: none stands after it
pub record LastTakeFrom (l : Log) (es : List Entry) (process turn : ℕ) : Type 0 where
  pub store : ℕ
  pub took : TookFrom l es process turn store
  pub none_since : (t s : ℕ) → TookFrom (feed l (took.before ++ took.entry ∷ [])) took.after process t s → ⊥

abbrev pub LastTake : List Entry → ℕ → ℕ → Type 0
LastTake es process turn = LastTakeFrom empty_log es process turn

-- that is what the log records as the process's last turn
abbrev pub LatestExactly : Type 0
LatestExactly = (es : List Entry) (process turn : ℕ) → ((1 ≤ turn) × (latest_of (reached es) process ≡ turn)) ↔ LastTake es process turn

-- the turn is below the last one, or equal to it, and the process took the store
abbrev pub Behind : List Entry → Entry → ℕ → Type 0
Behind es e last = (e.turn < last) ⊎ ((e.turn ≡ last) × ((turn : ℕ) × Took es e.process turn e.store))

abbrev pub StaleExactly : Type 0
StaleExactly = (es : List Entry) (e : Entry) → (stale (reached es) e ≡ true) ↔ ((last : ℕ) × LastTake es e.process last × Behind es e last)

-- ---- 12: "a vote whose turn is not the holder's"

abbrev pub OtherTurnExactly : Type 0
OtherTurnExactly = (l : Log) (e : Entry) → (other_turn l e ≡ false) ↔ (turn_of l (by_of e) ≡ e.turn)
