-- The claims on involvement, in terms of the kept votes alone. In each, `es` are any entries from
-- the empty log on, and `more` any that follow.
use Rattle.std.specs.Prelude.{ℕ, ◌≡◌, true, false, cond, List, ◌++◌, ◌↔◌, ◌⊎◌}
use Rattle.log_entry.specs.declared.Entry.{Entry}
use Rattle.log_entry.specs.Bits.{has}
use Rattle.log_votes.specs.declared.Involvement.{Involvement}
use Rattle.log_votes.specs.declared.Involvement.TheVariants.{No, Unknown, Yes}
use Rattle.log_votes.specs.declared.Outcome.TheVariants.{Abort}
use Rattle.log_votes.specs.Vote.{vote_list}
use Rattle.log_core.specs.declared.Log.{Log}
use Rattle.log_core.specs.Log.{involvement_of, outcome_of, vote_at}
use Rattle.log_laws.specs.Base.{base_involvement_of}
use Rattle.log_laws.specs.Reached.{reached}
use Rattle.log_laws.specs.Votes.{KeptAbort, KeptCommit}

-- a commit vote of tx is kept
abbrev pub SomeCommitKept : Log → ℕ → Type 0
SomeCommitKept l tx = (s : ℕ) × KeptCommit l tx s

-- a commit vote of tx is kept, and the store is in its list
abbrev pub CommitLists : Log → ℕ → ℕ → Type 0
CommitLists l tx store = (s : ℕ) × KeptCommit l tx s × (has (vote_list (vote_at l tx s)) store ≡ true)

-- a commit vote of tx is kept, and the store is not in its list
abbrev pub CommitOmits : Log → ℕ → ℕ → Type 0
CommitOmits l tx store = (s : ℕ) × KeptCommit l tx s × (has (vote_list (vote_at l tx s)) store ≡ false)

-- an abort vote of tx is kept, and the store is in its list
abbrev pub AbortLists : Log → ℕ → ℕ → Type 0
AbortLists l tx store = (s : ℕ) × KeptAbort l tx s × (has (vote_list (vote_at l tx s)) store ≡ true)

-- The answer, and when it is which. "No" needs a kept commit vote, and "unknown" that none is kept.
pub record Involved (l : Log) (tx store : ℕ) : Type 0 where
  -- "where a commit vote is kept, its list alone says yes or no"
  pub by_list : (s : ℕ) → KeptCommit l tx s → involvement_of l tx store ≡ cond (has (vote_list (vote_at l tx s)) store) Yes No
  pub is_yes : (involvement_of l tx store ≡ Yes) ↔ (CommitLists l tx store ⊎ ((SomeCommitKept l tx → ⊥) × AbortLists l tx store))
  pub is_no : (involvement_of l tx store ≡ No) ↔ CommitOmits l tx store
  pub is_unknown : (involvement_of l tx store ≡ Unknown) ↔ ((SomeCommitKept l tx → ⊥) × (AbortLists l tx store → ⊥))

abbrev pub InvolvementExactly : Type 0
InvolvementExactly = (es : List Entry) (tx store : ℕ) → Involved (reached es) tx store

-- once a commit vote is kept, the answer stays as it is
abbrev pub InvolvementStays : Type 0
InvolvementStays =
    (es more : List Entry) (tx store : ℕ)
    → SomeCommitKept (reached es) tx → involvement_of (reached (es ++ more)) tx store ≡ involvement_of (reached es) tx store

-- ---- the answers that changed with document 02

-- "An abort vote may name stores by guess, and a later commit vote brings the full list":
-- "a store outside the kept commit list and inside a kept abort's list"
abbrev pub WrongGuess : Log → ℕ → ℕ → Type 0
WrongGuess l tx store = CommitOmits l tx store × AbortLists l tx store

-- such a store "was yes and becomes no", and no other answer changes
pub record ChangesExactly (l : Log) (tx store : ℕ) (was becomes : Involvement) : Type 0 where
  pub was_yes : WrongGuess l tx store → was ≡ Yes
  pub becomes_no : WrongGuess l tx store → becomes ≡ No
  pub others_equal : (WrongGuess l tx store → ⊥) → becomes ≡ was

abbrev pub InvolvementChangesExactly : Type 0
InvolvementChangesExactly =
    (es : List Entry) (tx store : ℕ) → ChangesExactly (reached es) tx store (base_involvement_of (reached es) tx store) (involvement_of (reached es) tx store)

-- the outcome is abort wherever an answer changes
abbrev pub ChangedAreAborted : Type 0
ChangedAreAborted = (l : Log) (tx store : ℕ) → WrongGuess l tx store → outcome_of l tx ≡ Abort

-- the guess comes before the list: once a commit vote is kept, no further answer comes to change
abbrev pub GuessedBefore : Type 0
GuessedBefore =
    (es more : List Entry) (tx store : ℕ) → SomeCommitKept (reached es) tx
    → WrongGuess (reached (es ++ more)) tx store → WrongGuess (reached es) tx store
