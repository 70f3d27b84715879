-- The claims on kept votes and outcomes. In each, `es` are any entries from the empty log on, and
-- `more` any that follow.
use Rattle.std.specs.Prelude.{ℕ, ◌≡◌, true, false, List, ◌++◌, ◌↔◌, ◌≢◌}
use Rattle.log_entry.specs.declared.Entry.{Entry}
use Rattle.log_entry.specs.Bits.{has}
use Rattle.log_entry.specs.Entry.{by_of, is_take, list_of, says_commit, tx_of, update_in}
use Rattle.log_entry.specs.Refusal.{accepted}
use Rattle.log_core.specs.declared.Log.{Log}
use Rattle.log_votes.specs.declared.Outcome.TheVariants.{Abort, Commit, Open}
use Rattle.log_votes.specs.declared.Vote.{Vote}
use Rattle.log_votes.specs.Outcome.{running}
use Rattle.log_votes.specs.Vote.{vote_by, vote_commit, vote_kept, vote_list, vote_process, vote_turn, vote_update}
use Rattle.log_core.specs.Enter.{enter}
use Rattle.log_core.specs.Log.{row_of, vote_at, outcome_of}
use Rattle.log_laws.specs.Reached.{reached}

-- a vote of store s on tx is kept
abbrev pub Kept : Log → ℕ → ℕ → Type 0
Kept l tx s = vote_kept (vote_at l tx s) ≡ true

abbrev pub KeptCommit : Log → ℕ → ℕ → Type 0
KeptCommit l tx s = Kept l tx s × (vote_commit (vote_at l tx s) ≡ true)

abbrev pub KeptAbort : Log → ℕ → ℕ → Type 0
KeptAbort l tx s = Kept l tx s × (vote_commit (vote_at l tx s) ≡ false)

-- a vote of store s on tx is kept, and store t is in its list
abbrev pub Listed : Log → ℕ → ℕ → ℕ → Type 0
Listed l tx s t = Kept l tx s × (has (vote_list (vote_at l tx s)) t ≡ true)

-- "a vote is kept, every listed store has a kept commit vote and no abort is kept"
pub record AllCommit (l : Log) (tx : ℕ) : Type 0 where
  pub some_kept : (s : ℕ) × Kept l tx s
  pub listed_commit : (s t : ℕ) → Listed l tx s t → KeptCommit l tx t
  pub no_abort : (s : ℕ) → KeptAbort l tx s → ⊥

-- "commit if and only if" all that
abbrev pub OutcomeCommitIff : Type 0
OutcomeCommitIff = (es : List Entry) (tx : ℕ) → (outcome_of (reached es) tx ≡ Commit) ↔ AllCommit (reached es) tx

-- "abort if an abort vote is kept"
abbrev pub OutcomeAbortIff : Type 0
OutcomeAbortIff = (l : Log) (tx : ℕ) → (outcome_of l tx ≡ Abort) ↔ ((s : ℕ) × KeptAbort l tx s)

-- "A transaction is running from its first kept vote until its outcome is commit or abort."
abbrev pub RunningExactly : Type 0
RunningExactly = (l : Log) (tx : ℕ) → (running (row_of l tx) ≡ true) ↔ (((s : ℕ) × Kept l tx s) × (outcome_of l tx ≡ Open))

-- all that the vote said
pub record KeptAs (v : Vote) (e : Entry) : Type 0 where
  pub kept : vote_kept v ≡ true
  pub commit : vote_commit v ≡ says_commit e
  pub list : vote_list v ≡ list_of e
  pub process : vote_process v ≡ e.process
  pub turn : vote_turn v ≡ e.turn
  pub by : vote_by v ≡ by_of e
  pub update : vote_update v ≡ update_in e

-- an accepted vote is kept
abbrev pub AcceptedVoteIsKept : Type 0
AcceptedVoteIsKept =
    (es : List Entry) (e : Entry) → is_take e ≡ false → (enter (reached es) e).answer ≡ accepted
    → KeptAs (vote_at (enter (reached es) e).log (tx_of e) e.store) e

-- "An accepted vote is kept for good": it stays as it is, whatever follows.
abbrev pub KeptVoteStays : Type 0
KeptVoteStays = (es more : List Entry) (tx s : ℕ) → Kept (reached es) tx s → vote_at (reached (es ++ more)) tx s ≡ vote_at (reached es) tx s

-- an outcome once commit or abort never changes
abbrev pub OutcomeNeverChanges : Type 0
OutcomeNeverChanges =
    (es more : List Entry) (tx : ℕ) → outcome_of (reached es) tx ≢ Open → outcome_of (reached (es ++ more)) tx ≡ outcome_of (reached es) tx

-- for a committed transaction no vote is accepted any more
abbrev pub CommittedKeepsNoVote : Type 0
CommittedKeepsNoVote =
    (es : List Entry) (e : Entry) → is_take e ≡ false → outcome_of (reached es) (tx_of e) ≡ Commit → (enter (reached es) e).answer ≢ accepted

-- and its row, all votes and the group, stays as it is
abbrev pub CommittedRowStays : Type 0
CommittedRowStays =
    (es more : List Entry) (tx : ℕ) → outcome_of (reached es) tx ≡ Commit → row_of (reached (es ++ more)) tx ≡ row_of (reached es) tx

-- all kept commit votes of a transaction name one list
abbrev pub CommitVotesNameOneList : Type 0
CommitVotesNameOneList =
    (es : List Entry) (tx s t : ℕ) → KeptCommit (reached es) tx s → KeptCommit (reached es) tx t
    → vote_list (vote_at (reached es) tx s) ≡ vote_list (vote_at (reached es) tx t)
