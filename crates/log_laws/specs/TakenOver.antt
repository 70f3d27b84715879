-- The claims on a store that is taken over: what its next holder gets of the commit votes that
-- earlier holders cast.
use Rattle.std.specs.Prelude.{ℕ, ◌<◌, ◌≡◌, true, List, ◌++◌, ◌↔◌, ◌⊎◌}
use Rattle.log_entry.specs.declared.Entry.{Entry}
use Rattle.log_entry.specs.Bits.{has}
use Rattle.log_core.specs.declared.Log.{Log}
use Rattle.log_core.specs.declared.Replay.{Replay}
use Rattle.log_votes.specs.declared.Outcome.TheVariants.{Commit}
use Rattle.log_votes.specs.Outcome.{running}
use Rattle.log_votes.specs.Vote.{vote_process, vote_turn, vote_update}
use Rattle.log_core.specs.Follow.{awaited_of}
use Rattle.log_core.specs.Log.{outcome_of, row_of, vote_at}
use Rattle.log_core.specs.Replay.{replay_of, row_at}
use Rattle.log_laws.specs.Conditions.{Took}
use Rattle.log_laws.specs.Holders.{HoldsIn}
use Rattle.log_laws.specs.Reached.{reached}
use Rattle.log_laws.specs.Votes.{Kept, KeptCommit}

-- "the running transactions in which the store has a kept commit vote"
abbrev pub AwaitedExactly : Type 0
AwaitedExactly = (l : Log) (tx store : ℕ) → (has (awaited_of l store) tx ≡ true) ↔ ((running (row_of l tx) ≡ true) × KeptCommit l tx store)

-- a process that took the store in a turn, and does not hold it in that turn, has no commit vote of
-- the store from that turn kept any more: those that are kept, were kept by then
abbrev pub LostStoreVotesNoMore : Type 0
LostStoreVotesNoMore =
    (es more : List Entry) (tx store process turn : ℕ)
    → Took es process turn store
    → (HoldsIn (reached es) process turn store → ⊥)
    → KeptCommit (reached (es ++ more)) tx store
    → vote_process (vote_at (reached (es ++ more)) tx store) ≡ process
    → vote_turn (vote_at (reached (es ++ more)) tx store) ≡ turn
    → Kept (reached es) tx store

-- the replay has a row of the transaction with this update
abbrev pub RowIn : Replay → ℕ → ℕ → Type 0
RowIn y tx update = (i : ℕ) × (i < y.count) × ((row_at y i).tx ≡ tx) × ((row_at y i).update ≡ update)

-- a commit vote that was kept by then, of a transaction that commits sooner or later, is a row of
-- the replay by then, or the transaction was running
abbrev pub ReplayedOrAwaited : Type 0
ReplayedOrAwaited =
    (es more : List Entry) (tx store : ℕ)
    → KeptCommit (reached es) tx store
    → outcome_of (reached (es ++ more)) tx ≡ Commit
    → RowIn (replay_of (reached es) store) tx (vote_update (vote_at (reached es) tx store)) ⊎ (has (awaited_of (reached es) store) tx ≡ true)

-- a row of the replay by then is an update that is committed for good
pub record CommittedUpdate (l : Log) (tx store update : ℕ) : Type 0 where
  pub committed : outcome_of l tx ≡ Commit
  pub kept_commit : KeptCommit l tx store
  pub is : vote_update (vote_at l tx store) ≡ update

abbrev pub RowStaysCommitted : Type 0
RowStaysCommitted =
    (es more : List Entry) (tx store update : ℕ) → RowIn (replay_of (reached es) store) tx update → CommittedUpdate (reached (es ++ more)) tx store update
