-- The claims on a store's replay: "by group, then tx, the (tx, update) of each committed tx with a
-- kept commit vote of that store."
use Rattle.std.specs.Prelude.{ℕ, ◌<◌, ◌≡◌, List, ◌↔◌, ◌⊎◌}
use Rattle.log_entry.specs.declared.Entry.{Entry}
use Rattle.log_core.specs.declared.Log.{Log}
use Rattle.log_votes.specs.declared.Outcome.TheVariants.{Commit}
use Rattle.log_votes.specs.Vote.{vote_update}
use Rattle.log_core.specs.declared.Replayed.{Replayed}
use Rattle.log_core.specs.Log.{group_of, vote_at, outcome_of}
use Rattle.log_core.specs.Replay.{replay_of, row_at}
use Rattle.log_laws.specs.Reached.{reached}
use Rattle.log_laws.specs.Votes.{KeptCommit}

-- row i of the store's replay
abbrev pub replayed : Log → ℕ → ℕ → Replayed
replayed l store i = row_at (replay_of l store) i

-- the replay has the row
abbrev pub InReplay : Log → ℕ → Replayed → Type 0
InReplay l store r = (i : ℕ) × (i < (replay_of l store).count) × (replayed l store i ≡ r)

-- tx is committed, in this group, with a kept commit vote of the store that has this update
pub record Replays (l : Log) (store : ℕ) (r : Replayed) : Type 0 where
  pub committed : outcome_of l r.tx ≡ Commit
  pub kept_commit : KeptCommit l r.tx store
  pub update : vote_update (vote_at l r.tx store) ≡ r.update
  pub group : group_of l r.tx ≡ r.group

abbrev pub ReplayListsExactly : Type 0
ReplayListsExactly = (es : List Entry) (store : ℕ) (r : Replayed) → InReplay (reached es) store r ↔ Replays (reached es) store r

-- "by group, then tx"
abbrev pub Before : Replayed → Replayed → Type 0
Before a b = (a.group < b.group) ⊎ ((a.group ≡ b.group) × (a.tx < b.tx))

abbrev pub ReplayOrdered : Type 0
ReplayOrdered =
    (es : List Entry) (store i j : ℕ) → i < j → j < (replay_of (reached es) store).count
    → Before (replayed (reached es) store i) (replayed (reached es) store j)

-- each transaction once
abbrev pub ReplayListsOnce : Type 0
ReplayListsOnce =
    (es : List Entry) (store i j : ℕ)
    → i < (replay_of (reached es) store).count
    → j < (replay_of (reached es) store).count
    → (replayed (reached es) store i).tx ≡ (replayed (reached es) store j).tx
    → i ≡ j
