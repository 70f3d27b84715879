-- Document 02: "The last restore plus the follows taken since then hold every update committed by the
-- old holder's votes, once a follow of each listed transaction was taken."
use Rattle.std.specs.Prelude.{ℕ, ◌≤◌, ◌<◌, ◌≡◌, true, ◌⊎◌, ◌≢◌, length, take}
use mathlib.Core.List.{List, Memᴰ}
use Rattle.log_entry.specs.Bits.{has}
use Rattle.log_core.specs.declared.Log.{Log}
use Rattle.log_core.specs.declared.Replay.{Replay}
use Rattle.log_votes.specs.Vote.{vote_process, vote_turn, vote_update}
use Rattle.log_votes.specs.declared.Outcome.{Outcome}
use Rattle.log_votes.specs.declared.Outcome.TheVariants.{Commit, Open}
use Rattle.log_core.specs.Follow.{awaited_of}
use Rattle.log_core.specs.Log.{outcome_of, vote_at}
use Rattle.log_laws.specs.Conditions.{Took}
use Rattle.log_laws.specs.TakenOver.{CommittedUpdate, RowIn}
use Rattle.log_laws.specs.Votes.{KeptCommit}
use Rattle.model_protocol.specs.Batch.{Batch}
use Rattle.model_protocol.specs.Step.{update_of}
use Rattle.model_agreement.specs.Content.{follow, restore}
use Rattle.model_agreement.specs.History.{Event, Follow, Got, Restored, is_followed, restored_of}
use Rattle.model_agreement.specs.Plain.{all_entries, plain_log}

-- a follow of each listed transaction was taken since the restore
abbrev pub AllFollowed : Restored → Type 0
AllFollowed r = (tx : ℕ) → has r.running tx ≡ true → is_followed tx r.follows ≡ true

-- a follow with commit and this update was taken
abbrev pub CommitFollowed : List Follow → ℕ → ℕ → Type 0
CommitFollowed fs tx update = Memᴰ (record { tx = tx; outcome = Commit; update = update }) fs

-- the update is a row of the restore, or a follow with commit
abbrev pub Holds : Restored → ℕ → ℕ → Type 0
Holds r tx update = RowIn r.replay tx update ⊎ CommitFollowed r.follows tx update

-- by the log: the follow names an outcome that is not open, and the update of the store's kept
-- commit vote if it is commit, else 0
pub record FollowedWell (l : Log) (store tx : ℕ) (o : Outcome) (update : ℕ) : Type 0 where
  pub decided : o ≢ Open
  pub outcome : o ≡ outcome_of l tx
  pub kept_commit : KeptCommit l tx store
  pub is : update ≡ update_of l tx store

-- a commit vote of the store that a holder before p cast, on a transaction that is committed: its
-- process took the store, in the turn of the vote, among the batches of the restore, after which p
-- is the holder. It is another process, or p itself in an earlier turn
pub record EarlierCommit (p : ℕ) (r : Restored) (s : List Batch) (tx : ℕ) : Type 0 where
  pub kept_commit : KeptCommit (plain_log s) tx r.store
  pub committed : outcome_of (plain_log s) tx ≡ Commit
  pub took : Took (all_entries (take r.position s)) (vote_process (vote_at (plain_log s) tx r.store)) (vote_turn (vote_at (plain_log s) tx r.store)) r.store
  pub another : vote_process (vote_at (plain_log s) tx r.store) ≡ p → vote_turn (vote_at (plain_log s) tx r.store) ≢ r.turn

-- after the history h, by the plain log fed s
pub record TakenOver (h : List Event) (s : List Batch) : Type 0 where
  -- a delivered restore lists exactly "the running transactions in which the store has a kept commit
  -- vote", by the plain log fed as many batches as its position says; there are as many
  pub listed : {p turn store position running : ℕ} {r : Replay} → Got (restore p turn store position r running) h
      → (position ≤ length s) × (running ≡ awaited_of (plain_log (take position s)) store)
  -- what a delivered follow says
  pub followed : {p store tx update : ℕ} {o : Outcome} → Got (follow p store tx o update) h → FollowedWell (plain_log s) store tx o update
  -- nothing is lost
  pub none_lost : (p tx : ℕ) → 0 < (restored_of p h).position → AllFollowed (restored_of p h) → EarlierCommit p (restored_of p h) s tx
      → Holds (restored_of p h) tx (vote_update (vote_at (plain_log s) tx (restored_of p h).store))
  -- and nothing is invented
  pub none_invented : (p tx update : ℕ) → 0 < (restored_of p h).position → Holds (restored_of p h) tx update
      → CommittedUpdate (plain_log s) tx (restored_of p h).store update
