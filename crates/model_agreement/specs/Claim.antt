-- Demand 3, after any list of steps from the fresh world. Since the list is any, it holds after
-- each step of it.
use Rattle.std.specs.Prelude.{ℕ, ◌≤◌, ◌<◌, ◌≡◌, ◌↔◌, ◌≢◌, true, get_or, length, take}
use mathlib.Core.List.{List, ◌++◌, Memᴰ}
use Rattle.log_entry.specs.declared.Entry.{Entry}
use Rattle.log_entry.specs.Bits.{has}
use Rattle.log_votes.specs.declared.Outcome.{Outcome}
use Rattle.log_votes.specs.declared.Outcome.TheVariants.{Open}
use Rattle.log_core.specs.Follow.{awaited_of}
use Rattle.log_core.specs.Log.{holder_of, outcome_of, turn_of}
use Rattle.log_core.specs.Replay.{replay_of}
use Rattle.model_steps.specs.declared.Step.{Step}
use Rattle.model_protocol.specs.declared.Follows.{Follows}
use Rattle.model_protocol.specs.declared.Process.{Process}
use Rattle.model_protocol.specs.declared.World.{World}
use Rattle.model_protocol.specs.Batch.{Batch, entries_of, no_batch}
use Rattle.model_protocol.specs.Step.{run}
use Rattle.model_protocol.specs.World.{coordinator_of, follows_of, fresh_world, log_of, no_followed, process_of, restored_to}
use Rattle.model_agreement.specs.Content.{restore, tell}
use Rattle.model_agreement.specs.History.{Applied, Before, Decided, Event, Follow, Got, Happened, Restored, acceptors, asked, delivered, heard_of, history, restored_of, restoring, turn_now}
use Rattle.model_agreement.specs.Plain.{plain_log}
use Rattle.model_agreement.specs.TakenOver.{TakenOver}

-- the batch of instance i in the sequence s
abbrev pub batch_at : List Batch → ℕ → Batch
batch_at s i = get_or s i no_batch

-- s is the sequence of the history: "by instance from 0; two in one instance are equal"
pub record IsSequence (h : List Event) (s : List Batch) : Type 0 where
  -- none is skipped
  pub decided : (i : ℕ) → i < length s → (b : ℕ) × Decided (acceptors h) i b (batch_at s i) h
  -- there is one an instance, and none beyond
  pub all : {i b : ℕ} {v : Batch} → Decided (acceptors h) i b v h → (i < length s) × (batch_at s i ≡ v)

-- what process p keeps as heard of tx
abbrev pub kept_of : World → ℕ → ℕ → Outcome
kept_of w p tx = (get_or (process_of w p).heard tx (record { outcome = Open })).outcome

-- the process, with the follows that the world has beside it, keeps the follow
abbrev pub KeepsFollow : Process → Follows → Follow → Type 0
KeepsFollow p fs f =
    (has p.followed f.tx ≡ true)
    × (get_or fs.of f.tx no_followed ≡ record { outcome = f.outcome; update = f.update })

-- p took the restore r when it was delivered, at the turn that it names, and did not come back
-- since
pub record TakenInTurn (p : ℕ) (r : Restored) (h : List Event) : Type 0 where
  pub before : List Event
  pub delivery : Before (delivered r.number (restore p r.turn r.store r.position r.replay r.running)) before h
  pub turn_then : turn_now p before ≡ r.turn
  pub turn_still : turn_now p h ≡ r.turn

-- the restore r that p took last, after the history h with the sequence s
pub record RestoredWell (p : ℕ) (r : Restored) (h : List Event) (s : List Batch) : Type 0 where
  -- its sender, and the history when it was sent
  pub sender : ℕ
  pub then : List Event
  pub sent : Before (restoring sender r.number) then h
  -- "the position is its sender's applied count at the sending"
  pub position : Applied (acceptors h) sender r.position then
  pub within : r.position ≤ length s
  -- "the rows are the store's replay in the plain log fed so many batches, which has the process as
  -- holder"
  pub rows : r.replay ≡ replay_of (plain_log (take r.position s)) r.store
  pub holder : holder_of (plain_log (take r.position s)) r.store ≡ p
  -- "a restore names the holder's turn and is taken only at that turn"
  pub turn : turn_of (plain_log (take r.position s)) r.store ≡ r.turn
  pub taken : TakenInTurn p r h
  -- it lists exactly "the running transactions in which the store has a kept commit vote"
  pub running : r.running ≡ awaited_of (plain_log (take r.position s)) r.store

-- the claim after the list of steps, with its history h and its world w
pub record Claim (steps : List Step) (h : List Event) (w : World) : Type 0 where
  -- "The batches that a majority accepted under one ballot form a single sequence: one an instance,
  -- none skipped"
  pub sequence : List Batch
  pub is_sequence : IsSequence h sequence
  -- "and later steps only add to its end"
  pub only_grows : (more : List Step) (s : List Batch) → IsSequence (history (steps ++ more)) s → sequence ≡ take (length sequence) s
  -- a coordinator's applied count as the world keeps it is how many it learned
  pub applied : (k : ℕ) → Applied (acceptors h) k (coordinator_of w k).applied h
  pub applied_within : (k : ℕ) → (coordinator_of w k).applied ≤ length sequence
  -- "Every coordinator's log equals the plain log fed the first n batches, n being its applied
  -- count"
  pub logs : (k : ℕ) → log_of w k ≡ plain_log (take (coordinator_of w k).applied sequence)
  -- "Each entry in the sequence was sent by the process it names", with all its values
  pub entries : (i : ℕ) → i < length sequence → (e : Entry) → Memᴰ e (entries_of (batch_at sequence i)) → Happened (asked e) h
  -- and in the turn that it names: one "with another turn than the process's present one is
  -- refused"
  pub entries_in_turn : {e : Entry} {then : List Event} → Before (asked e) then h → turn_now e.process then ≡ e.turn
  -- "Each outcome a process heard is that of the plain log fed the whole sequence"
  pub heard : {p tx : ℕ} {o : Outcome} → Got (tell p tx o) h → o ≡ outcome_of (plain_log sequence) tx
  -- and it stays so
  pub heard_stays : {p tx : ℕ} {o : Outcome} → Got (tell p tx o) h
      → (more : List Step) (s : List Batch) → IsSequence (history (steps ++ more)) s → o ≡ outcome_of (plain_log s) tx
  -- the world keeps what a process heard, and so that is the outcome too
  pub heard_kept : (p tx : ℕ) → kept_of w p tx ≡ heard_of p tx h
  pub kept_outcome : (p tx : ℕ) → kept_of w p tx ≢ Open → kept_of w p tx ≡ outcome_of (plain_log sequence) tx
  -- "Each restored store holds exactly the updates of the plain log fed the first p batches, p
  -- being the position named"
  pub restored : (p : ℕ) → 0 < (restored_of p h).position → RestoredWell p (restored_of p h) h sequence
  -- the world keeps the turn that a process came back with last
  pub present_turn : (p : ℕ) → (process_of w p).turn ≡ turn_now p h
  -- and the last restore that it took since
  pub restored_store : (p : ℕ) → (process_of w p).store ≡ (restored_of p h).store
  pub restored_position : (p : ℕ) → (process_of w p).position ≡ (restored_of p h).position
  pub restored_replay : (p : ℕ) → restored_to w p ≡ (restored_of p h).replay
  pub restored_running : (p : ℕ) → (process_of w p).running ≡ (restored_of p h).running
  -- and the follows that it took since, and no others
  pub restored_follows : (p : ℕ) (f : Follow) → KeepsFollow (process_of w p) (follows_of w p) f ↔ Memᴰ f (restored_of p h).follows
  -- "The last restore plus the follows taken since then hold every update committed by the old
  -- holder's votes, once a follow of each listed transaction was taken"
  pub taken_over : TakenOver h sequence
  -- and it stays so
  pub taken_over_stays : (more : List Step) (s : List Batch) → IsSequence (history (steps ++ more)) s → TakenOver h s

-- demand 3
abbrev pub Demand3 : Type 0
Demand3 = (steps : List Step) → Claim steps (history steps) (run fresh_world steps)
