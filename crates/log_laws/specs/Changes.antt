-- What an accepted entry changes, and nothing else. A refused one changes nothing (`Answers`).
use Rattle.std.specs.Prelude.{ℕ, ◌≡◌, true, false, List, ◌≢◌}
use Rattle.log_entry.specs.declared.Entry.{Entry}
use Rattle.log_entry.specs.Entry.{is_take, tx_of}
use Rattle.log_core.specs.declared.Log.{Log}
use Rattle.log_core.specs.Enter.{enter}
use Rattle.log_core.specs.Log.{group_of, held_before, holder_of, latest_of, turn_of, vote_at}
use Rattle.log_laws.specs.Reached.{reached}

-- a take: the holder of its store, now and in the past, the holder's turn, and the last turn of its
-- process
pub record OnlyHolderChanges (l m : Log) (process store : ℕ) : Type 0 where
  pub rows : m.rows ≡ l.rows
  pub groups : m.groups ≡ l.groups
  pub remembered : m.remembered ≡ l.remembered
  pub limit : m.stores ≡ l.stores
  pub other_holders : (s : ℕ) → s ≢ store → holder_of m s ≡ holder_of l s
  pub other_turns : (s : ℕ) → s ≢ store → turn_of m s ≡ turn_of l s
  pub other_past : (p s : ℕ) → s ≢ store → held_before m p s ≡ held_before l p s
  pub other_latest : (p : ℕ) → p ≢ process → latest_of m p ≡ latest_of l p

abbrev pub TakeChangesOnly : Type 0
TakeChangesOnly =
    (es : List Entry) (e : Entry) → is_take e ≡ true → OnlyHolderChanges (reached es) (enter (reached es) e).log e.process e.store

-- a vote: the store's vote on that tx, and its group; `Groups` says what becomes of the groups
pub record OnlyVoteChanges (l m : Log) (tx store : ℕ) : Type 0 where
  pub holders : m.holders ≡ l.holders
  pub turns : m.turns ≡ l.turns
  pub takers : m.takers ≡ l.takers
  pub latest : m.latest ≡ l.latest
  pub limit : m.stores ≡ l.stores
  pub other_stores : (s : ℕ) → s ≢ store → vote_at m tx s ≡ vote_at l tx s
  pub other_votes : (t s : ℕ) → t ≢ tx → vote_at m t s ≡ vote_at l t s
  pub other_groups : (t : ℕ) → t ≢ tx → group_of m t ≡ group_of l t

abbrev pub VoteChangesOnly : Type 0
VoteChangesOnly = (es : List Entry) (e : Entry) → is_take e ≡ false → OnlyVoteChanges (reached es) (enter (reached es) e).log (tx_of e) e.store
