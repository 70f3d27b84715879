-- "Replay of a store: by group, then tx, the (tx, update) of each committed tx with a kept commit
-- vote of that store. Update 0 is replayed too." A transaction has a group exactly if it is
-- committed (`group_iff_committed` of log_laws).
use Rattle.log_votes.specs.Vote.{vote_update}
use Rattle.std.specs.Prelude.{ℕ, suc, cond, List, [], ◌∷◌, ◌++◌, map, get_or, length, replicate}
use Rattle.std.proofs.lemmas.List.Edits.{sets}
use Rattle.log_entry.specs.Limits.{transactions}
use Rattle.log_core.specs.declared.Log.{Log}
use Rattle.log_core.specs.declared.Replay.{Replay}
use Rattle.log_core.specs.declared.Replayed.{Replayed}
use Rattle.log_votes.specs.declared.Row.{Row}
use Rattle.log_votes.specs.Row.{replays, vote_of_store}

abbrev pub no_replayed : Replayed
no_replayed = record { group = 0; tx = 0; update = 0 }

-- the replay without rows
unfoldable pub no_replay : Replay
no_replay = record { count = 0; groups = replicate transactions 0; txs = replicate transactions 0; updates = replicate transactions 0 }

-- the group's part of the replay, the first row being transaction tx
unfoldable pub group_replay : ℕ → ℕ → ℕ → List Row → List Replayed
group_replay store g tx [] = []
group_replay store g tx (r ∷ rs) =
    cond (replays store g r)
    (record { group = g; tx = tx; update = vote_update (vote_of_store store r) } ∷ group_replay store g (suc tx) rs)
    (group_replay store g (suc tx) rs)

-- the replay of n groups from g on
unfoldable pub replay_from : ℕ → List Row → ℕ → ℕ → List Replayed
replay_from store rows g ℕ.zero = []
replay_from store rows g (suc n) = group_replay store g 0 rows ++ replay_from store rows (suc g) n

abbrev pub replay_rows : Log → ℕ → List Replayed
replay_rows l store = replay_from store l.rows 1 l.groups

-- an array with one number of each row in front
abbrev pub column : (Replayed → ℕ) → List Replayed → List ℕ
column of rows = sets (replicate transactions 0) 0 (map of rows)

-- the replay as a value: the rows in front, by group, transaction and update, and their count
unfoldable pub replay_of : Log → ℕ → Replay
replay_of l store = record {
  count = length (replay_rows l store);
  groups = column (λ r. r.group) (replay_rows l store);
  txs = column (λ r. r.tx) (replay_rows l store);
  updates = column (λ r. r.update) (replay_rows l store);
}

-- the row at place i of a replay
abbrev pub row_at : Replay → ℕ → Replayed
row_at r i = record { group = get_or r.groups i 0; tx = get_or r.txs i 0; update = get_or r.updates i 0 }

-- the rows at n places from i on
unfoldable pub rows_from : Replay → ℕ → ℕ → List Replayed
rows_from r i ℕ.zero = []
rows_from r i (suc n) = row_at r i ∷ rows_from r (suc i) n

-- the rows at all its places; the first `count` are those of the replay
abbrev pub rows_in : Replay → List Replayed
rows_in r = rows_from r 0 transactions
