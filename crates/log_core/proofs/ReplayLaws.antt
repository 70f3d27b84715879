-- A replay as it is filled: what stands in it by now, with what is left, is the whole.
use Rattle.log_votes.specs.Vote.{vote_update}
use Prim.Native.Nat.{ℕ, suc, ◌+◌, ◌-◌, ◌<◌, ◌≤◌}
use mathlib.Core.Bool.{false, true}
use mathlib.Core.List.{List, [], ◌++◌, ◌∷◌, map}
use mathlib.Core.Path.{◌≡◌, ap, refl, subst, sym, ◌∙◌}
use native.Mathlib.Numerals.{add-one}
use native.Mathlib.Omega.{arith}
use borrow.Author.Tests.{ne_eqb}
use lib.ListN.{drop, drop_of_length-le, get_or, length, set}
use lib.Seq.{drop-cons, sets}
use Rattle.log_core.specs.declared.Log.{Log}
use Rattle.log_core.specs.declared.Replay.{Replay}
use Rattle.log_core.specs.declared.Replayed.{Replayed}
use Rattle.log_votes.specs.declared.Row.{Row}
use Rattle.log_votes.specs.Row.{no_row, replays, vote_of_store}
use Rattle.log_core.specs.Replay.{column, group_replay, no_replay, replay_from, replay_of, replay_rows}

-- a row of another group is not replayed
pub other_group : (store g : ℕ) (r : Row) → (r.group ≡ g → ⊥) → replays store g r ≡ false
other_group store g r h = rw (ne_eqb r.group g h)

-- what is left of the replay: of group g the transactions from t on, and then n groups
unfoldable pub left : ℕ → List Row → ℕ → ℕ → ℕ → List Replayed
left store rows g n t = group_replay store g t (drop t rows) ++ replay_from store rows (suc g) n

module _ (store : ℕ) (rows : List Row) where
  pub left_start : (g groups : ℕ) → g < groups → replay_from store rows (suc g) (groups - g) ≡ left store rows (g + 1) (groups - (g + 1)) 0
  unfolding replay_from left
  left_start g groups h =
      let more : groups - g ≡ suc (groups - (g + 1)) = omega arith in
      ap (λ (k : ℕ). replay_from store rows (suc g) k) more ∙ ap (λ (k : ℕ). left store rows k (groups - (g + 1)) 0) (sym (add-one g))

  pub left_all : (groups : ℕ) → replay_from store rows 1 groups ≡ replay_from store rows 1 (groups - 0)
  left_all groups = ap (λ (k : ℕ). replay_from store rows 1 k) (omega arith)

  pub left_none : (g groups : ℕ) → groups ≤ g → replay_from store rows (suc g) (groups - g) ≡ []
  unfolding replay_from
  left_none g groups h =
      let none : groups - g ≡ 0 = omega arith in
      ap (λ (k : ℕ). replay_from store rows (suc g) k) none

  module _ (g n t : ℕ) where
    pub left_end : length rows ≤ t → left store rows g n t ≡ replay_from store rows (suc g) n
    unfolding left group_replay
    left_end h = ap (λ (rs : List Row). group_replay store g t rs ++ replay_from store rows (suc g) n) (drop_of_length-le rows h)

    module _ (h : t < length rows) where
      pub left_hit : replays store g (get_or rows t no_row) ≡ true
          → left store rows g n t ≡ record { group = g; tx = t; update = vote_update (vote_of_store store (get_or rows t no_row)) } ∷ left store rows g n (t + 1)
      unfolding left group_replay
      left_hit k = rw (drop-cons rows t no_row h, k, add-one t)

      pub left_miss : replays store g (get_or rows t no_row) ≡ false → left store rows g n t ≡ left store rows g n (t + 1)
      unfolding left group_replay
      left_miss k = rw (drop-cons rows t no_row h, k, add-one t)

-- the rows that stand in `out` by now, with `rest` behind them, are the whole replay
pub record Filled (l : Log) (store : ℕ) (out : Replay) (rest : List Replayed) : Type 0 where
  pub stored_groups : sets out.groups out.count (map (λ r. r.group) rest) ≡ column (λ r. r.group) (replay_rows l store)
  pub stored_txs : sets out.txs out.count (map (λ r. r.tx) rest) ≡ column (λ r. r.tx) (replay_rows l store)
  pub stored_updates : sets out.updates out.count (map (λ r. r.update) rest) ≡ column (λ r. r.update) (replay_rows l store)
  pub counted : out.count + length rest ≡ length (replay_rows l store)

-- with the row at the next place
abbrev with_next : Replay → Replayed → Replay
with_next out r = record {
  count = out.count + 1;
  groups = set out.groups out.count r.group;
  txs = set out.txs out.count r.tx;
  updates = set out.updates out.count r.update;
}

module _ (l : Log) (store : ℕ) where
  pub filled_start : (out : Replay) → out ≡ no_replay → Filled l store out (replay_rows l store)
  unfolding no_replay
  filled_start out is =
      subst (λ (o : Replay). Filled l store o (replay_rows l store)) (sym is)
      (record { stored_groups = refl; stored_txs = refl; stored_updates = refl; counted = omega arith })

  -- without a group there are no rows
  pub no_groups : l.groups ≡ 0 → no_replay ≡ replay_of l store
  unfolding no_replay replay_of replay_from
  no_groups h = rw h

  pub filled_same : (out : Replay) (rest rest' : List Replayed) → rest ≡ rest' → Filled l store out rest → Filled l store out rest'
  filled_same out rest rest' e f = rw e at f

  pub filled_more : (out : Replay) (r : Replayed) (rest : List Replayed) → Filled l store out (r ∷ rest) → Filled l store (with_next out r) rest
  filled_more out r rest f = record {
    stored_groups = rw (add-one out.count) f.stored_groups;
    stored_txs = rw (add-one out.count) f.stored_txs;
    stored_updates = rw (add-one out.count) f.stored_updates;
    counted = omega (arith, f.counted);
  }

  pub filled_end : (out : Replay) → Filled l store out [] → out ≡ replay_of l store
  unfolding replay_of
  filled_end out f =
      let n : out.count ≡ length (replay_rows l store) = omega (arith, f.counted) in
      λ i. record { count = n i; groups = f.stored_groups i; txs = f.stored_txs i; updates = f.stored_updates i }
