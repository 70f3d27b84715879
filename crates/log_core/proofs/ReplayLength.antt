-- A replay has no more rows than the log: each row of the log is of one group, so at most one
-- group's part of the replay has it.
use Rattle.log_votes.specs.Vote.{vote_update}
use Prim.Native.Nat.{ℕ, suc, ◌+◌, ◌≤◌, ◌<◌}
use mathlib.Core.Path.{◌≡◌, refl, ◌∙◌}
use mathlib.Core.Bool.{Bool, true, false, ◌&&◌, cond}
use mathlib.Core.List.{List, [], ◌∷◌}
use native.Mathlib.Omega.{arith}
use lib.Dec.{eqb}
use lib.ListN.{length, length-append}
use borrow.Author.Tests.{eqb-true, ne_eqb}
use Rattle.log_core.specs.declared.Log.{Log}
use Rattle.log_votes.specs.declared.Row.{Row}
use Rattle.log_votes.specs.Outcome.{is_commit}
use Rattle.log_core.specs.Replay.{group_replay, replay_from, replay_rows}
use Rattle.log_votes.specs.Row.{replays, vote_of_store}

-- how many rows of the group a replay has
count : ℕ → ℕ → List Row → ℕ
count store g [] = 0
count store g (r ∷ rs) = cond (replays store g r) 1 0 + count store g rs

-- and how many of n groups from g on
total : ℕ → List Row → ℕ → ℕ → ℕ
total store rows g ℕ.zero = 0
total store rows g (suc n) = count store g rows + total store rows (suc g) n

group_length : (store g tx : ℕ) (rows : List Row) → length (group_replay store g tx rows) ≡ count store g rows
unfolding group_replay count
group_length store g tx [] = refl
group_length store g tx (r ∷ rs) = by (replays store g r) (group_length store g (suc tx) rs)
  where
    by : (b : Bool) → length (group_replay store g (suc tx) rs) ≡ count store g rs
        → length (cond b (record { group = g; tx = tx; update = vote_update (vote_of_store store r) } ∷ group_replay store g (suc tx) rs) (group_replay store g (suc tx) rs))
        ≡ cond b 1 0 + count store g rs
    by true h = omega (arith, h)
    by false h = omega (arith, h)

from_length : (store : ℕ) (rows : List Row) (g n : ℕ) → length (replay_from store rows g n) ≡ total store rows g n
unfolding replay_from total
from_length store rows g ℕ.zero = refl
from_length store rows g (suc n) =
    length-append (group_replay store g 0 rows) (replay_from store rows (suc g) n)
    ∙ omega (arith, group_length store g 0 rows, from_length store rows (suc g) n)

-- groups behind that of the row do not have it
past_group : (store : ℕ) (r : Row) (rs : List Row) (g n : ℕ) → r.group < g → total store (r ∷ rs) g n ≡ total store rs g n
unfolding total count
past_group store r rs g ℕ.zero h = refl
past_group store r rs g (suc n) h =
    rw (ne_eqb r.group g (omega arith)) (omega (arith, past_group store r rs (suc g) n (omega arith)))

-- one group at most has the row
one_more : (store : ℕ) (r : Row) (rs : List Row) (g n : ℕ) → total store (r ∷ rs) g n ≤ suc (total store rs g n)
unfolding total count
one_more store r rs g ℕ.zero = omega arith
one_more store r rs g (suc n) = by (eqb r.group g) refl (is_commit store (vote_of_store store r)) (one_more store r rs (suc g) n)
  where
    by : (b : Bool) → eqb r.group g ≡ b → (c : Bool) → total store (r ∷ rs) (suc g) n ≤ suc (total store rs (suc g) n)
        → cond (b && c) 1 0 + count store g rs + total store (r ∷ rs) (suc g) n ≤ suc (count store g rs + total store rs (suc g) n)
    by true e true h = let k = eqb-true r.group g e in omega (arith, k, past_group store r rs (suc g) n (omega arith))
    by true e false h = omega (arith, h)
    by false e c h = omega (arith, h)

no_rows : (store g n : ℕ) → total store [] g n ≡ 0
unfolding total count
no_rows store g ℕ.zero = refl
no_rows store g (suc n) = omega (arith, no_rows store (suc g) n)

total_le : (store : ℕ) (rows : List Row) (g n : ℕ) → total store rows g n ≤ length rows
total_le store [] g n = omega (arith, no_rows store g n)
total_le store (r ∷ rs) g n = omega (arith, one_more store r rs g n, total_le store rs g n)

pub replay_length : (l : Log) (store : ℕ) → length (replay_rows l store) ≤ length l.rows
replay_length l store = omega (arith, from_length store l.rows 1 l.groups, total_le store l.rows 1 l.groups)
