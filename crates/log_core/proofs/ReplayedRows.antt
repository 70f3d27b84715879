-- A replay by value: how many places it has, and that its rows are those of the definition.
use Prim.Native.Nat.{ℕ, suc, ◌+◌, ◌<◌, ◌≤◌}
use mathlib.Core.List.{List, map}
use mathlib.Core.Path.{◌≡◌, ap, refl, ◌∙◌}
use native.Mathlib.Nat.{min-eq_left}
use native.Mathlib.Omega.{arith}
use lib.ListN.{drop, get_or, length, length-map, length-replicate, length-take, get_or-append, get_or-map, replicate, take}
use lib.Seq.{ext_get_or, get_or-take, sets-eq}
use Rattle.log_entry.specs.Limits.{transactions}
use Rattle.log_core.specs.declared.Log.{Log}
use Rattle.log_core.specs.declared.Replay.{Replay}
use Rattle.log_core.specs.declared.Replayed.{Replayed}
use Rattle.log_core.specs.Replay.{column, no_replayed, replay_of, replay_rows, row_at, rows_from, rows_in}

from_length : (r : Replay) (i n : ℕ) → length (rows_from r i n) ≡ n
unfolding rows_from
from_length r i ℕ.zero = refl
from_length r i (suc n) = ap suc (from_length r (suc i) n)

from_at : (r : Replay) (i n k : ℕ) → k < n → get_or (rows_from r i n) k no_replayed ≡ row_at r (i + k)
unfolding rows_from
from_at r i ℕ.zero k h = absurd (omega (arith, h))
from_at r i (suc n) ℕ.zero h = ap (row_at r) (omega arith)
from_at r i (suc n) (suc k) h = from_at r (suc i) n k (omega arith) ∙ ap (row_at r) (omega arith)

pub replay_places : (r : Replay) → length (rows_in r) ≡ transactions
replay_places r = from_length r 0 transactions

pub row_in : (r : Replay) (i : ℕ) → i < transactions → get_or (rows_in r) i no_replayed ≡ row_at r i
row_in r i h = from_at r 0 transactions i h ∙ ap (row_at r) (omega arith)

-- at a place of a row the array has the number of the row
column_at : (of : Replayed → ℕ) (rows : List Replayed) (i : ℕ) → length rows ≤ transactions → i < length rows
    → get_or (column of rows) i (of no_replayed) ≡ of (get_or rows i no_replayed)
column_at of rows i room h =
    let long : length (map of rows) ≡ length rows = length-map rows of in
    let empty : List ℕ = replicate transactions 0 in
    let k : 0 + length (map of rows) ≤ length empty = omega (arith, length-replicate {A = ℕ} transactions 0) in
    ap (λ (x : List ℕ). get_or x i (of no_replayed)) (sets-eq (map of rows) empty 0 k)
    ∙ get_or-append (map of rows) (drop (0 + length (map of rows)) empty) (of no_replayed) i (omega arith)
    ∙ get_or-map of rows i no_replayed

module _ (l : Log) (store : ℕ) {r : Replay} (said : r ≡ replay_of l store) where
  pub replay_count : r.count ≡ length (replay_rows l store)
  unfolding replay_of
  replay_count = rw said

  module _ (room : length (replay_rows l store) ≤ transactions) where
    pub replay_row : (i : ℕ) → i < length (replay_rows l store) → row_at r i ≡ get_or (replay_rows l store) i no_replayed
    unfolding replay_of
    replay_row i h =
        ap (λ (x : Replay). row_at x i) said
        ∙ (λ j. record {
          group = column_at (λ x. x.group) (replay_rows l store) i room h j;
          tx = column_at (λ x. x.tx) (replay_rows l store) i room h j;
          update = column_at (λ x. x.update) (replay_rows l store) i room h j;
        })

    pub replay_taken : take r.count (rows_in r) ≡ replay_rows l store
    replay_taken =
        let long : length (take r.count (rows_in r)) ≡ r.count = length-take r.count (rows_in r) ∙ min-eq_left (omega (arith, replay_count, replay_places r)) in
        ext_get_or no_replayed (take r.count (rows_in r)) (replay_rows l store) (long ∙ replay_count)
        (λ i h.
        let k : i < r.count = omega (arith, h, long) in
        get_or-take r.count (rows_in r) i no_replayed k
        ∙ row_in r i (omega (arith, k, replay_count))
        ∙ replay_row i (omega (arith, k, replay_count)))
