-- The rows of a replay as bytes.
use Prim.Native.Nat.{ℕ, suc, ◌+◌, ◌*◌, ◌<◌, ◌≤◌}
use mathlib.Core.List.{List, [], ◌∷◌}
use mathlib.Core.Path.{◌≡◌, refl, ◌∙◌}
use native.Mathlib.Nat.{min-eq_left}
use native.Mathlib.Numerals.{add-one}
use native.Mathlib.Omega.{arith}
use lib.ListN.{drop, drop_of_length-le, get_or, length, length-take, take}
use lib.Seq.{drop-cons, get_or-take, sets}
use Rattle.log_entry.specs.Limits.{transactions}
use Rattle.log_core.specs.declared.Replay.{Replay}
use Rattle.log_core.specs.declared.Replayed.{Replayed}
use Rattle.log_core.proofs.ReplayedRows.{replay_places}
use Rattle.log_core.specs.Replay.{no_replayed, rows_in}
use Rattle.host_records.proofs.LowFirst.{sets_append}
use Rattle.release_log.specs.Query.{replay_value, row_bytes, row_size, rows_bytes}

pub rows_bytes_length : (rs : List Replayed) → length (rows_bytes rs) ≡ length rs * row_size
unfolding rows_bytes
rows_bytes_length [] = refl
rows_bytes_length (r ∷ rs) = let h = rows_bytes_length rs in omega arith

module _ (rows : List Replayed) (n i : ℕ) (within : n ≤ length rows) (out : List ℕ) (at : ℕ) where
  pub row_stored : i < n → {bytes after : List ℕ} → bytes ≡ row_bytes (get_or rows i no_replayed) → after ≡ sets out at bytes → {to : ℕ} → to ≡ at + row_size
      → sets out at (rows_bytes (drop i (take n rows))) ≡ sets after to (rows_bytes (drop (i + 1) (take n rows)))
  unfolding rows_bytes
  row_stored h b a next =
      let k : i < length (take n rows) = rw length-take (omega arith) in
      rw (drop-cons (take n rows) i no_replayed k, get_or-take n rows i no_replayed h, a, b, next, add-one)
      (sets_append (row_bytes (get_or rows i no_replayed)) (rows_bytes (drop (suc i) (take n rows))) out at)

  pub rows_end : n ≤ i → sets out at (rows_bytes (drop i (take n rows))) ≡ out
  unfolding rows_bytes
  rows_end h = rw (drop_of_length-le (take n rows) {i = i} (rw length-take (omega arith)))

pub taken_length : (r : Replay) → r.count ≤ transactions → length (take r.count (rows_in r)) ≡ r.count
taken_length r k = length-take r.count (rows_in r) ∙ min-eq_left (omega (arith, replay_places r))

pub value_length : (r : Replay) → r.count ≤ transactions → length (replay_value (take r.count (rows_in r))) ≡ 1 + r.count * row_size
value_length r k =
    let a = rows_bytes_length (take r.count (rows_in r)) in
    let b : length (take r.count (rows_in r)) ≡ r.count = taken_length r k in
    omega arith
