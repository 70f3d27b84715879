-- What stands at a number outside its limits: nothing.
use Prim.Native.Nat.{ℕ, ◌≤◌}
use mathlib.Core.List.{List}
use mathlib.Core.Path.{◌≡◌, sym}
use native.Mathlib.Omega.{arith}
use denote.Laws.{Is}
use denote.Struct.Declared.{row}
use lib.ListN.{get_or-eq_default}
use mir.Val.{Val}
use Rattle.log_entry.specs.Limits.{stores, transactions}
use Rattle.log_votes.specs.Row.{no_row}
use Rattle.log_core.specs.declared.Log.{Log}
use Rattle.log_core.specs.Log.{holder_of, row_of, turn_of}
use Rattle.log_core.proofs.Lengths.{holders_length, rows_length, turns_length}
use Rattle.log_core.specs.contracts.Log.{the_type as log-type}

module _ (l : Log) (vs : List Val) (good : Is (row log-type) l vs) where
  pub no_row_lem : (tx : ℕ) → transactions ≤ tx → no_row ≡ row_of l tx
  no_row_lem tx h = sym (get_or-eq_default l.rows no_row (omega (arith, rows_length l vs good)))

  pub no_holder : (store : ℕ) → stores ≤ store → 0 ≡ holder_of l store
  no_holder store h = sym (get_or-eq_default l.holders 0 (omega (arith, holders_length l vs good)))

  pub no_turn_lem : (store : ℕ) → stores ≤ store → 0 ≡ turn_of l store
  no_turn_lem store h = sym (get_or-eq_default l.turns 0 (omega (arith, turns_length l vs good)))
