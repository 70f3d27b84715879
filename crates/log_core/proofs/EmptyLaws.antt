-- The empty log, made of rows without votes.
use Prim.Native.Nat.{ℕ}
use mathlib.Core.Path.{◌≡◌, ap₂}
use lib.ListN.{replicate}
use Rattle.log_entry.specs.Limits.{process_places, stores, transactions}
use Rattle.log_core.specs.declared.Log.{Log}
use Rattle.log_votes.specs.declared.Row.{Row}
use Rattle.log_core.specs.Log.{opened}
use Rattle.log_votes.specs.Row.{empty_row}

abbrev pub all_rows : ℕ → Row → Log
all_rows n r = record {
  rows = replicate transactions r;
  holders = replicate stores 0;
  turns = replicate stores 0;
  takers = replicate stores 0;
  latest = replicate process_places 0;
  groups = 0;
  remembered = replicate transactions 0;
  stores = n;
}

pub rows_without_votes : {m n : ℕ} → m ≡ n → (r : Row) → r ≡ empty_row → all_rows m r ≡ opened n
unfolding opened
rows_without_votes is r h = ap₂ all_rows is h
