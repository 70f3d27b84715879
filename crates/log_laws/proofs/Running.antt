-- The set of the transactions that run has a transaction exactly if it runs.
use Prim.Native.Nat.{ℕ}
use mathlib.Core.Path.{◌≡◌, refl}
use mathlib.Core.Bool.{false}
use mathlib.Core.List.{List}
use lib.ListN.{get_or}
use Rattle.log_entry.specs.Bits.{has}
use Rattle.log_votes.specs.declared.Row.{Row}
use Rattle.log_votes.specs.Row.{no_row}
use Rattle.log_votes.specs.Outcome.{running}
use Rattle.log_votes.specs.Scan.{any_from}
use Rattle.log_votes.proofs.SetLaws.{set_has}
use Rattle.log_core.specs.Group.{running_set}

no_row_runs : running no_row ≡ false
unfolding running any_from
no_row_runs = refl

pub running_has : (rows : List Row) (tx : ℕ) → has (running_set rows) tx ≡ running (get_or rows tx no_row)
running_has rows tx = set_has running rows no_row no_row_runs tx
