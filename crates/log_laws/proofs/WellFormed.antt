-- What holds of every reachable log.
use Prim.Native.Nat.{ℕ}
use mathlib.Core.List.{List, [], ◌∷◌}
use Rattle.log_entry.specs.declared.Entry.{Entry}
use Rattle.log_core.specs.declared.Log.{Log}
use Rattle.log_core.specs.Enter.{enter, feed}
use Rattle.log_core.specs.Log.{empty_log, row_of}
use Rattle.log_laws.proofs.Grouping.{Grouping}
use Rattle.log_laws.proofs.GroupSteps.{grouping_empty, grouping_enter}
use Rattle.log_laws.proofs.Holding.{Holding, holding_empty, holding_enter}
use Rattle.log_laws.proofs.Rows.{RowWf}
use Rattle.log_laws.proofs.RowSteps.{rows_empty, rows_enter}
use Rattle.log_laws.proofs.Sizes.{Sized, sized_empty, sized_enter}
use Rattle.log_laws.proofs.Steps.{holders_of}

pub record Wf (l : Log) : Type 0 where
  pub sized : Sized l
  pub row : (tx : ℕ) → RowWf (row_of l tx)
  pub holding : Holding (holders_of l)
  pub grouping : Grouping l.rows l.groups

pub wf_empty : Wf empty_log
wf_empty = record { sized = sized_empty; row = rows_empty; holding = holding_empty; grouping = grouping_empty }

pub wf_enter : (l : Log) (e : Entry) → Wf l → Wf (enter l e).log
wf_enter l e w = record {
  sized = sized_enter l e w.sized;
  row = rows_enter l e w.sized w.row;
  holding = holding_enter l e w.sized w.holding;
  grouping = grouping_enter l e w.sized w.row w.grouping;
}

-- what each entry keeps, lists of entries keep
pub feed_keeps : (P : Log → Type 0) → ((l : Log) (e : Entry) → Wf l → P l → P (enter l e).log) → (l : Log) (es : List Entry) → Wf l → P l → P (feed l es)
unfolding feed
feed_keeps P step l [] w p = p
feed_keeps P step l (e ∷ es) w p = feed_keeps P step (enter l e).log es (wf_enter l e w) (step l e w p)

pub wf_feed : (l : Log) (es : List Entry) → Wf l → Wf (feed l es)
wf_feed l es w = feed_keeps Wf (λ l e w k. wf_enter l e w) l es w w
