use mathlib.Core.Path.{ap, ◌∙◌}
use Rattle.log_votes.specs.declared.Row.{Row}
use Rattle.log_votes.specs.Outcome.{outcome_of_votes}
use Rattle.log_core.proofs.Absent.{no_row_lem}
use Rattle.log_votes.proofs.Absent.{open_without_votes}
use Rattle.log_core.proofs.Log.outcome.Goals as goal

pub returns-then-tx-ge-TRANSACTIONS : goal.returns-then-tx-ge-TRANSACTIONS
returns-then-tx-ge-TRANSACTIONS c = open_without_votes ∙ ap (λ (r : Row). outcome_of_votes r.votes) (no_row_lem c.args.self _ c.well_formed.0 c.args.tx c.if-tx-ge-TRANSACTIONS.true)
