use Rattle.log_core.proofs.EmptyLaws.{rows_without_votes}
use Rattle.log_core.proofs.Log.empty.Goals as goal

pub returns : goal.returns
returns c = rows_without_votes c.stores.ensures c.none-row.result c.none-row.ensures
