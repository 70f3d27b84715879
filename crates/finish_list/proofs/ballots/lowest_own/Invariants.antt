use mathlib.Core.Path.{◌≡◌}
use Rattle.model_finish.specs.Choice.{lowest_own}
use Rattle.finish_list.proofs.ballots.lowest_own.Given as goal

abbrev pub invariant-loop-b : goal.invariant-loop-b
invariant-loop-b l = lowest_own l.coord l.low ≡ lowest_own l.coord l.b
