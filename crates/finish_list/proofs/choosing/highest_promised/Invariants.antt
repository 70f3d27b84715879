use mathlib.Core.Path.{◌≡◌}
use Rattle.model_finish.specs.Choice.{highest_promised}
use Rattle.finish_list.proofs.choosing.highest_promised.Given as goal

abbrev pub invariant-loop-a : goal.invariant-loop-a
invariant-loop-a l = l.highest ≡ highest_promised l.w l.inst l.a
