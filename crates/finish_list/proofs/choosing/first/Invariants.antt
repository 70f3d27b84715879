use Prim.Native.Nat.{◌-◌}
use mathlib.Core.Path.{◌≡◌}
use Rattle.model_steps.specs.Limits.{coordinators}
use Rattle.model_finish.specs.Choice.{first_from}
use Rattle.finish_list.proofs.choosing.first.Given as goal

abbrev pub invariant-loop-coord : goal.invariant-loop-coord
invariant-loop-coord l = first_from l.w 0 coordinators ≡ first_from l.w l.coord (coordinators - l.coord)
