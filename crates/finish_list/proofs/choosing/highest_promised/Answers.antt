use mathlib.Core.Path.{ap, ◌∙◌}
use native.Mathlib.Omega.{arith}
use Rattle.model_finish.specs.Choice.{highest_promised}
use Rattle.finish_list.proofs.BallotLaws.{none_promised, no_slot, one_promised}
use Rattle.finish_list.proofs.choosing.highest_promised.Goals as goal
use Rattle.finish_list.proofs.choosing.highest_promised.Goals.{in-Some, in_default}

pub loop-a-init : goal.loop-a-init
loop-a-init c = none_promised _ _

pub loop-a-preserved : goal.loop-a-preserved
loop-a-preserved c = elim c.match-get.branch [
  | in-Some w ↦
      let slot = rw (c.from.ensures, c.from-in-loop-a.ensures) at w.in-Some.ensures.lookup in
      w.highest-is ∙ one_promised _ _ c.loop-a.a _ slot.1 c.loop-a.invariant w.max-highest.ensures (omega (arith, slot))
  | in_default w ↦
      let none = rw (c.from.ensures, c.from-in-loop-a.ensures) at w.in_default.ensures.lookup in
      w.highest-is ∙ no_slot _ _ c.loop-a.a c.loop-a.invariant (omega (arith, none))
]

pub returns : goal.returns
returns c = c.loop-a.invariant ∙ ap (highest_promised c.args.w.now c.args.inst) (omega arith)
