use mathlib.Core.Path.{sym, ◌∙◌}
use Rattle.finish_list.proofs.ChoiceLaws.{chosen_first, first_next, none_first}
use Rattle.finish_list.proofs.choosing.first.Goals as goal

pub returns-in-Some : goal.returns-in-Some
returns-in-Some c = chosen_first _ c.loop-coord.coord c.loop-coord-test.true c.in-Some.ensures.0 c.in-Some.ensures.1 c.loop-coord.invariant

pub loop-coord-preserved : goal.loop-coord-preserved
loop-coord-preserved c = c.loop-coord.invariant ∙ first_next _ c.loop-coord.coord c.loop-coord-test.true (sym c.in_default.ensures)

pub returns : goal.returns
returns c = c.loop-coord.invariant ∙ sym (none_first _ c.loop-coord.coord c.loop-coord-test.false)
