use Rattle.std.proofs.Common.{◌∙◌}
use Rattle.world_engine.proofs.SendLaws.{first_copy, later_copy}
use Rattle.world_engine.proofs.send.copy_of.Goals as goal

pub returns-then-i-eq0 : goal.returns-then-i-eq0
returns-then-i-eq0 c = first_copy c.args.m.now c.args.i c.if-i-eq0.true

pub returns-else-i-eq0 : goal.returns-else-i-eq0
returns-else-i-eq0 c = c.addressed.ensures ∙ later_copy c.args.m.now c.args.i c.if-i-eq0.false
