use mathlib.Core.Path.{◌∙◌}
use Rattle.log_core.proofs.ReplayLaws.{no_groups}
use Rattle.log_core.proofs.Log.replay.Goals as goal

pub returns-then-self-eq0 : goal.returns-then-self-eq0
returns-then-self-eq0 c = c.none-empty.ensures ∙ no_groups c.args.self c.args.store c.if-self-eq0.true
