use mathlib.Core.Path.{refl}
use native.Mathlib.Omega.{arith}
use Rattle.text_report.proofs.Each.{none_put, put_all, put_more}
use Rattle.text_report.proofs.Lengths.{within_as}
use Rattle.finish_list.proofs.TextLaws.{run_text}
use Rattle.finish_list.proofs.put_asked.Goals as goal

pub loop-a-init : goal.loop-a-init
loop-a-init c = none_put

pub loop-a-preserved : goal.loop-a-preserved
loop-a-preserved c = put_more c.loop-a.invariant (omega arith) c.deliver_line.ensures refl

pub returns : goal.returns
returns c = within_as (run_text _ _) (put_all c.loop-a.invariant (omega arith) (omega arith))
