use mathlib.Core.Path.{refl}
use native.Mathlib.Omega.{arith}
use Rattle.text_report.proofs.Each.{none_put, put_all, put_more}
use Rattle.text_report.proofs.Lengths.{within_as}
use Rattle.finish_list.proofs.TextLaws.{run_text}
use Rattle.finish_list.proofs.put_in_row.Goals as goal

pub loop-k-init : goal.loop-k-init
loop-k-init c = none_put

pub loop-k-preserved : goal.loop-k-preserved
loop-k-preserved c = put_more c.loop-k.invariant (omega arith) c.deliver_line.ensures refl

pub returns : goal.returns
returns c = within_as (run_text _ _) (put_all c.loop-k.invariant (omega arith) (omega arith))
