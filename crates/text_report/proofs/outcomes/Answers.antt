use mathlib.Core.Path.{refl}
use native.Mathlib.Omega.{arith}
use Rattle.text_report.proofs.Each.{none_put, put_more}
use Rattle.text_report.proofs.outcomes.Goals as goal

pub loop-i-init : goal.loop-i-init
loop-i-init c = none_put

pub loop-i-preserved : goal.loop-i-preserved
loop-i-preserved c = put_more c.loop-i.invariant (omega arith) c.tx.ensures (rw c.from.ensures refl)
