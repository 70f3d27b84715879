use mathlib.Core.Path.{refl}
use native.Mathlib.Omega.{arith}
use Rattle.text_report.proofs.Each.{none_put, put_more}
use Rattle.world_report.proofs.processes.put_running.Goals as goal

pub loop-tx-init : goal.loop-tx-init
loop-tx-init c = none_put

pub loop-tx-preserved : goal.loop-tx-preserved
loop-tx-preserved c = put_more c.loop-tx.invariant (omega arith) c.put_listed.ensures refl
