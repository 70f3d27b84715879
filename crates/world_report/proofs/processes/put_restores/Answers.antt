use native.Mathlib.Omega.{arith}
use Rattle.world_report.proofs.ProcessTexts.{restore_from_1}
use Rattle.text_report.proofs.Each.{none_put, put_next}
use Rattle.world_report.proofs.processes.put_restores.Goals as goal

pub loop-proc-preserved : goal.loop-proc-preserved
loop-proc-preserved c =
    put_next c.loop-proc.proc c.loop-proc.invariant (omega arith) (omega arith) c.put_restore.ensures
    (rw c.from-i.ensures (restore_from_1 c.args.ps.now c.args.replays.now c.args.follows.now c.loop-proc.proc _ _ _ (omega arith) (omega arith) (omega arith) (omega arith)))

pub loop-proc-init : goal.loop-proc-init
loop-proc-init c = none_put
