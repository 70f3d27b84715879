use native.Mathlib.Omega.{arith}
use Rattle.model_protocol.specs.World.{fresh_process}
use Rattle.world_report.specs.Processes.{heard_text}
use Rattle.world_report.proofs.Elements.{element_from_1}
use Rattle.text_report.proofs.Each.{none_put, put_next}
use Rattle.world_report.proofs.processes.put_all_heard.Goals as goal

pub loop-proc-preserved : goal.loop-proc-preserved
loop-proc-preserved c =
    put_next c.loop-proc.proc c.loop-proc.invariant (omega arith) (omega arith) c.put_heard.ensures
    (rw c.from.ensures (element_from_1 heard_text c.args.ps.now c.loop-proc.proc _ fresh_process (omega arith) (omega arith)))

pub loop-proc-init : goal.loop-proc-init
loop-proc-init c = none_put
