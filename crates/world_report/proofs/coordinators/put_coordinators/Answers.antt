use native.Mathlib.Omega.{arith}
use Rattle.log_core.specs.Log.{empty_log}
use Rattle.model_protocol.specs.World.{fresh_coordinator}
use Rattle.world_report.specs.Coordinators.{coordinator_text}
use Rattle.world_report.proofs.Elements.{both_elements}
use Rattle.text_report.proofs.Each.{none_put, put_more}
use Rattle.world_report.proofs.coordinators.put_coordinators.Goals as goal

pub loop-coord-preserved : goal.loop-coord-preserved
loop-coord-preserved c =
    put_more c.loop-coord.invariant (omega arith) c.put_coordinator.ensures
    (rw c.from-i.ensures (both_elements (coordinator_text c.loop-coord.coord) c.args.cs.now c.args.logs.now c.loop-coord.coord _ fresh_coordinator _ empty_log (omega arith) (omega arith)))

pub loop-coord-init : goal.loop-coord-init
loop-coord-init c = none_put
