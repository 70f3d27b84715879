use lib.ListN.{get_or}
use Rattle.log_core.specs.Log.{empty_log}
use Rattle.model_protocol.specs.World.{fresh_coordinator}
use Rattle.model_steps.specs.Limits.{coordinators}
use Rattle.world_report.specs.Coordinators.{coordinator_text}
use Rattle.world_report.specs.Longest.{longest_coordinator}
use Rattle.text_report.proofs.Each.{Put}
use Rattle.world_report.proofs.coordinators.put_coordinators.Given as goal

abbrev pub invariant-loop-coord : goal.invariant-loop-coord
invariant-loop-coord l =
    Put coordinators longest_coordinator (λ k. coordinator_text k (get_or l.cs k fresh_coordinator) (get_or l.logs k empty_log)) l.initial.page l.page l.coord
