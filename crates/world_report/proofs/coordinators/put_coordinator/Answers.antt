use Rattle.text_report.proofs.Lengths.{within_more}
use Rattle.world_report.proofs.coordinators.put_coordinator.Goals as goal

pub returns : goal.returns
returns c = within_more c.coordinator_line.ensures c.put_log.ensures
