use Rattle.text_report.proofs.Lengths.{within_more}
use Rattle.world_report.specs.Report.{world_text}
use Rattle.world_report.proofs.put_world.Goals as goal

pub returns : goal.returns
unfolding world_text
returns c = within_more (within_more c.put_coordinators.ensures c.put_all_heard.ensures) c.put_restores.ensures
