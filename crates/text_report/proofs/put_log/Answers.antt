use native.Mathlib.Omega.{arith}
use Rattle.text_report.specs.Report.{log_text}
use Rattle.text_report.proofs.Lengths.{within_more, within_room}
use Rattle.text_report.proofs.put_log.Goals as goal

pub returns : goal.returns
unfolding log_text
returns c = within_room (within_more (within_more c.outcomes.ensures c.holders.ensures) c.replays.ensures) (omega arith)
