use mathlib.Core.Path.{ap, sym, ◌∙◌}
use native.Mathlib.Omega.{arith}
use Rattle.log_core.proofs.ReplayedRows.{row_in}
use Rattle.log_core.specs.Replay.{no_replayed, rows_in}
use Rattle.text_report.specs.Report.{replay_line}
use Rattle.text_report.proofs.Each.{counted, none_put, put_all, put_more}
use Rattle.text_report.proofs.Texts.{rows_counted}
use Rattle.text_report.proofs.put_replay.Goals as goal

pub loop-i-init : goal.loop-i-init
loop-i-init c = none_put

pub loop-i-preserved : goal.loop-i-preserved
loop-i-preserved c =
    put_more c.loop-i.invariant (omega (arith, rows_counted c.args.replay.now)) c.replay_line.ensures
    (ap (replay_line c.args.store) (sym (row_in c.args.replay.now c.loop-i.i (omega arith)))
    ∙ counted (replay_line c.args.store) no_replayed (rows_in c.args.replay.now) c.args.replay.now.count c.loop-i.i (omega arith))

pub returns : goal.returns
returns c = put_all c.loop-i.invariant (omega (arith, rows_counted c.args.replay.now)) (omega (arith, rows_counted c.args.replay.now))
