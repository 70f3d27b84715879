use native.Mathlib.Omega.{arith}
use mathlib.Core.Path.{ap}
use Rattle.log_core.proofs.Lengths.{rows_length}
use Rattle.log_core.proofs.ReplayLength.{replay_length}
use Rattle.text_report.specs.Report.{replay_text}
use Rattle.text_report.proofs.Lengths.{within_as}
use Rattle.log_core.proofs.ReplayedRows.{replay_taken}
use Rattle.text_report.proofs.replay.Goals as goal

pub returns : goal.returns
returns c =
    within_as
    (ap (replay_text c.args.store) (replay_taken c.args.log c.args.store c.replay-replay.ensures (omega (arith, replay_length c.args.log c.args.store, rows_length c.args.log _ c.well_formed.1.0))))
    c.put_replay.ensures
