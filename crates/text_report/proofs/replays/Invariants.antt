use Rattle.log_core.specs.Replay.{replay_rows}
use Rattle.log_entry.specs.Limits.{stores}
use Rattle.text_report.specs.Report.{replay_text}
use Rattle.text_report.specs.Within.{longest_replay}
use Rattle.text_report.proofs.Each.{Put}
use Rattle.text_report.proofs.replays.Given as goal

abbrev pub invariant-loop-i : goal.invariant-loop-i
invariant-loop-i l = Put stores longest_replay (λ s. replay_text s (replay_rows l.log s)) l.initial.page l.page l.i
