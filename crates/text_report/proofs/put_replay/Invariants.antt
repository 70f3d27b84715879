use lib.ListN.{get_or, length}
use Rattle.log_core.specs.Replay.{no_replayed}
use Rattle.text_report.specs.Report.{replay_line, rows_of}
use Rattle.text_report.specs.Within.{longest_line}
use Rattle.text_report.proofs.Each.{Put}
use Rattle.text_report.proofs.put_replay.Given as goal

abbrev pub invariant-loop-i : goal.invariant-loop-i
invariant-loop-i l =
    Put (length (rows_of l.replay)) longest_line (λ j. replay_line l.store (get_or (rows_of l.fn.replay) j no_replayed)) l.initial.page l.page l.i
