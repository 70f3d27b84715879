use Rattle.log_entry.specs.Limits.{stores}
use Rattle.text_report.specs.Report.{holder_text}
use Rattle.text_report.specs.Within.{longest_line}
use Rattle.text_report.proofs.Each.{Put}
use Rattle.text_report.proofs.holders.Given as goal

abbrev pub invariant-loop-i : goal.invariant-loop-i
invariant-loop-i l = Put stores longest_line (holder_text l.log) l.initial.page l.page l.i
