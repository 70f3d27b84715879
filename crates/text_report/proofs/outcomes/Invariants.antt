use Rattle.log_entry.specs.Limits.{transactions}
use Rattle.text_report.specs.Report.{tx_text}
use Rattle.text_report.specs.Within.{longest_line}
use Rattle.text_report.proofs.Each.{Put}
use Rattle.text_report.proofs.outcomes.Given as goal

abbrev pub invariant-loop-i : goal.invariant-loop-i
invariant-loop-i l = Put transactions longest_line (tx_text l.log) l.initial.page l.page l.i
