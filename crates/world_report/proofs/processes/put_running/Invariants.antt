use Rattle.log_entry.specs.Limits.{transactions}
use Rattle.world_report.specs.Longest.{longest_running_line}
use Rattle.text_report.proofs.Each.{Put}
use Rattle.world_report.specs.Processes.{listed_text}
use Rattle.world_report.proofs.processes.put_running.Given as goal

abbrev pub invariant-loop-tx : goal.invariant-loop-tx
invariant-loop-tx l = Put transactions longest_running_line (listed_text l.running) l.initial.page l.page l.tx
