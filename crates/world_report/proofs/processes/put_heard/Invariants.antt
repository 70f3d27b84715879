use lib.ListN.{get_or}
use Rattle.log_entry.specs.Limits.{transactions}
use Rattle.log_votes.specs.declared.Outcome.TheVariants.{Open}
use Rattle.world_report.specs.Longest.{longest_heard_line}
use Rattle.world_report.specs.Processes.{outcome_text}
use Rattle.text_report.proofs.Each.{Put}
use Rattle.world_report.proofs.processes.put_heard.Given as goal

abbrev pub invariant-loop-tx : goal.invariant-loop-tx
invariant-loop-tx l =
    Put transactions longest_heard_line (λ tx. outcome_text l.proc tx (get_or l.p.heard tx (record { outcome = Open })).outcome) l.initial.page l.page l.tx
