use lib.ListN.{get_or}
use Rattle.log_entry.specs.Limits.{transactions}
use Rattle.model_protocol.specs.World.{no_followed}
use Rattle.text_report.specs.Within.{longest_line}
use Rattle.text_report.proofs.Each.{Put}
use Rattle.world_report.specs.Processes.{follow_text}
use Rattle.world_report.proofs.processes.put_follows.Given as goal

abbrev pub invariant-loop-tx : goal.invariant-loop-tx
invariant-loop-tx l =
    Put transactions longest_line (λ tx. follow_text l.followed tx (get_or l.follows.of tx no_followed)) l.initial.page l.page l.tx
