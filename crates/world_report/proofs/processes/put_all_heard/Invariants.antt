use Prim.Native.Nat.{suc, ◌-◌}
use lib.ListN.{get_or}
use Rattle.log_entry.specs.Limits.{processes}
use Rattle.model_protocol.specs.World.{fresh_process}
use Rattle.world_report.specs.Longest.{longest_heard}
use Rattle.world_report.specs.Processes.{heard_text}
use Rattle.text_report.proofs.Each.{Put}
use Rattle.world_report.proofs.processes.put_all_heard.Given as goal

abbrev pub invariant-loop-proc : goal.invariant-loop-proc
invariant-loop-proc l =
    Put processes longest_heard (λ j. heard_text (suc j) (get_or l.ps (suc j) fresh_process)) l.initial.page l.page (l.proc - 1)
