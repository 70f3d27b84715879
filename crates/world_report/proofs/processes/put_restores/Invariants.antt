use Prim.Native.Nat.{suc, ◌-◌}
use lib.ListN.{get_or}
use Rattle.log_entry.specs.Limits.{processes}
use Rattle.log_core.specs.Replay.{no_replay}
use Rattle.model_protocol.specs.World.{fresh_process, no_follows}
use Rattle.world_report.specs.Longest.{longest_restore}
use Rattle.world_report.specs.Processes.{restore_text}
use Rattle.text_report.proofs.Each.{Put}
use Rattle.world_report.proofs.processes.put_restores.Given as goal

abbrev pub invariant-loop-proc : goal.invariant-loop-proc
invariant-loop-proc l =
    Put processes longest_restore
    (λ j. restore_text (suc j) (get_or l.ps (suc j) fresh_process) (get_or l.replays (suc j) no_replay) (get_or l.follows (suc j) no_follows))
    l.initial.page l.page (l.proc - 1)
