-- "The program `world` prints the answers, then per coordinator `coord=0 applied=0` and its log in
-- that form, then `proc=1 tx=4 heard=commit` lines by process and tx, then for each process that
-- took a restore `proc=1 store=0 position=2` and that restore's replay lines."
-- Document 02 adds: "`world` prints `running=4` lines, then
-- `follow=4 outcome=commit upd=0000000a` lines, each by tx, behind the replay lines."
use Rattle.std.specs.Prelude.{ℕ, List, ◌++◌}
use Rattle.model_protocol.specs.declared.World.{World}
use Rattle.world_report.specs.Coordinators.{coordinators_text}
use Rattle.world_report.specs.Processes.{by_process, heard_text, restores_text}

-- a world as it is printed, after the answers
unfoldable pub world_text : World → List ℕ
world_text w =
    coordinators_text w.coordinators w.logs
    ++ by_process heard_text w.processes
    ++ restores_text w.processes w.restored w.follows
