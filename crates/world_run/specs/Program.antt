-- The meaning of the program `world`: from the bytes read to the bytes written.
use Rattle.std.specs.Prelude.{ℕ, List, ◌++◌}
use Rattle.model_protocol.specs.declared.World.{World}
use Rattle.model_protocol.specs.World.{fresh_world}
use Rattle.text_report.specs.Report.{answers_text}
use Rattle.world_report.specs.Report.{world_text}
use Rattle.world_engine.specs.Commands.{answers_to, world_after}
use Rattle.world_input.specs.Commands.{commands_of}

-- "The first step gets the fresh world [..]. Each later one gets the world that the last one handed
-- back"
abbrev pub answers_for : List ℕ → List ℕ
answers_for input = answers_to fresh_world (commands_of input)

abbrev pub world_for : List ℕ → World
world_for input = world_after fresh_world (commands_of input)

-- answers and a world as they are printed
abbrev pub printed : List ℕ → World → List ℕ
printed answers w = answers_text answers ++ world_text w

-- what `world` writes for the bytes that it reads
unfoldable pub world : List ℕ → List ℕ
world input = printed (answers_for input) (world_for input)
