-- The meaning of the program `finish`: from the bytes read to the bytes written. "From a step file
-- of a world a program prints that list as step lines".
use Rattle.std.specs.Prelude.{ℕ, List}
use Rattle.model_steps.specs.declared.Step.{Step}
use Rattle.model_finish.specs.Closing.{finishing}
use Rattle.finish_list.specs.Text.{steps_text}
use Rattle.world_run.specs.Program.{world_for}

-- the list for the world of an input, which is read as `world` reads it
abbrev pub list_for : List ℕ → List Step
list_for input = finishing (world_for input)

-- what `finish` writes for the bytes that it reads
unfoldable pub finish : List ℕ → List ℕ
finish input = steps_text (list_for input)
