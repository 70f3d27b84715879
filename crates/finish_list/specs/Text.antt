-- "From a step file of a world a program prints that list as step lines".
use Rattle.std.specs.Prelude.{ℕ, List, [], ◌∷◌, ◌++◌}
use Rattle.model_steps.specs.declared.Step.{Step}
use Rattle.model_protocol.specs.declared.World.{World}
use Rattle.model_finish.specs.Closing.{finishing}
use Rattle.text_report.specs.Report.{end}
use Rattle.text_step.specs.Step.{text}

-- the steps as lines of a step file, one after the other
unfoldable pub steps_text : List Step → List ℕ
steps_text [] = []
steps_text (s ∷ steps) = text s ++ end ++ steps_text steps

-- "that list as step lines, for the lowest such coordinator, then ballot, then acceptors, and
-- nothing exactly where no coordinator is such"
abbrev pub finish_text : World → List ℕ
finish_text w = steps_text (finishing w)
