-- The steps that an input is read as.
use Rattle.std.specs.Prelude.{ℕ, cond, List, [], ◌∷◌, ◌++◌, ltb, length, take, Result, Ok, Err}
use Rattle.model_steps.specs.declared.Step.{Step}
use Rattle.text_lines.specs.Lines.{lines, max_line_bytes, max_lines}
use Rattle.text_entry.specs.declared.Unread.{Unread}
use Rattle.text_step.specs.Step.{reading}

-- a line that does not read as a step, or reads as one with a number that no byte holds, is none
abbrev pub step_in : Result Step Unread → List Step
step_in (Ok s) = s ∷ []
step_in (Err u) = []

abbrev pub step_of_line : List ℕ → List Step
step_of_line line = cond (ltb max_line_bytes (length line)) [] (step_in (reading line))

unfoldable pub steps_in : List (List ℕ) → List Step
steps_in [] = []
steps_in (l ∷ ls) = step_of_line l ++ steps_in ls

-- the steps among the first 1,000 lines, in their order
abbrev pub steps_of : List ℕ → List Step
steps_of input = steps_in (take max_lines (lines input))
