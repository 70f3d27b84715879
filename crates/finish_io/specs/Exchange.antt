-- What the program `finish` promises: what it prints is the list for all that was read.
use Rattle.std.specs.Prelude.{ℕ, List, [], Option}
use Rattle.text_io.specs.declared.Exchange.{Exchange}
use Rattle.text_io.specs.Exchange.{Answered as AnsweredBy, AnsweredOf as AnsweredByOf}
use Rattle.model_steps.specs.Commands.{commands_in}
use Rattle.world_input.specs.declared.Asked.{Asked}
use Rattle.world_input.specs.State.{over, with_line}
use Rattle.finish_run.specs.Printed.{PrintsList}

-- "From a step file of a world a program prints that list as step lines": what is printed of the
-- buffer is what `finish` says of all bytes read. The list closes one more instance, and continues
-- the file.
abbrev pub Answered : Exchange Asked → List ℕ → Type 0
Answered = AnsweredBy (λ a. commands_in a.commands) over with_line [] PrintsList

-- and the bytes read are what a reader gave that has `left` before, and `rest` after
abbrev pub AnsweredOf : (left rest : Option (List ℕ)) → Exchange Asked → List ℕ → Type 0
AnsweredOf = AnsweredByOf (λ a. commands_in a.commands) over with_line [] PrintsList
