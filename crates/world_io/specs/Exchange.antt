-- What the program `world` promises: all that was read is answered, and demand 3 holds.
use Rattle.std.specs.Prelude.{ℕ, List, [], Option}
use Rattle.text_io.specs.declared.Exchange.{Exchange}
use Rattle.text_io.specs.Exchange.{Answered as AnsweredBy, AnsweredOf as AnsweredByOf}
use Rattle.model_steps.specs.Commands.{commands_in}
use Rattle.world_input.specs.declared.Asked.{Asked}
use Rattle.world_input.specs.State.{over, with_line}
use Rattle.world_run.specs.Ran.{PrintsAgreed}

-- "The program `world` prints the answers [..]": what is printed of the buffer is what `world` says
-- of all bytes read, and demand 3 holds for the world that it shows. Pieces were read in order, up
-- to the end of the input or to line 1,001.
abbrev pub Answered : Exchange Asked → List ℕ → Type 0
Answered = AnsweredBy (λ a. commands_in a.commands) over with_line [] PrintsAgreed

-- and the bytes read are what a reader gave that has `left` before, and `rest` after
abbrev pub AnsweredOf : (left rest : Option (List ℕ)) → Exchange Asked → List ℕ → Type 0
AnsweredOf = AnsweredByOf (λ a. commands_in a.commands) over with_line [] PrintsAgreed
