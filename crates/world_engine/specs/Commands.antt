-- Commands carried out one after the other.
use Rattle.std.specs.Prelude.{ℕ, List, [], ◌∷◌, Err, Ok}
use Rattle.std.proofs.lemmas.List.Edits.{sets}
use Rattle.log_entry.specs.Number.{answer_number}
use Rattle.model_protocol.specs.declared.Stepped.{Stepped}
use Rattle.model_protocol.specs.declared.World.{World}
use Rattle.model_protocol.specs.Step.{answered, step_of}
use Rattle.model_steps.specs.declared.Commands.{Commands}
use Rattle.model_steps.specs.Commands.{Command, commands_in}

-- the step is taken, or what is none is answered
abbrev pub carried_out : World → Command → Stepped
carried_out w (Ok s) = step_of w s
carried_out w (Err r) = answered w (Err r)

unfoldable pub world_after : World → List Command → World
world_after w [] = w
world_after w (o ∷ os) = world_after (carried_out w o).world os

-- their answers, as numbers
unfoldable pub answers_to : World → List Command → List ℕ
answers_to w [] = []
answers_to w (o ∷ os) = answer_number (carried_out w o).answer ∷ answers_to (carried_out w o).world os

-- the buffer with the answers to the commands in front
abbrev pub answers_in : List ℕ → World → Commands → List ℕ
answers_in buffer w b = sets buffer 0 (answers_to w (commands_in b))
