-- The reader of an input as a machine that is fed, whose states are the commands so far.
use Rattle.std.specs.Prelude.{ℕ, Bool, cond, List, [], ◌∷◌, ◌++◌, leb, ltb, length}
use Rattle.log_entry.specs.declared.refusal.Refusal.TheVariants as refused
use Rattle.text_lines.specs.declared.Input.{Input}
use Rattle.text_lines.specs.declared.Line.{Line}
use Rattle.text_lines.specs.Feed.{Fed}
use Rattle.text_lines.specs.Line.{bytes_of, too_long}
use Rattle.text_lines.specs.Lines.{max_lines}
use Rattle.text_step.specs.Step.{reading}
use Rattle.model_steps.specs.Commands.{Command, commands_in}
use Rattle.world_input.specs.declared.Asked.{Asked}
use Rattle.world_input.specs.Commands.{command_to, refusing}

-- what a gathered line asks for
unfoldable pub held_command : Line → Command
held_command line = cond (too_long line) (refusing refused.Unreadable) (command_to (reading (bytes_of line)))

-- and what it asks for after n others
abbrev pub command_at : ℕ → Line → Command
command_at n line = cond (leb max_lines n) (refusing refused.NoPlace) (held_command line)

-- line 1,001 has been read
abbrev pub over : List Command → Bool
over os = ltb max_lines (length os)

abbrev pub with_line : List Command → Line → List Command
with_line os line = os ++ command_at (length os) line ∷ []

abbrev pub state_of : Input Asked → Fed (List Command)
state_of i = record { state = commands_in i.session.commands; line = i.line }
