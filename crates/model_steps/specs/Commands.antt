-- What the lines of an input ask for.
use Rattle.std.specs.Prelude.{ℕ, ◌+◌, List, Result, cond, ltb, set, take}
use Rattle.log_entry.specs.declared.refusal.Refusal.{Refusal}
use Rattle.model_steps.specs.declared.Step.{Step}
use Rattle.model_steps.specs.declared.Commands.{Commands}

-- a step to be taken, or only the answer to a line that is no step
abbrev pub Command : Type 0
Command = Result Step Refusal

-- a command for each line that a program answers: 1,000, and line 1,001
abbrev pub most_commands : ℕ
most_commands = 1001

-- the commands, in the order of their lines
abbrev pub commands_in : Commands → List Command
commands_in c = take c.count c.commands

-- the commands with one more; there is room for one to line 1,001
unfoldable pub pushed : Commands → Command → Commands
pushed c o = cond (ltb c.count most_commands) (record { count = c.count + 1; commands = set c.commands c.count o }) c
