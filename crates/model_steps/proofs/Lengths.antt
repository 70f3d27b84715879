-- What owning commands by value says of them: how many places there are.
use mathlib.Core.List.{List}
use mathlib.Core.Path.{◌≡◌}
use denote.Laws.{Is}
use denote.Struct.Declared.{row}
use lib.ListN.{length}
use mir.Val.{Val}
use Rattle.model_steps.specs.declared.Commands.{Commands}
use Rattle.model_steps.specs.Commands.{most_commands}
use Rattle.model_steps.specs.contracts.Commands.{the_type as commands-type}

pub commands_length : (c : Commands) (vs : List Val) → Is (row commands-type) c vs → length c.commands ≡ most_commands
commands_length c vs g = g.1.1.1.0.1.0.1
