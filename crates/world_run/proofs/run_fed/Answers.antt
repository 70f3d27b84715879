use mathlib.Core.Path.{◌∙◌, ap}
use Rattle.text_lines.specs.Feed.{finished}
use Rattle.world_input.specs.State.{over, with_line}
use Rattle.model_steps.specs.Commands.{commands_in}
use Rattle.world_input.proofs.Meaning.{fed_is_commands}
use Rattle.world_run.proofs.Meaning.{ran_agrees}
use Rattle.world_run.proofs.run_fed.Goals as goal

pub returns : goal.returns
returns c =
    λ bytes is.
    ran_agrees
    bytes
    (commands_in c.finish-asked.result.commands)
    c.run.result
    (c.finish-asked.ensures ∙ ap (finished over with_line) is ∙ fed_is_commands bytes)
    c.run.ensures
