use Rattle.model_steps.proofs.Lengths.{commands_length}
use Rattle.world_run.proofs.Carried.{carried_ran}
use Rattle.world_run.proofs.run.Goals as goal

pub returns : goal.returns
returns c =
    carried_ran
    c.args.commands
    _
    _
    c.advance-world.result
    c.advance-world.new.answers
    (commands_length c.args.commands _ c.well_formed.0)
    c.min-count.ensures
    c.fresh_world.ensures
    c.advance-world.ensures.value
    c.advance-world.ensures.answers_after
