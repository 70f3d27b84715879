use Rattle.text_io.proofs.Answering.{answered_of}
use Rattle.std.specs.Prelude.{[]}
use Rattle.model_steps.specs.Commands.{commands_in}
use Rattle.world_input.specs.State.{over, with_line}
use Rattle.world_run.specs.Ran.{PrintsAgreed}
use Rattle.world_io.proofs.run.Goals as goal

pub returns-clause-given : goal.returns-clause-given
returns-clause-given g c =
    answered_of (λ a. commands_in a.commands) over with_line [] PrintsAgreed _ _ _ _ c.read_all-reading.result c.answer.ensures.reading c.read_all-reading.ensures.given c.answer.ensures.prints

pub returns-clause-answered : goal.returns-clause-answered
returns-clause-answered g c = (returns-clause-given g c).0
