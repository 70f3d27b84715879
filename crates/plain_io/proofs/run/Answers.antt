use Rattle.text_io.proofs.Answering.{answered_of}
use Rattle.plain_run.specs.Printed.{Prints}
use Rattle.plain_run.specs.Session.{answer_line, fresh_session, is_over}
use Rattle.plain_io.proofs.run.Goals as goal

pub returns-clause-given : goal.returns-clause-given
returns-clause-given g c =
    answered_of (λ s. s) is_over answer_line fresh_session Prints _ _ _ _ c.read_all-reading.result c.answer.ensures.reading c.read_all-reading.ensures.given c.answer.ensures.prints

pub returns-clause-answered : goal.returns-clause-answered
returns-clause-answered g c = (returns-clause-given g c).0
