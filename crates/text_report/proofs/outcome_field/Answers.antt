use native.Mathlib.Omega.{arith}
use Rattle.text_report.proofs.Lengths.{within_more, written}
use Rattle.text_report.proofs.outcome_field.Goals as goal

pub returns : goal.returns
returns c =
    within_more (written c.word.ensures (omega arith)) c.outcome_word.ensures
