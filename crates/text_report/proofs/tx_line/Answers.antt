use native.Mathlib.Omega.{arith}
use Rattle.text_report.proofs.Lengths.{within_more, within_room}
use Rattle.text_report.proofs.tx_line.Goals as goal

pub returns : goal.returns
returns c =
    within_room
    (within_more (within_more (within_more c.byte_field.ensures
    c.outcome_field.ensures)
    c.byte_field-2.ensures)
    c.end.ensures)
    (omega arith)
