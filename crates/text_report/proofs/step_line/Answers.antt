use native.Mathlib.Omega.{arith}
use Rattle.text_ascii.proofs.Decimals.{decimal_length}
use Rattle.text_report.proofs.Lengths.{within_more, within_room, written}
use Rattle.text_report.proofs.step_line.Goals as goal

pub returns : goal.returns
returns c =
    within_room
    (within_more (within_more (written {room = 10} (rw c.from.ensures at c.field.ensures) (omega (arith, decimal_length 5 c.args.number (omega arith) (omega arith))))
    c.byte_field.ensures)
    c.end.ensures)
    (omega arith)
