use native.Mathlib.Omega.{arith}
use Rattle.text_report.proofs.Lengths.{within_more, within_room}
use Rattle.world_report.proofs.processes.restore_line.Goals as goal

pub returns : goal.returns
returns c =
    within_room
    (within_more (within_more c.byte_fields.ensures
    c.byte_field.ensures)
    c.end.ensures)
    (omega arith)
