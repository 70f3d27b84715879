use native.Mathlib.Omega.{arith}
use Rattle.text_report.proofs.Lengths.{within_as, within_more, within_room}
use Rattle.finish_list.proofs.TextLaws.{deliver_text}
use Rattle.finish_list.proofs.lines.deliver_line.Goals as goal

pub returns : goal.returns
returns c =
    within_room
    (within_as (deliver_text _) (within_more c.byte_field.ensures c.end.ensures))
    (omega arith)
