use mathlib.Core.Path.{sym}
use native.Mathlib.Omega.{arith}
use Rattle.text_report.proofs.Lengths.{within_as, within_more, within_room}
use Rattle.finish_list.proofs.TextLaws.{steps_append}
use Rattle.finish_list.proofs.put_exchange.Goals as goal

pub returns : goal.returns
returns c =
    within_room
    (within_as (sym (steps_append _ _)) (within_more c.put_asked.ensures c.put_in_row.ensures))
    (omega arith)
