use Rattle.text_report.proofs.Lengths.{within_as, within_nothing}
use Rattle.finish_list.specs.Longest.{longest_list}
use Rattle.finish_list.proofs.ClosingLaws.{chosen_such, nothing_text}
use Rattle.finish_list.proofs.put_finishing.Goals as goal

pub returns-in_default : goal.returns-in_default
returns-in_default c = within_as (nothing_text _ c.in_default.ensures) (within_nothing longest_list _)

pub put_closing-requires : goal.put_closing-requires
put_closing-requires c = chosen_such _ c.in-Some.ensures
