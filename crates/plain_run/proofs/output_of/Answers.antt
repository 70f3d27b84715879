use mathlib.Core.Path.{refl, ◌∙◌, ap}
use Rattle.text_lines.specs.Feed.{finished}
use Rattle.text_report.proofs.Lengths.{within_more}
use Rattle.text_report.proofs.PrintedLaws.{printed_as, printed_whole}
use Rattle.plain_run.specs.Printed.{longest_output}
use Rattle.plain_run.specs.Session.{answer_line, is_over, output}
use Rattle.plain_run.proofs.Meaning.{output_is_plain}
use Rattle.plain_run.proofs.output_of.Goals as goal

pub returns : goal.returns
returns c =
    λ bytes is.
    printed_as
    (ap output (c.finish-session.ensures ∙ ap (finished is_over answer_line) is) ∙ output_is_plain bytes)
    (printed_whole longest_output refl c.told-out (within_more c.put_answers.ensures c.put_log.ensures))
