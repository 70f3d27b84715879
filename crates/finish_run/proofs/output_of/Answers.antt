use mathlib.Core.Path.{ap, refl}
use Rattle.finish_list.specs.Longest.{longest_list}
use Rattle.finish_list.specs.Text.{finish_text}
use Rattle.text_report.proofs.PrintedLaws.{printed_as, printed_whole}
use Rattle.finish_run.specs.Program.{finish}
use Rattle.finish_run.proofs.Continued.{every_list_closes, every_list_finishes, file_continues, prints_nothing_exactly}
use Rattle.finish_run.proofs.output_of.Goals as goal

pub returns : goal.returns
unfolding finish
returns c =
    λ bytes is.
    record {
      prints =
          printed_as (ap finish_text (c.run_fed-session.ensures bytes is).world)
          (printed_whole longest_list refl c.told-out c.put_finishing.ensures);
      nothing = prints_nothing_exactly bytes;
      closes = every_list_closes bytes;
      finishes = every_list_finishes bytes;
      continues = file_continues bytes;
    }
