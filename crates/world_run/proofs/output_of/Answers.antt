use mathlib.Core.Path.{refl}
use Rattle.text_report.proofs.Lengths.{within_more}
use Rattle.text_report.proofs.PrintedLaws.{printed_as, printed_whole}
use Rattle.world_run.specs.Ran.{longest_output}
use Rattle.world_run.proofs.Meaning.{agreed_prints, input_agrees}
use Rattle.world_run.proofs.output_of.Goals as goal

pub returns : goal.returns
returns c =
    λ bytes is.
    record {
      prints =
          printed_as
          (agreed_prints bytes c.run_fed-session.result (c.run_fed-session.ensures bytes is))
          (printed_whole longest_output refl c.told-out (within_more c.put_answers.ensures c.put_world.ensures));
      demand_3 = input_agrees bytes;
    }
