use native.Mathlib.Omega.{arith}
use lib.ListN.{length-append}
use Rattle.text_report.proofs.Lengths.{byte_length, written}
use Rattle.text_report.proofs.byte_field.Goals as goal

pub returns : goal.returns
returns c =
    written (rw c.from.ensures at c.field.ensures) (simp length-append (omega (arith, byte_length c.args.n c.ranges.n.fits)))
