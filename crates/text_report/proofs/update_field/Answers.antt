use native.Mathlib.Omega.{arith}
use Rattle.text_ascii.proofs.Hexes.{hex_length}
use Rattle.text_ascii.specs.Hex.{update_digits}
use Rattle.text_report.proofs.Lengths.{within_more, written}
use Rattle.text_report.proofs.update_field.Goals as goal

pub returns : goal.returns
returns c =
    within_more
    (written c.word.ensures (omega arith))
    (written c.hex.ensures (omega (arith, hex_length update_digits c.args.update)))
