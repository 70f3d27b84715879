-- What is printed says what was to be printed.
use mathlib.Core.Path.{◌∙◌, ap}
use lib.ListN.{length}
use lib.Seq.{drop-append_seam}
use Rattle.text_ascii.specs.Hex.{hex, hex_number, update_digits}
use Rattle.text_ascii.proofs.Hexes.{hex_length, hex_number_lem}
use Rattle.text_report.specs.Claims.{UpdateIsPrinted}

pub update_is_printed : UpdateIsPrinted
update_is_printed key u h =
    let digits = drop-append_seam key (hex update_digits u) in
    (ap length digits ∙ hex_length update_digits u, ap (hex_number 0) digits ∙ hex_number_lem update_digits u h)
