use mathlib.Core.Path.{◌≡◌}
use lib.ListN.{drop, length, take}
use Rattle.text_entry.specs.Decimals.{decimal_fields}
use Rattle.text_entry.specs.Parts.{front}
use Rattle.text_entry.specs.Read.{part}
use Rattle.text_entry.proofs.DecimalLaws.{behind}
use Rattle.text_entry.proofs.decimals.numbers.Given as goal

abbrev pub invariant-loop-i : goal.invariant-loop-i
invariant-loop-i g l =
    (length l.numbers ≡ l.i-end)
    × (front (decimal_fields l.fn.keys) (part 0 l.fn.line) ≡ behind (take l.i l.numbers) (front (decimal_fields (drop l.i l.fn.keys)) (part 0 l.rest)))
