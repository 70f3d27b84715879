use mathlib.Core.Bool.{false}
use mathlib.Core.Path.{◌≡◌}
use lib.ListN.{length, take}
use Rattle.text_entry.specs.Table.{any_beyond}
use Rattle.text_entry.proofs.decimals.bytes.Given as goal

abbrev pub invariant-loop-i : goal.invariant-loop-i
invariant-loop-i g l = (length l.bytes ≡ l.i-end) × (take l.i l.bytes ≡ take l.i l.fn.numbers) × (any_beyond (take l.i l.fn.numbers) ≡ false)
