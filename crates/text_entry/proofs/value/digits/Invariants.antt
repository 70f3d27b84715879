use Prim.Native.Nat.{◌≤◌}
use mathlib.Core.Path.{◌≡◌}
use lib.ListN.{length}
use Rattle.text_ascii.specs.Decimal.{byte_numbers}
use Rattle.text_entry.specs.Read.{read_digits}
use Rattle.text_entry.specs.Seen.{capped}
use Rattle.text_entry.proofs.value.digits.Given as goal

abbrev pub invariant-loop-digit : goal.invariant-loop-digit
invariant-loop-digit l = (l.number ≤ byte_numbers) × (capped (read_digits 0 l.initial.rest) ≡ capped (read_digits l.number l.rest))

abbrev pub decreases-loop-digit : goal.decreases-loop-digit
decreases-loop-digit l = length l.rest
