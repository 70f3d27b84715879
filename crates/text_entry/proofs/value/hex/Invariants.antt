use Prim.Native.Nat.{◌<◌, ◌-◌, ◌^◌}
use mathlib.Core.Path.{◌≡◌}
use Rattle.text_entry.specs.Read.{read_hex}
use Rattle.text_entry.proofs.value.hex.Given as goal

abbrev pub invariant-loop : goal.invariant-loop
invariant-loop l = (l.number < 16 ^ l.counter) × (read_hex l.fn.count 0 l.fn.rest ≡ read_hex (l.fn.count - l.counter) l.number l.rest)
