use Rattle.std.proofs.Common.{of_calls}
use Rattle.text_ascii.specs.Hex.{earlier_digits, update_digits}
use Rattle.text_entry.proofs.Parts.{or_hex}
use Rattle.text_entry.proofs.value.update_digits.Goals as goal

pub returns : goal.returns
returns c = or_hex update_digits earlier_digits c.args.rest.now c.hex.result c.or_else.result c.hex.ensures c.or_else.ensures (λ e. search of_calls)
