use mathlib.Core.Path.{sym, ◌∙◌}
use Rattle.std.specs.Prelude.{Err}
use Rattle.text_entry.specs.declared.Unread.TheVariants.{Outside, Unreadable}
use Rattle.text_entry.proofs.NotRead.{other_is, outside_is}
use Rattle.world_input.proofs.Held.{held_long, held_short}
use Rattle.world_input.proofs.command_of.Goals as goal

pub returns-in_default : goal.returns-in_default
returns-in_default c = held_long c.args.line.now c.in_default.ensures.long

pub returns-then-is_outside : goal.returns-then-is_outside
returns-then-is_outside c =
    let outside = outside_is c.read_step-reading.result (sym c.is_outside.ensures ∙ c.if-is_outside.true) in
    held_short c.args.line.now c.in-Some.ensures.long c.in-Some.bytes.now c.in-Some.ensures.bytes (Err Outside) (sym outside ∙ c.read_step-reading.ensures)

pub returns-in_default-reading : goal.returns-in_default-reading
returns-in_default-reading c =
    let other = other_is c.read_step-reading.result (sym c.is_outside.ensures ∙ c.if-is_outside.false) c.in_default-reading.not-Ok in
    held_short c.args.line.now c.in-Some.ensures.long c.in-Some.bytes.now c.in-Some.ensures.bytes (Err Unreadable) (sym other ∙ c.read_step-reading.ensures)

pub returns : goal.returns
returns c =
    held_short c.args.line.now c.in-Some.ensures.long c.in-Some.bytes.now c.in-Some.ensures.bytes _ (sym c.in-Ok.is ∙ c.read_step-reading.ensures)
