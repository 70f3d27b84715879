use mathlib.Core.Path.{sym, ◌∙◌}
use Rattle.std.specs.Prelude.{Err}
use Rattle.text_entry.specs.declared.Unread.TheVariants.{Outside, Unreadable}
use Rattle.text_entry.proofs.NotRead.{other_is, outside_is}
use Rattle.plain_run.proofs.Entering.{held_long, held_short, usual_line}
use Rattle.plain_run.proofs.command_at.Goals as goal

pub returns-in_default : goal.returns-in_default
returns-in_default c l =
    let usual_long = c.if-count-ge-MAX_LINES.false in
    held_long l c.args.line.now c.in_default.ensures.long
    ∙ usual_line l c.args.line.now c.args.count usual_long

pub returns-then-is_outside : goal.returns-then-is_outside
returns-then-is_outside c l =
    let usual_outside = c.if-count-ge-MAX_LINES.false in
    let outside = outside_is c.read_entry-reading.result (sym c.is_outside.ensures ∙ c.if-is_outside.true) in
    held_short l c.args.line.now c.in-Some.ensures.long c.in-Some.bytes.now c.in-Some.ensures.bytes (Err Outside) (sym outside ∙ c.read_entry-reading.ensures)
    ∙ usual_line l c.args.line.now c.args.count usual_outside

pub returns-in_default-reading : goal.returns-in_default-reading
returns-in_default-reading c l =
    let usual_other = c.if-count-ge-MAX_LINES.false in
    let other = other_is c.read_entry-reading.result (sym c.is_outside.ensures ∙ c.if-is_outside.false) c.in_default-reading.not-Ok in
    held_short l c.args.line.now c.in-Some.ensures.long c.in-Some.bytes.now c.in-Some.ensures.bytes (Err Unreadable) (sym other ∙ c.read_entry-reading.ensures)
    ∙ usual_line l c.args.line.now c.args.count usual_other

pub returns : goal.returns
returns c l =
    let usual_read = c.if-count-ge-MAX_LINES.false in
    held_short l c.args.line.now c.in-Some.ensures.long c.in-Some.bytes.now c.in-Some.ensures.bytes _ (sym c.in-Ok.is ∙ c.read_entry-reading.ensures)
    ∙ usual_line l c.args.line.now c.args.count usual_read
