use mathlib.Core.Path.{sym, ◌∙◌}
use Rattle.text_entry.proofs.Entries.{read_none, read_to}
use Rattle.text_entry.proofs.read_entry.Goals as goal

pub returns-in_default : goal.returns-in_default
returns-in_default c = read_none c.args.line.now c.entry_parts.result c.entry_parts.ensures c.in_default.is

pub returns-then-not-is_empty : goal.returns-then-not-is_empty
returns-then-not-is_empty c = read_to c.args.line.now c.entry_parts.result c.entry_parts.ensures (c.in-Some.parts, c.in-Some.rest) c.in-Some.is (sym c.if-not-is_empty.true ∙ c.is_empty.ensures)

pub returns : goal.returns
returns c = c.entry.ensures ∙ read_to c.args.line.now c.entry_parts.result c.entry_parts.ensures (c.in-Some.parts, c.in-Some.rest) c.in-Some.is (sym c.if-not-is_empty.false ∙ c.is_empty.ensures)
