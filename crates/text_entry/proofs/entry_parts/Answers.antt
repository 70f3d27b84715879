use Rattle.std.proofs.Common.{of_calls}
use Rattle.text_entry.specs.Kinds.{take_kind, vote_kind}
use Rattle.text_entry.specs.Parts.{kind_parts, take_parts, vote_parts}
use Rattle.text_entry.proofs.Entries.{or_found}
use Rattle.text_entry.proofs.entry_parts.Goals as goal

pub returns : goal.returns
returns c =
    or_found c.take_parts.result c.or_else.result (kind_parts take_parts take_kind c.args.line.now) (kind_parts vote_parts vote_kind c.args.line.now) c.take_parts.ensures c.or_else.ensures (λ e. search of_calls)
