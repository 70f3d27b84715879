use mathlib.Core.Path.{sym, ◌∙◌, ap}
use Rattle.text_entry.specs.Seen.{left}
use Rattle.text_entry.proofs.DecimalLaws.{after_name, as_many, unnamed}
use Rattle.text_entry.proofs.decimals.decimals.Goals as goal

pub returns-in_default : goal.returns-in_default
returns-in_default g c = as_many _ _ _ c.if-keys.false (unnamed c.args.name.now c.args.keys.now c.args.line.now (sym (ap left c.in_default.is) ∙ c.named.ensures))

pub returns-in-Some-numbers : goal.returns-in-Some-numbers
returns-in-Some-numbers g c =
    as_many _ _ _ c.if-keys.false
    (c.bytes.ensures
    ∙ after_name c.args.name.now c.args.keys.now c.args.line.now c.in-Some.rest.now _ (sym (ap left c.in-Some.is) ∙ c.named.ensures) (sym c.in-Some-numbers.is ∙ c.numbers-numbers.ensures))

pub returns-in-None : goal.returns-in-None
returns-in-None g c =
    as_many _ _ _ c.if-keys.false
    (after_name c.args.name.now c.args.keys.now c.args.line.now c.in-Some.rest.now _ (sym (ap left c.in-Some.is) ∙ c.named.ensures) (sym c.in-None.is ∙ c.numbers-numbers.ensures))
