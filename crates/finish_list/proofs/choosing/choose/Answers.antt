use mathlib.Core.Path.{sym, subst, ◌∙◌}
use Rattle.finish_list.specs.Found.{ChoiceIs}
use Rattle.finish_list.proofs.ChoiceLaws.{allows_is, first_chosen, none_chosen}
use Rattle.finish_list.proofs.choosing.choose.Goals as goal

pub returns-then-not-allows : goal.returns-then-not-allows
returns-then-not-allows c =
    sym (none_chosen _ (sym (allows_is _ _ (c.as_slice.ensures ∙ c.up_below-up.ensures)) ∙ sym c.allows.ensures ∙ c.if-not-allows.true))

pub returns : goal.returns
returns c =
    subst (ChoiceIs c.first.result)
    (first_chosen _ (sym (allows_is _ _ (c.as_slice.ensures ∙ c.up_below-up.ensures)) ∙ sym c.allows.ensures ∙ c.if-not-allows.false))
    c.first.ensures
