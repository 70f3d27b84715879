use mathlib.Core.Path.{sym, ◌∙◌, ap}
use Rattle.text_entry.specs.Seen.{capped, found}
use Rattle.text_entry.proofs.Digits.{begins_is, decimal_digits, decimal_none, decimal_zero}
use Rattle.text_entry.proofs.value.decimal.Goals.{else-first-eq0-via-then-first-eq0+else-is_some, else-first-eq0-via-else-first-eq0}
use Rattle.text_entry.proofs.value.decimal.Goals as goal

pub returns-in_err-first : goal.returns-in_err-first
returns-in_err-first c = rw c.from_residual.ensures (ap capped (decimal_none _ (sym c.digit.ensures ∙ ap found c.in_err-first.was)))

pub returns-then-is_some : goal.returns-then-is_some
returns-then-is_some c =
    ap capped (decimal_zero c.in_ok-first.first c.args.rest.now c.in_ok-first.behind.now (sym c.digit.ensures ∙ ap found c.in_ok-first.was) c.if-first-eq0.true (sym (begins_is _ c.in_ok-first.behind.now c.digit-then-first-eq0.ensures) ∙ sym c.is_some.ensures ∙ c.if-is_some.true))

pub returns : goal.returns
returns c =
    c.digits.ensures
    ∙ ap capped (decimal_digits c.in_ok-first.first c.args.rest.now c.in_ok-first.behind.now (sym c.digit.ensures ∙ ap found c.in_ok-first.was) (elim c.else-first-eq0.branch [
      | else-first-eq0-via-then-first-eq0+else-is_some w ↦ λ z. sym (begins_is _ c.in_ok-first.behind.now w.digit-then-first-eq0.ensures) ∙ sym w.is_some.ensures ∙ w.if-is_some.false
      | else-first-eq0-via-else-first-eq0 w ↦ λ z. absurd (w.if-first-eq0.false z)
    ]))
