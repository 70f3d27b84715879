use native.Mathlib.Omega.{arith}
use Prim.Native.Nat.{◌+◌, ◌*◌, min}
use mathlib.Core.Path.{◌≡◌, sym, ◌∙◌, ap}
use Rattle.text_ascii.specs.Decimal.{byte_numbers}
use Rattle.text_entry.specs.Read.{part}
use Rattle.text_entry.specs.Seen.{capped, found}
use Rattle.text_entry.proofs.Digits.{digits_capped, digits_end, digits_more}
use Rattle.text_entry.proofs.value.digits.Goals as goal

pub loop-digit-preserved : goal.loop-digit-preserved
loop-digit-preserved c =
    let e : c.min-number.result ≡ min (c.loop-digit.number * 10 + c.in-Some.digit) byte_numbers = omega arith in (
      omega arith,
      c.loop-digit.invariant.1
          ∙ ap capped (digits_more c.loop-digit.number _ _ _ (sym c.digit.ensures ∙ ap found c.in-Some.is))
          ∙ digits_capped (c.loop-digit.number * 10 + c.in-Some.digit) c.min-number.result c.in-Some.behind.now (omega arith),
    )

pub returns : goal.returns
returns c =
    let e : min c.loop-digit.number byte_numbers ≡ c.loop-digit.number = omega arith in
    sym (c.loop-digit.invariant.1 ∙ ap capped (digits_end c.loop-digit.number c.loop-digit.rest.now (sym c.digit.ensures ∙ ap found c.in_default.is)) ∙ (λ j. part (e j) c.loop-digit.rest.now))
