use native.Mathlib.Omega.{arith}
use Prim.Native.Nat.{◌+◌, ◌-◌}
use mathlib.Core.Path.{sym, ◌∙◌, ap}
use Rattle.text_entry.specs.Read.{read_value}
use Rattle.text_entry.specs.Seen.{found}
use Rattle.text_entry.proofs.Digits.{hex_end, hex_fits, hex_grown_lem, hex_more, hex_other, hex_small}
use Rattle.text_entry.proofs.value.hex.Goals as goal

pub returns-in_err-digit : goal.returns-in_err-digit
unfolding read_value
returns-in_err-digit c =
    rw c.from_residual.ensures (sym (c.loop.invariant.1 ∙ hex_other (c.args.count - c.loop.counter) c.loop.number c.loop.rest.now (omega arith) (sym c.hex_digit.ensures ∙ ap found c.in_err-digit.was)))

pub overflow_mul-number : goal.overflow_mul-number
overflow_mul-number c =
    let g = hex_fits _ _ (omega arith) (hex_grown_lem c.loop.counter c.loop.number 0 c.loop.invariant.0 (omega arith)) in
    omega arith

pub overflow_add-number : goal.overflow_add-number
overflow_add-number c =
    let h = hex_small c.in_ok-digit.digit c.loop.rest.now c.in_ok-digit.behind.now (sym c.hex_digit.ensures ∙ ap found c.in_ok-digit.was) in
    let g = hex_fits _ _ (omega arith) (hex_grown_lem c.loop.counter c.loop.number c.in_ok-digit.digit c.loop.invariant.0 h) in
    omega arith

pub loop-preserved : goal.loop-preserved
loop-preserved c =
    let h = sym c.hex_digit.ensures ∙ ap found c.in_ok-digit.was in (
      hex_grown_lem c.loop.counter c.loop.number c.in_ok-digit.digit c.loop.invariant.0 (hex_small _ c.loop.rest.now c.in_ok-digit.behind.now h),
      c.loop.invariant.1
          ∙ hex_more (c.args.count - (c.loop.counter + 1)) (c.args.count - c.loop.counter) c.loop.number c.in_ok-digit.digit c.loop.rest.now c.in_ok-digit.behind.now (omega arith) h,
    )

pub returns : goal.returns
unfolding read_value
returns c =
    sym (c.loop.invariant.1 ∙ hex_end (c.args.count - c.loop.counter) c.loop.number c.loop.rest.now (omega arith))
