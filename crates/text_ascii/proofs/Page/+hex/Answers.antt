use mathlib.Core.List.{[], ◌∷◌, ◌++◌}
use mathlib.Core.Path.{sym, ◌∙◌, ap}
use Prim.Native.Nat.{ℕ, ◌-◌, ◌/◌}
use Rattle.text_ascii.specs.Hex.{hex as hex_bytes}
use Rattle.text_ascii.proofs.Hexes.{hex_none, hex_more}
use Rattle.text_ascii.proofs.Writing.{puts_nothing, puts_more, puts_as}
use Rattle.text_ascii.proofs.Page.+hex.Goals as goal

pub returns-then-digits-eq0 : goal.returns-then-digits-eq0
returns-then-digits-eq0 t c = puts_as (sym (hex_none c.args.digits c.args.n c.if-digits-eq0.true)) (puts_nothing _)

pub returns : goal.returns
returns t c =
    puts_as
    (ap (λ (b : ℕ). hex_bytes (c.args.digits - 1) (c.args.n / 16) ++ b ∷ []) c.hex_digit.ensures ∙ sym (hex_more c.args.digits c.args.n c.if-digits-eq0.false))
    (puts_more c.hex.ensures c.byte.ensures)
