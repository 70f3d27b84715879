use mathlib.Core.Path.{refl, sym, ◌∙◌, ap}
use native.Mathlib.Omega.{arith}
use lib.ListN.{take}
use lib.ListN.{length-set}
use Rattle.std.proofs.lemmas.List.{length-replicate}
use Rattle.text_entry.specs.Parts.{whole}
use Rattle.text_entry.specs.Seen.{seen}
use Rattle.text_entry.proofs.DecimalLaws.{behind_none, decimal_more, decimal_stops, decimals_done}
use Rattle.text_entry.proofs.Parts.{ends_is}
use Rattle.text_entry.proofs.decimals.numbers.Goals as goal

pub loop-i-init : goal.loop-i-init
loop-i-init g c = (length-replicate _ _, behind_none _)

pub returns-in_err-number : goal.returns-in_err-number
returns-in_err-number g c =
    rw c.from_residual.ensures
    (sym (ap whole (c.loop-i.invariant.1 ∙ decimal_stops c.args.keys.now c.loop-i.i c.loop-i.rest.now _ (omega arith) (take c.loop-i.i c.loop-i.numbers) (sym (ap seen c.in_err-number.was) ∙ c.decimal.ensures))))

pub loop-i-preserved : goal.loop-i-preserved
loop-i-preserved g c = (
  length-set _ _ _ ∙ c.loop-i.invariant.0,
  c.loop-i.invariant.1
      ∙ decimal_more c.args.keys.now c.loop-i.i c.loop-i.rest.now _ (omega arith) c.loop-i.numbers c.in_ok-number.number c.in_ok-number.behind.now (omega arith) (sym (ap seen c.in_ok-number.was) ∙ c.decimal.ensures),
)

pub returns-then-is_empty : goal.returns-then-is_empty
returns-then-is_empty g c =
    sym
    (
    ap whole c.loop-i.invariant.1
    ∙ decimals_done c.args.keys.now c.loop-i.i c.loop-i.rest.now c.loop-i.numbers (omega arith) (omega arith)
    ∙ rw (sym (ends_is c.loop-i.rest.now), sym c.is_empty.ensures, c.if-is_empty.true) refl
    )

pub returns-else-is_empty : goal.returns-else-is_empty
returns-else-is_empty g c =
    sym
    (
    ap whole c.loop-i.invariant.1
    ∙ decimals_done c.args.keys.now c.loop-i.i c.loop-i.rest.now c.loop-i.numbers (omega arith) (omega arith)
    ∙ rw (sym (ends_is c.loop-i.rest.now), sym c.is_empty.ensures, c.if-is_empty.false) refl
    )
