use mathlib.Core.Path.{ap, sym, ◌∙◌}
use native.Mathlib.Omega.{arith}
use Rattle.log_entry.proofs.InsideLaws.{inside_process, inside_store}
use Rattle.log_core.specs.declared.Entered.{Entered}
use Rattle.log_core.proofs.EnterLaws.{answer_at, enter_outside, place_inside}
use Rattle.log_core.proofs.Log.answer_to.Goals as goal

pub returns-then-outside : goal.returns-then-outside
returns-then-outside c = ap (λ (t : Entered). t.answer) (enter_outside c.args.self c.args.e (sym c.outside.ensures ∙ c.if-outside.true))

pub bounds-self-store : goal.bounds-self-store
bounds-self-store c = omega (arith, c.from-store.ensures, inside_store c.args.self.stores c.args.e (sym c.outside.ensures ∙ c.if-outside.false))

pub bounds-self-process : goal.bounds-self-process
bounds-self-process c = omega (arith, c.from-process.ensures, inside_process c.args.self.stores c.args.e (sym c.outside.ensures ∙ c.if-outside.false))

pub returns : goal.returns
returns c = rw (c.from-store.ensures, c.from-process.ensures) at c.refusal.ensures ∙ answer_at c.args.self c.args.e c.row_place-tx.ensures

pub bounds-self-tx : goal.bounds-self-tx
bounds-self-tx c = place_inside c.args.self.stores c.args.e (sym c.outside.ensures ∙ c.if-outside.false) c.row_place-tx.ensures
