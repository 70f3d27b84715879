use mathlib.Core.Path.{sym, ◌∙◌}
use native.Mathlib.Omega.{arith}
use Rattle.log_entry.proofs.AnswerLaws.{err_accepted, err_refused}
use Rattle.log_entry.proofs.InsideLaws.{inside_process, inside_store}
use Rattle.log_core.proofs.DecideLaws.{begins_group}
use Rattle.log_core.proofs.EnterLaws.{enter_outside, enter_refused, enter_stored, parts_at, place_inside, remembered_last}
use Rattle.log_core.proofs.Log.enter.Goals as goal

pub returns-then-outside : goal.returns-then-outside
returns-then-outside c = enter_outside c.args.self c.args.e (sym c.outside.ensures ∙ c.if-outside.true)

pub bounds-self-tx : goal.bounds-self-tx
bounds-self-tx c = place_inside c.args.self.stores c.args.e (sym c.outside.ensures ∙ c.if-outside.false) c.row_place-tx.ensures

pub bounds-self-store : goal.bounds-self-store
bounds-self-store c = omega (arith, c.from-store.ensures, inside_store c.args.self.stores c.args.e (sym c.outside.ensures ∙ c.if-outside.false))

pub bounds-self-process : goal.bounds-self-process
bounds-self-process c = omega (arith, c.from-process.ensures, inside_process c.args.self.stores c.args.e (sym c.outside.ensures ∙ c.if-outside.false))

pub returns-then-is_err : goal.returns-then-is_err
returns-then-is_err c =
    enter_refused c.args.self c.args.e c.row_place-tx.result c.remembered_in.result c.row_place-tx.ensures (remembered_last c.args.self c.remembered_in.ensures) c.decide-f.result (rw (c.from-store.ensures, c.from-process.ensures) at c.decide-f.ensures) (err_refused c.decide-f.result.answer (sym c.is_err.ensures.value ∙ c.if-is_err.true))

pub returns : goal.returns
returns c =
    enter_stored c.args.self c.args.e c.row_place-tx.result c.remembered_in.result c.row_place-tx.ensures (remembered_last c.args.self c.remembered_in.ensures) c.decide-f.result (rw (c.from-store.ensures, c.from-process.ensures) at c.decide-f.ensures) (err_accepted c.decide-f.result.answer (sym c.is_err.ensures.value ∙ c.if-is_err.false)) c.stored.ensures

pub stored-requires-clause-group_nonzero : goal.stored-requires-clause-group_nonzero
stored-requires-clause-group_nonzero c =
    begins_group (parts_at c.args.self c.args.e c.row_place-tx.result c.remembered_in.result) c.args.e c.decide-f.result (rw (c.from-store.ensures, c.from-process.ensures) at c.decide-f.ensures)
