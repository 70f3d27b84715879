use Rattle.std.proofs.Common.{ℕ, [], ◌∷◌, ap, sym, ◌∙◌}
use Rattle.std.proofs.lemmas.Result.{err_from_is_err_and}
use Rattle.log_entry.proofs.Tests.{neither, or_left, or_right}
use Rattle.log_votes.specs.Involvement.{involvement_number}
use Rattle.log_core.specs.declared.Entered.{Entered}
use Rattle.log_core.specs.Log.{involvement_of}
use Rattle.host_lent.proofs.LentLaws.{limit_byte}
use Rattle.release_log.proofs.QueryLaws.{numbers_outside, records_refused, value_placed}
use Rattle.release_log.proofs.involvement.Goals as goal
use Rattle.release_log.proofs.involvement.Goals.{then-no_transaction-via-then-no_transaction, then-no_transaction-via-else-no_transaction+then-no_store}

pub returns-in_err-lent : goal.returns-in_err-lent
returns-in_err-lent c =
    let p = err_from_is_err_and c.from_residual.result c.from_residual.ensures.1 in
    let w = records_refused _ _ c.lent_log-lent.ensures c.in_err-lent.was in
    record { value = rw (p.1, p.2) w.0; out_after = w.1 }

-- the limit is a byte
pub overflow_cast-limit : goal.overflow_cast-limit
overflow_cast-limit c =
    record { fits = limit_byte c.args.stores c.args.records.now c.args.count (ap (λ (t : Entered). t.answer) (sym c.lent_log-lent.ensures) ∙ c.in_ok-lent.was) }

pub returns-then-no_transaction : goal.returns-then-no_transaction
returns-then-no_transaction c =
    let w = numbers_outside _ _ c.lent_log-lent.ensures c.in_ok-lent.was
    (elim c.then-no_transaction.branch [
      | then-no_transaction-via-then-no_transaction w ↦ or_left _ _ (sym c.no_transaction.ensures ∙ w.if-no_transaction.true)
      | then-no_transaction-via-else-no_transaction+then-no_store w ↦ or_right _ _ (sym w.no_store.ensures ∙ w.if-no_store.true)
    ]) in
    record { value = w.0; out_after = w.1 }

pub returns : goal.returns
returns c =
    let w =
    value_placed _ _ c.lent_log-lent.ensures c.in_ok-lent.was
    (neither _ _ (sym c.no_transaction.ensures ∙ c.if-no_transaction.false) (sym c.no_store.ensures ∙ c.if-no_store.false))
    (ap (λ (n : ℕ). n ∷ [])
    (c.number.ensures
    ∙ ap involvement_number c.involvement.ensures
    ∙ ap (λ (t : Entered). involvement_number (involvement_of t.log c.args.tx c.args.store)) c.lent_log-lent.ensures))
    (c.answer_byte.ensures.value, c.answer_byte.ensures.out_after) in
    record { value = w.0; out_after = w.1 }
