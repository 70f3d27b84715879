use Rattle.std.proofs.Common.{ℕ, [], ◌∷◌, ap, sym, ◌∙◌}
use Rattle.std.proofs.lemmas.Result.{err_from_is_err_and}
use Rattle.log_votes.specs.Outcome.{outcome_number}
use Rattle.log_core.specs.declared.Entered.{Entered}
use Rattle.log_core.specs.Log.{outcome_of}
use Rattle.host_lent.proofs.LentLaws.{limit_byte}
use Rattle.release_log.proofs.QueryLaws.{numbers_outside, records_refused, value_placed}
use Rattle.release_log.proofs.outcome.Goals as goal

pub returns-in_err-lent : goal.returns-in_err-lent
returns-in_err-lent c =
    let p = err_from_is_err_and c.from_residual.result c.from_residual.ensures.1 in
    let w = records_refused _ _ c.lent_log-lent.ensures c.in_err-lent.was in
    record { value = rw (p.1, p.2) w.0; out_after = w.1 }

-- the limit is a byte
pub overflow_cast-stores : goal.overflow_cast-stores
overflow_cast-stores c =
    record { fits = limit_byte c.args.stores c.args.records.now c.args.count (ap (λ (t : Entered). t.answer) (sym c.lent_log-lent.ensures) ∙ c.in_ok-lent.was) }

pub returns-then-no_transaction : goal.returns-then-no_transaction
returns-then-no_transaction c =
    let w = numbers_outside _ _ c.lent_log-lent.ensures c.in_ok-lent.was (sym c.no_transaction.ensures ∙ c.if-no_transaction.true) in
    record { value = w.0; out_after = w.1 }

pub returns : goal.returns
returns c =
    let w =
    value_placed _ _ c.lent_log-lent.ensures c.in_ok-lent.was (sym c.no_transaction.ensures ∙ c.if-no_transaction.false)
    (ap (λ (n : ℕ). n ∷ [])
    (c.number.ensures
    ∙ ap outcome_number c.outcome.ensures
    ∙ ap (λ (t : Entered). outcome_number (outcome_of t.log c.args.tx)) c.lent_log-lent.ensures))
    (c.answer_byte.ensures.value, c.answer_byte.ensures.out_after) in
    record { value = w.0; out_after = w.1 }
