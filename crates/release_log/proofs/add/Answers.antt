use Rattle.std.proofs.Common.{ap, sym, ◌∙◌}
use Rattle.std.proofs.lemmas.Result.{err_from_is_err_and}
use Rattle.log_core.specs.declared.Entered.{Entered}
use Rattle.host_lent.proofs.LentLaws.{count_fits, limit_byte}
use Rattle.release_log.proofs.AddLaws.{entry_added, numbers_refused, records_refused}
use Rattle.release_log.proofs.add.Goals as goal

pub returns-in_err-lent : goal.returns-in_err-lent
returns-in_err-lent c =
    let p = err_from_is_err_and c.from_residual.result c.from_residual.ensures.1 in
    let w = records_refused c.args.stores c.args.records.now c.args.count c.args.numbers c.lent_log-lent.ensures c.in_err-lent.was in
    record { value = rw (p.1, p.2) w.0; records_after = w.1 }

-- the limit is a byte
pub overflow_cast-stores : goal.overflow_cast-stores
overflow_cast-stores c =
    record { fits = limit_byte c.args.stores c.args.records.now c.args.count (ap (λ (t : Entered). t.answer) (sym c.lent_log-lent.ensures) ∙ c.in_ok-lent.was) }

pub returns-in_err-e : goal.returns-in_err-e
returns-in_err-e c =
    let p = err_from_is_err_and c.from_residual-in_err-e.result c.from_residual-in_err-e.ensures.1 in
    let w = numbers_refused c.args.stores c.args.records.now c.args.count c.args.numbers c.lent_log-lent.ensures c.in_ok-lent.was (sym c.in_err-e.was ∙ c.read.ensures) in
    record { value = rw (p.1, p.2) w.0; records_after = w.1 }

pub add_entry-requires : goal.add_entry-requires
add_entry-requires c =
    count_fits c.args.stores c.args.records.now c.args.count (ap (λ (t : Entered). t.answer) (sym c.lent_log-lent.ensures) ∙ c.in_ok-lent.was)

pub returns : goal.returns
returns c =
    let w = entry_added c.args.stores c.args.records.now c.args.count c.args.numbers c.lent_log-lent.ensures c.in_ok-lent.was (sym c.in_ok-e.was ∙ c.read.ensures)
    c.add_entry.ensures.value c.add_entry.ensures.records_after in
    record { value = w.0; records_after = w.1 }
