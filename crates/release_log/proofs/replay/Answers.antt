use Rattle.std.proofs.Common.{◌≤◌, List, length, ap, sym, ◌∙◌, arith}
use Rattle.std.proofs.lemmas.Result.{err_from_is_err_and}
use Rattle.log_entry.specs.Limits.{transactions}
use Rattle.log_core.specs.declared.Entered.{Entered}
use Rattle.log_core.specs.declared.Replayed.{Replayed}
use Rattle.log_core.specs.Replay.{replay_rows}
use Rattle.log_core.proofs.Lengths.{rows_length}
use Rattle.log_core.proofs.ReplayLength.{replay_length}
use Rattle.log_core.proofs.ReplayedRows.{replay_count, replay_taken}
use Rattle.host_lent.proofs.LentLaws.{limit_byte}
use Rattle.release_log.proofs.QueryLaws.{numbers_outside, records_refused, value_placed}
use Rattle.release_log.specs.Query.{replay_value}
use Rattle.release_log.proofs.replay.Goals as goal
use Rattle.release_log.proofs.replay.Goals.{After-replay}

-- no more rows than transactions
few : (c : After-replay) → length (replay_rows c.lent_log-lent.result.log c.args.store) ≤ transactions
few c =
    let h = replay_length c.lent_log-lent.result.log c.args.store in
    let k = rows_length c.lent_log-lent.result.log _ c.lent_log-lent.type_inv.1.1.0 in
    omega arith

pub returns-in_err-lent : goal.returns-in_err-lent
returns-in_err-lent c =
    let p = err_from_is_err_and c.from_residual.result c.from_residual.ensures.1 in
    let w = records_refused _ _ c.lent_log-lent.ensures c.in_err-lent.was in
    record { value = rw (p.1, p.2) w.0; out_after = w.1 }

-- the limit is a byte
pub overflow_cast-stores : goal.overflow_cast-stores
overflow_cast-stores c =
    record { fits = limit_byte c.args.stores c.args.records.now c.args.count (ap (λ (t : Entered). t.answer) (sym c.lent_log-lent.ensures) ∙ c.in_ok-lent.was) }

pub returns-then-no_store : goal.returns-then-no_store
returns-then-no_store c =
    let w = numbers_outside _ _ c.lent_log-lent.ensures c.in_ok-lent.was (sym c.no_store.ensures ∙ c.if-no_store.true) in
    record { value = w.0; out_after = w.1 }

pub answer_rows-requires : goal.answer_rows-requires
answer_rows-requires c =
    let h = replay_count c.lent_log-lent.result.log c.args.store c.replay.ensures in
    let k = few (goal.at.answer_rows-requires c).After-replay in
    omega arith

pub returns : goal.returns
returns c =
    let w =
    value_placed _ _ c.lent_log-lent.ensures c.in_ok-lent.was (sym c.no_store.ensures ∙ c.if-no_store.false)
    (ap (λ (rs : List Replayed). replay_value rs)
    (replay_taken c.lent_log-lent.result.log c.args.store c.replay.ensures (few (goal.at.returns c).After-replay)
    ∙ ap (λ (t : Entered). replay_rows t.log c.args.store) c.lent_log-lent.ensures))
    (c.answer_rows.ensures.value, c.answer_rows.ensures.out_after) in
    record { value = w.0; out_after = w.1 }
