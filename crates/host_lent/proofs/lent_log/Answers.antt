use Rattle.std.proofs.Common.{ap, arith, length, sym, take, ◌/◌, ◌≤◌, ◌∙◌}
use mathlib.Core.Logic.{⊎_elim}
use Rattle.log_entry.specs.Refusal.{outside_limits}
use Rattle.log_core.specs.declared.Log.{Log}
use Rattle.log_core.specs.Enter.{answered}
use Rattle.log_core.specs.Log.{opened}
use Rattle.host_records.specs.Record.{record_size}
use Rattle.host_lent.proofs.LentLaws.{chunks_in, count_beyond, count_within, no_such_limit}
use Rattle.host_lent.specs.Lent.{log_after}
use Rattle.host_lent.proofs.lent_log.Goals as goal

pub returns-then-no_limit : goal.returns-then-no_limit
returns-then-no_limit c =
    ap (λ (l : Log). answered l outside_limits) c.empty.ensures
    ∙ ⊎_elim (λ h. no_such_limit c.args.stores c.args.lent.now c.args.count (sym c.no_limit.ensures ∙ h))
    (λ h. count_beyond c.args.stores c.args.lent.now c.args.count (sym c.no_limit.ensures ∙ h.0) (omega (arith, h.1, c.as_chunks.ensures.front_len)))
    c.then-no_limit.either

pub returns : goal.returns
returns c =
    let within : c.args.count ≤ length c.args.lent.now / record_size = omega (arith, c.as_chunks.ensures.front_len) in
    c.entered.ensures
    ∙ ap (log_after (opened c.args.stores)) (ap (take c.args.count) c.as_chunks.ensures.front ∙ chunks_in c.args.count (length c.args.lent.now / record_size) c.args.lent.now within)
    ∙ count_within c.args.stores c.args.lent.now c.args.count (sym c.no_limit.ensures ∙ c.if-no_limit.false) within
