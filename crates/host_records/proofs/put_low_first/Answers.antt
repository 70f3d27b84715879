use Rattle.std.proofs.Common.{sym, ap, take, ◌∙◌}
use Rattle.log_entry.specs.Limits.{update_bytes}
use Rattle.host_records.proofs.LowFirst.{sets_out, put_with_room, word_bytes}
use Rattle.host_records.specs.Record.{low_first}
use Rattle.host_records.proofs.put_low_first.Goals as goal

pub returns-then-at-out : goal.returns-then-at-out
returns-then-at-out c =
    put_with_room c.args.out.now c.args.at c.min-count.result (low_first update_bytes c.args.u) c.copy_from_slice.new.self c.if-at-out.true c.min-count.ensures
    (c.copy_from_slice.ensures.after ∙ ap (take c.min-count.result) (c.to_le_bytes.ensures ∙ word_bytes c.args.u))

pub returns-else-at-out : goal.returns-else-at-out
returns-else-at-out c = sym (sets_out c.args.out.now c.args.at (low_first update_bytes c.args.u) (λ _. c.if-at-out.false))
