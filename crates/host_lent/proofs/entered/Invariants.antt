use Rattle.std.proofs.Common.{◌≡◌, ◌-◌, cond, eqb, length, get_or, drop}
use Rattle.log_entry.specs.Limits.{transactions}
use Rattle.log_entry.specs.Refusal.{accepted}
use Rattle.log_core.specs.Group.{running_set}
use Rattle.log_core.specs.Log.{opened}
use Rattle.host_lent.specs.Lent.{log_after}
use Rattle.host_lent.proofs.LentLaws.{log_of}
use Rattle.host_lent.proofs.SummaryLaws.{AllOf}
use Rattle.host_lent.proofs.entered.Given as goal

-- What is left of the records, entered into the log of the turn, is the whole; and what stands
-- beside the log.
abbrev pub invariant-loop-record : goal.invariant-loop-record
invariant-loop-record l = record {
  accepted_so_far : l.answer ≡ accepted;
  same_whole : log_after (opened l.stores) l.records
      ≡ log_after (log_of l.stores l.rows l.holders l.turns l.takers l.latest l.groups l.remembered) (drop l.record-index l.records);
  all_rows : length l.rows ≡ transactions;
  running_kept : l.running ≡ running_set l.rows;
  summaries_kept : AllOf l.summaries l.rows;
  all_groups : length l.remembered ≡ transactions;
  last_kept : l.last ≡ cond (eqb l.groups 0) 0 (get_or l.remembered (l.groups - 1) 0);
}
