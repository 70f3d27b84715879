-- What stays of the entries looked at so far was stored, in order; none of the learned entries
-- looked at so far is equal.
use Rattle.std.proofs.Common.{◌≡◌, ◌+◌, ◌≤◌, drop, length}
use Rattle.std.proofs.lemmas.List.Edits.{sets}
use Rattle.model_protocol.specs.Batch.{entries_of}
use Rattle.model_protocol.specs.Queue.{is_in, without}
use Rattle.world_coordinator.proofs.queue.left_by.Given as goal

abbrev pub invariant-loop-f : goal.invariant-loop-f
invariant-loop-f l = is_in l.e (entries_of l.fn.batch) ≡ is_in l.e (drop l.f-index l.f-items)

abbrev pub invariant-queue : goal.invariant-queue
invariant-queue l =
    let left = without (drop l.e-index l.e-items) (entries_of l.fn.batch) in
    let all = without l.e-items (entries_of l.fn.batch) in
    record { stored : sets l.entries l.count left ≡ sets l.initial.entries 0 all; counted : l.count + length left ≡ length all; room : l.count ≤ l.e-index }
