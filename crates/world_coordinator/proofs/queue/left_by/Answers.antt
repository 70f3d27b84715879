use Rattle.std.proofs.Common.{arith}
use Rattle.world_coordinator.proofs.QueueLaws.{left_done}
use Rattle.world_coordinator.proofs.queue.left_by.Goals as goal

pub returns : goal.returns
returns c =
    left_done c.args.queue c.args.batch c.as_slice-e-items.result.now c.queue.entries c.queue.count c.queue.e-index
    c.no_entry-blank.result c.no_entry-blank.ensures c.as_slice-e-items.ensures (omega arith) c.queue.invariant.stored c.queue.invariant.counted
