use Rattle.world_coordinator.proofs.QueueLaws.{copied}
use Rattle.world_coordinator.proofs.queue.first_batch.Goals as goal

pub returns : goal.returns
returns c =
    copied c.args.queue c.as_slice-waiting.result.now c.copy_from_slice.new.self c.min-count.result c.no_entry-blank.result
    c.no_entry-blank.ensures c.as_slice-waiting.ensures c.copy_from_slice.ensures.after c.min-count.ensures
