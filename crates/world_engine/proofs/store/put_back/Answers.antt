use Rattle.std.proofs.Common.{arith}
use Rattle.world_engine.proofs.StoreLaws.{all_put, anew_put, given_put, kept_put, learned_put, nothing_put, taken_put}
use Rattle.world_engine.proofs.store.put_back.Goals as goal

pub returns-in-Nothing : goal.returns-in-Nothing
returns-in-Nothing c =
    all_put c.args.w.now c.args.at c.args.from c.args.change.now _ _ _ _ _ _ c.from-c.ensures c.from-p.ensures
    (nothing_put c.args.w.now c.args.at c.args.from c.args.change.now c.in-Nothing.is)

pub returns-in-Learns : goal.returns-in-Learns
returns-in-Learns c =
    all_put c.args.w.now c.args.at c.args.from c.args.change.now _ _ _ _ _ _ c.from-c.ensures c.from-p.ensures
    (learned_put c.args.w.now c.args.at c.args.from c.args.change.now _ _ c.from-c.ensures c.from-p.ensures _ _ c.in-Learns.batch (omega arith) c.in-Learns.is c.learn_batch.ensures)

pub returns-in-GivesReplay : goal.returns-in-GivesReplay
returns-in-GivesReplay c =
    all_put c.args.w.now c.args.at c.args.from c.args.change.now _ _ _ _ _ _ c.from-c.ensures c.from-p.ensures
    (given_put c.args.w.now c.args.at c.args.from c.args.change.now _ _ c.from-c.ensures c.from-p.ensures _ _ _ _ (omega arith) c.in-GivesReplay.is c.from.ensures c.store_of.ensures c.replay.ensures)

pub returns-in-TakesReplay : goal.returns-in-TakesReplay
returns-in-TakesReplay c =
    all_put c.args.w.now c.args.at c.args.from c.args.change.now _ _ _ _ _ _ c.from-c.ensures c.from-p.ensures
    (taken_put c.args.w.now c.args.at c.args.from c.args.change.now _ _ c.from-c.ensures c.from-p.ensures _ (omega arith) c.in-TakesReplay.is)

pub returns-in-KeepsFollow : goal.returns-in-KeepsFollow
returns-in-KeepsFollow c =
    all_put c.args.w.now c.args.at c.args.from c.args.change.now _ _ _ _ _ _ c.from-c.ensures c.from-p.ensures
    (kept_put c.args.w.now c.args.at c.args.from c.args.change.now _ _ c.from-c.ensures c.from-p.ensures _ _ (omega arith) c.in-KeepsFollow.is c.keep_follow.ensures)

pub returns-in-StartsAnew : goal.returns-in-StartsAnew
returns-in-StartsAnew c =
    all_put c.args.w.now c.args.at c.args.from c.args.change.now _ _ _ _ _ _ c.from-c.ensures c.from-p.ensures
    (anew_put c.args.w.now c.args.at c.args.from c.args.change.now _ _ c.from-c.ensures c.from-p.ensures _ _ c.in-StartsAnew.is c.start_anew.ensures.restored c.start_anew.ensures.follows)
