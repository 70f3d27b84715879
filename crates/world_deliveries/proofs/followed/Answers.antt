use Rattle.std.proofs.Common.{◌<◌, ◌^◌, ◌∙◌, arith, sym}
use Rattle.log_entry.specs.Limits.{transactions}
use Rattle.world_deliveries.proofs.FollowLaws.{taken_inside}
use Rattle.world_deliveries.proofs.followed.Goals as goal

pub following-requires : goal.following-requires
following-requires c =
    let small : c.args.h.running < 2 ^ transactions = omega arith in
    taken_inside c.args.h c.args.store c.args.tx small (sym c.takes_follow.ensures ∙ c.if-takes_follow.true)
