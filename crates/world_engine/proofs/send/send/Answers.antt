use Rattle.std.proofs.Common.{arith}
use Rattle.world_engine.proofs.SendLaws.{none_sent}
use Rattle.world_engine.proofs.send.send.Goals as goal

pub loop-i-init : goal.loop-i-init
loop-i-init c = record { sent = none_sent _ _; counted = omega arith }
