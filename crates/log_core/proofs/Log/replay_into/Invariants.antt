use Prim.Native.Nat.{suc, ◌-◌}
use Rattle.log_core.specs.Replay.{replay_from}
use Rattle.log_core.proofs.ReplayLaws.{Filled, left}
use Rattle.log_core.proofs.Log.replay_into.Given as goal

abbrev pub invariant-loop-tx : goal.invariant-loop-tx
invariant-loop-tx l = Filled l.self l.store l.out (left l.store l.self.rows l.g (l.self.groups - l.g) l.tx)

abbrev pub invariant-loop-before : goal.invariant-loop-before
invariant-loop-before l = Filled l.self l.store l.out (replay_from l.store l.self.rows (suc l.before) (l.self.groups - l.before))
