-- The log is still to be fed the entries that are left.
use Rattle.std.proofs.Common.{◌≡◌, drop}
use Rattle.log_core.specs.Enter.{feed}
use Rattle.world_coordinator.proofs.learn.fed.Given as goal

abbrev pub invariant-loop-e : goal.invariant-loop-e
invariant-loop-e l = feed l.initial.log l.e-items ≡ feed l.log (drop l.e-index l.e-items)
