-- The stores before s are not the process's.
use Rattle.std.proofs.Common.{◌≡◌, drop}
use Rattle.model_protocol.specs.Step.{held_from}
use Rattle.world_requests.proofs.held_store.Given as goal

abbrev pub invariant-loop-s : goal.invariant-loop-s
invariant-loop-s l = held_from l.process 0 l.holders ≡ held_from l.process l.s (drop l.s l.holders)
