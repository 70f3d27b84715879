-- The first i messages are sent.
use Rattle.std.proofs.Common.{◌≡◌, ◌+◌}
use Rattle.model_protocol.specs.Send.{copy_of, send_to_all}
use Rattle.world_engine.proofs.send.send.Given as goal

abbrev pub invariant-loop-i : goal.invariant-loop-i
invariant-loop-i l = record { sent : l.w ≡ send_to_all l.initial.w l.i (copy_of l.m); counted : l.w.sent ≡ l.initial.w.sent + l.i }
