use mathlib.Core.Path.{◌≡◌}
use Prim.Native.Nat.{◌≤◌}
use lib.ListN.{length}
use Rattle.model_finish.specs.Such.{up_below}
use Rattle.finish_list.proofs.acceptors.up_below.Given as goal

-- those below a are found
abbrev pub invariant-loop-a : goal.invariant-loop-a
invariant-loop-a l = record { found : l.up ≡ up_below l.d l.a; fewer : length l.up ≤ l.a }
