use Rattle.std.proofs.Common.{length, take, ◌≡◌, ◌≤◌}
use Rattle.log_votes.specs.Scan.{set_of}
use Rattle.log_votes.proofs.sets.set_of.Given as goal

abbrev pub invariant-loop-i : goal.invariant-loop-i
invariant-loop-i g l =
    length l.items ≤ 32 → l.set ≡ set_of (g.S.Test.passing l.test) (take l.i l.items)
