use mathlib.Core.Path.{◌≡◌}
use lib.ListN.{drop}
use Rattle.log_core.specs.Refusal.{is_other}
use Rattle.log_votes.specs.Scan.{any_from}
use Rattle.log_core.proofs.refusal.holds_another.Given as goal

abbrev pub invariant-loop-s : goal.invariant-loop-s
invariant-loop-s l =
    any_from (is_other l.process l.store) 0 l.fn.holders ≡ any_from (is_other l.process l.store) l.s (drop l.s l.fn.holders)
