use mathlib.Core.Path.{sym, ◌∙◌}
use native.Mathlib.Omega.{arith}
use Rattle.finish_list.proofs.BallotLaws.{found_ballot, none_own, own_found, own_next}
use Rattle.finish_list.proofs.ballots.lowest_own.Goals as goal

pub returns-then-owner-coord : goal.returns-then-owner-coord
returns-then-owner-coord c =
    found_ballot (own_found _ c.loop-b.b c.loop-b-test.true c.owner.ensures c.if-owner-coord.true ∙ sym c.loop-b.invariant) (omega arith)

pub loop-b-preserved : goal.loop-b-preserved
loop-b-preserved c = c.loop-b.invariant ∙ own_next _ c.loop-b.b c.loop-b-test.true c.owner.ensures c.if-owner-coord.false

pub returns : goal.returns
returns c = c.loop-b.invariant ∙ sym (none_own _ _ c.loop-b-test.false)
