use mathlib.Core.Path.{refl, sym, subst, ◌∙◌}
use native.Mathlib.Omega.{arith}
use Rattle.finish_list.specs.Found.{BallotIs}
use Rattle.finish_list.proofs.ChoiceLaws.{ballot_is, ballot_of_down, ballot_without_work}
use Rattle.std.proofs.lemmas.List.{get_or_default}
use Rattle.model_protocol.specs.World.{fresh_coordinator}
use Rattle.finish_list.proofs.choosing.ballot_of.Goals as goal

pub returns-then-is_down : goal.returns-then-is_down
returns-then-is_down c = sym (ballot_of_down _ _ (sym c.is_down.ensures ∙ c.if-is_down.true))

pub returns-then-not-has_work : goal.returns-then-not-has_work
returns-then-not-has_work c =
    sym (ballot_without_work c.args.w.now c.args.coord
    (get_or_default c.args.w.now.coordinators c.args.coord _ fresh_coordinator (omega arith))
    (sym c.is_down.ensures ∙ c.if-is_down.false)
    (rw c.from.ensures at (sym c.has_work.ensures ∙ c.if-not-has_work.true)))

pub returns : goal.returns
returns c =
    subst (BallotIs c.lowest_own.result)
    (ballot_is c.args.w.now c.args.coord
    (get_or_default c.args.w.now.coordinators c.args.coord _ fresh_coordinator (omega arith))
    (sym c.is_down.ensures ∙ c.if-is_down.false)
    (rw c.from.ensures at (sym c.has_work.ensures ∙ c.if-not-has_work.false))
    (rw c.from.ensures at c.highest_promised-promised.ensures)
    (rw c.from.ensures at c.max.ensures)
    refl)
    c.lowest_own.ensures
