use mathlib.Core.Path.{ap, sym, ◌∙◌}
use native.Mathlib.Omega.{arith}
use Rattle.log_entry.specs.Entry.{in_by_of, in_is_take}
use Rattle.log_entry.proofs.InsideLaws.{inside_vote}
use Rattle.log_core.proofs.DecideLaws.{answer_outside, answer_take, answer_vote}
use Rattle.log_core.proofs.Parts.refusal.Goals as goal

pub returns-then-outside : goal.returns-then-outside
returns-then-outside c = answer_outside c.args.self c.args.e (sym c.outside.ensures ∙ c.if-outside.true)

pub returns-in-Take : goal.returns-in-Take
returns-in-Take c =
    c.take_refusal.ensures ∙ answer_take c.args.self c.args.e (sym c.outside.ensures ∙ c.if-outside.false) (ap in_is_take c.in-Take.is)

pub bounds-self-by-in-Vote : goal.bounds-self-by-in-Vote
bounds-self-by-in-Vote c =
    let inside = inside_vote c.args.self.stores c.args.e (sym c.outside.ensures ∙ c.if-outside.false) (ap in_is_take c.in-Vote.is) in
    omega (arith, ap in_by_of c.in-Vote.is, c.from-by.ensures, inside.by)

pub bounds-self-by : goal.bounds-self-by
bounds-self-by c =
    let inside = inside_vote c.args.self.stores c.args.e (sym c.outside.ensures ∙ c.if-outside.false) (ap in_is_take c.in-Vote.is) in
    omega (arith, ap in_by_of c.in-Vote.is, c.from-by.ensures, inside.by)

pub returns-in-Vote : goal.returns-in-Vote
returns-in-Vote c =
    c.vote_refusal.ensures
    ∙ answer_vote c.args.self c.args.e (sym c.outside.ensures ∙ c.if-outside.false) (ap in_is_take c.in-Vote.is) (ap in_by_of c.in-Vote.is ∙ sym c.from-by.ensures)
