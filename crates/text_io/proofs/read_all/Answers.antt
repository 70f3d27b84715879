use Rattle.std.proofs.Common.{arith, inl, inr, refl, sym, ◌∙◌}
use Rattle.text_lines.specs.Feed.{state_of}
use Rattle.text_io.proofs.Pieces.{given_more_of, given_none_of}
use Rattle.text_io.proofs.read_all.Goals as goal
use Rattle.text_io.proofs.read_all.Goals.{then-none_left-via-then-none_left, then-none_left-via-else-none_left+then-is_over}

pub loop-init : goal.loop-init
loop-init g c =
    let S = g.S.Session in
    (refl, given_none_of S.over S.step S.first (state_of S.state c.fresh.result) _ c.fresh.ensures)

-- once a piece more was read
pub returns-then-none_left-clause-given : goal.returns-then-none_left-clause-given
returns-then-none_left-clause-given g c =
    let S = g.S.Session in
    let l = c.loop.reading in
    let m = c.read_more.new.reading in
    let r = given_more_of S.over S.step S.first (state_of S.state l.input) (state_of S.state m.input) l.pieces l.last m.pieces m.last _ _ _ c.loop.invariant.1 c.read_more.ensures.given in (
      record {
        reading = r.0;
        ended = elim c.then-none_left.branch [
          | then-none_left-via-then-none_left w ↦ inl w.if-none_left.true
          | then-none_left-via-else-none_left+then-is_over w ↦ inr (inl (sym w.is_over.ensures ∙ w.if-is_over.true))
        ];
      },
      r.1,
    )

pub returns-then-none_left-clause-read : goal.returns-then-none_left-clause-read
returns-then-none_left-clause-read g c = (returns-then-none_left-clause-given g c).0

pub loop-preserved : goal.loop-preserved
loop-preserved g c =
    let S = g.S.Session in
    let l = c.loop.reading in
    let m = c.read_more.new.reading in
    (omega (arith, c.read_more.ensures.more.count, c.loop.invariant.0), given_more_of S.over S.step S.first (state_of S.state l.input) (state_of S.state m.input) l.pieces l.last m.pieces m.last _ _ _ c.loop.invariant.1 c.read_more.ensures.given)

pub returns-clause-given : goal.returns-clause-given
returns-clause-given g c =
    let l = c.loop in
    (record { reading = l.invariant.1.0; ended = inr (inr (omega (arith, l.invariant.0))) }, l.invariant.1.1)
