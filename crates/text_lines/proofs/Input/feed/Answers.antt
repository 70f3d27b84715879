use Rattle.std.proofs.Common.{sym, ◌∙◌}
use Rattle.text_lines.specs.Feed.{state_of}
use Rattle.text_lines.proofs.Stream.{fed_over}
use Rattle.text_lines.proofs.Input.feed.Goals as goal

pub returns-then-is_over : goal.returns-then-is_over
returns-then-is_over g c =
    let S = g.S.Session in
    let l = c.loop-byte in
    sym (l.invariant ∙ fed_over S.over S.step (state_of S.state l.self) _ (sym c.is_over.ensures ∙ c.if-is_over.true))
