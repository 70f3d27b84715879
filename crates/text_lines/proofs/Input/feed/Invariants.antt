use Rattle.std.proofs.Common.{◌≡◌, drop}
use Rattle.text_lines.specs.Feed.{fed, state_of}
use Rattle.text_lines.proofs.Input.feed.Given as goal

abbrev pub invariant-loop-byte : goal.invariant-loop-byte
invariant-loop-byte g l = let S = g.S.Session in fed S.over S.step (state_of S.state l.initial.self) l.piece ≡ fed S.over S.step (state_of S.state l.self) (drop l.byte-index l.piece)
