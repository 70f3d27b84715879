use Rattle.std.proofs.Common.{◌≡◌}
use Rattle.text_lines.specs.Feed.{state_of}
use Rattle.text_io.proofs.Pieces.{GivenOf}
use Rattle.text_io.proofs.read_all.Given as goal

-- what was read so far is what the reader gave
abbrev pub invariant-loop : goal.invariant-loop
invariant-loop g l =
    let S = g.S.Session in
    let remaining = g.R.Read.remaining in
    (l.reading.pieces ≡ l.counter) × GivenOf S.over S.step S.first (state_of S.state l.reading.input) l.reading.pieces l.reading.last (remaining l.initial.reader) (remaining l.reader)
