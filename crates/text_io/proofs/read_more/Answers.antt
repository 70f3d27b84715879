use Rattle.std.specs.Prelude.{refl, take}
use Rattle.text_io.proofs.read_more.Goals as goal

pub returns-clause-given : goal.returns-clause-given
returns-clause-given g c =
    let p = c.read_piece-got in
    (record { piece = take p.result p.new.buffer; fed = c.feed.ensures; count = refl; bytes = p.ensures.piece.1 }, p.ensures.bytes)
