use mathlib.Core.Path.{sym}
use Rattle.std.proofs.lemmas.List.{take_more}
use Rattle.text_ascii.proofs.Writing.{puts_more, puts_as}
use Rattle.text_ascii.proofs.Page.word.Goals as goal

pub loop-b-preserved : goal.loop-b-preserved
loop-b-preserved c =
    puts_as (sym (take_more c.args.bytes.now c.loop-b.b-index 0 c.loop-b-test.true)) (puts_more c.loop-b.invariant c.byte.ensures)
