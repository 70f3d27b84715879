use lib.ListN.{take}
use Rattle.text_ascii.specs.Page.{Puts}
use Rattle.text_ascii.proofs.Page.word.Given as goal

abbrev pub invariant-loop-b : goal.invariant-loop-b
invariant-loop-b l = Puts l.initial.self l.self (take l.b-index l.bytes)
