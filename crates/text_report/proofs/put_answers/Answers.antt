use Prim.Native.Nat.{ℕ, suc}
use mathlib.Core.Path.{ap, ◌∙◌}
use native.Mathlib.Numerals.{add-one}
use native.Mathlib.Omega.{arith}
use lib.ListN.{get_or}
use Rattle.text_report.specs.Report.{step_line}
use Rattle.text_report.proofs.Each.{counted, none_put, put_all, put_more}
use Rattle.text_report.proofs.Texts.{answers_counted}
use Rattle.text_report.proofs.put_answers.Goals as goal

pub loop-i-init : goal.loop-i-init
loop-i-init c = none_put

pub loop-i-preserved : goal.loop-i-preserved
loop-i-preserved c =
    let all = answers_counted c.args.answers.now (omega arith) in
    put_more c.loop-i.invariant (omega (arith, all)) c.step_line.ensures
    (rw c.from.ensures (ap (λ (n : ℕ). step_line n (get_or c.args.answers.now.answers c.loop-i.i 0)) (add-one c.loop-i.i))
    ∙ counted (step_line (suc c.loop-i.i)) 0 c.args.answers.now.answers c.args.answers.now.count c.loop-i.i (omega arith))

pub returns : goal.returns
returns c =
    let all = answers_counted c.args.answers.now (omega arith) in
    put_all c.loop-i.invariant (omega (arith, all)) (omega (arith, all))
