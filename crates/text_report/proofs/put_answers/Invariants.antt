use Prim.Native.Nat.{suc}
use lib.ListN.{get_or, length}
use Rattle.text_lines.specs.Answers.{answers_of}
use Rattle.text_report.specs.Report.{step_line}
use Rattle.text_report.specs.Within.{longest_answer}
use Rattle.text_report.proofs.Each.{Put}
use Rattle.text_report.proofs.put_answers.Given as goal

abbrev pub invariant-loop-i : goal.invariant-loop-i
invariant-loop-i l =
    Put (length (answers_of l.answers)) longest_answer (λ j. step_line (suc j) (get_or (answers_of l.fn.answers) j 0)) l.initial.page l.page l.i
