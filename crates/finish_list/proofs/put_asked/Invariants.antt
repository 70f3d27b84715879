use Prim.Native.Nat.{◌+◌}
use mathlib.Core.List.{◌++◌}
use lib.ListN.{get_or, length}
use Rattle.model_steps.specs.declared.Step.TheVariants.{Deliver}
use Rattle.text_report.specs.Report.{end}
use Rattle.text_report.proofs.Each.{Put}
use Rattle.text_step.specs.Step.{text}
use Rattle.finish_list.specs.Longest.{longest_deliver}
use Rattle.finish_list.proofs.put_asked.Given as goal

abbrev pub invariant-loop-a : goal.invariant-loop-a
invariant-loop-a l = Put (length l.asked) longest_deliver (λ k. text (Deliver (l.first + get_or l.asked k 0)) ++ end) l.initial.page l.page l.a-index
