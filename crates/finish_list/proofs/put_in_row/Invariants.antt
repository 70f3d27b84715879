use Prim.Native.Nat.{◌+◌}
use mathlib.Core.List.{◌++◌}
use Rattle.model_steps.specs.declared.Step.TheVariants.{Deliver}
use Rattle.text_report.specs.Report.{end}
use Rattle.text_report.proofs.Each.{Put}
use Rattle.text_step.specs.Step.{text}
use Rattle.finish_list.specs.Longest.{longest_deliver}
use Rattle.finish_list.proofs.put_in_row.Given as goal

abbrev pub invariant-loop-k : goal.invariant-loop-k
invariant-loop-k l = Put l.m longest_deliver (λ k. text (Deliver (l.first + k)) ++ end) l.initial.page l.page l.k
