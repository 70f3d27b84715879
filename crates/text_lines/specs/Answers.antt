-- The answers to lines, in their order.
use Rattle.std.specs.Prelude.{ℕ, ◌+◌, cond, List, ltb, replicate, set, take}
use Rattle.text_lines.specs.declared.Answers.{Answers}
use Rattle.text_lines.specs.Lines.{answered_lines, max_lines}

abbrev pub no_answers : Answers
no_answers = record { count = 0; answers = replicate answered_lines 0 }

-- the answers with one more; there is room for line 1,001
unfoldable pub noted : Answers → ℕ → Answers
noted a n = cond (ltb max_lines a.count) a (record { count = a.count + 1; answers = set a.answers a.count n })

abbrev pub answers_of : Answers → List ℕ
answers_of a = take a.count a.answers
