-- Answers as a list.
use Prim.Native.Nat.{ℕ, ◌≤◌, ◌+◌}
use native.Mathlib.Omega.{arith}
use native.Mathlib.Numerals.{add-one}
use mathlib.Core.List.{[], ◌∷◌, ◌++◌}
use mathlib.Core.Path.{◌≡◌, ◌∙◌, ap}
use lib.ListN.{length, take, set, length-set}
use lib.Seq.{take-suc-set, length-take-le}
use borrow.Author.Tests.{le-ltb}
use Rattle.text_lines.specs.declared.Answers.{Answers}
use Rattle.text_lines.specs.Answers.{answers_of, noted}
use Rattle.text_lines.specs.Lines.{answered_lines, max_lines}

-- there is room for the answers that are counted
pub record Sound (a : Answers) : Type 0 where
  pub room : length a.answers ≡ answered_lines
  pub count : a.count ≤ answered_lines

pub counts : (a : Answers) → Sound a → length (answers_of a) ≡ a.count
counts a h = length-take-le a.count a.answers (omega (arith, h.room, h.count))

pub noted_answers : (a : Answers) (n : ℕ) → Sound a → a.count ≤ max_lines → answers_of (noted a n) ≡ answers_of a ++ n ∷ []
unfolding noted
noted_answers a n h k =
    rw (le-ltb max_lines a.count k)
    (ap (λ (m : ℕ). take m (set a.answers a.count n)) (add-one a.count) ∙ take-suc-set a.answers a.count n (omega (arith, h.room)))

pub noted_sound : (a : Answers) (n : ℕ) → Sound a → a.count ≤ max_lines → Sound (noted a n)
unfolding noted
noted_sound a n h k =
    rw (le-ltb max_lines a.count k) (record { room = length-set a.answers a.count n ∙ h.room; count = omega arith })

pub noted_count : (a : Answers) (n : ℕ) → a.count ≤ max_lines → (noted a n).count ≡ a.count + 1
unfolding noted
noted_count a n k = rw (le-ltb max_lines a.count k)
