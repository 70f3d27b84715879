-- The claims on the two meanings of a line: `text` writes a step, `read_step` and `reading` read a
-- line. A take or a vote is written in one way and read in several.
use Rattle.std.specs.Prelude.{ℕ, ◌≤◌, true, false, List, ◌≡◌, Ok, Err}
use Rattle.std.proofs.Math.Option.{some}
use Rattle.model_steps.specs.declared.Step.{Step}
use Rattle.model_steps.specs.Limits.{outside_step}
use Rattle.text_ascii.specs.Decimal.{byte_numbers}
use Rattle.text_entry.specs.declared.Unread.TheVariants.{Unreadable, Outside}
use Rattle.text_entry.specs.Entry.{Known, Way}
use Rattle.text_step.specs.Step.{HasText, HasTextIn, read_step, reading, text, text_in}

-- The line is the text of the step, to the byte, in a way that the step has a text in. Of a take or
-- a vote: "A line without it means turn 1": with its turn, or without where that is 1. "Lines with
-- eight digits are still read and mean the same number": with sixteen digits of its update, or with
-- eight where the number has at most 32 bits.
pub record IsText (l : List ℕ) (s : Step) : Type 0 where
  pub way : Way
  pub known : Known way
  pub line : l ≡ text_in way s
  pub has_text : HasTextIn way s

-- The text of a step reads back as that step, whatever the size of its numbers.
abbrev pub TextReadsBack : Type 0
TextReadsBack = (s : Step) → HasText s → read_step (text s) ≡ some s

-- A line reads as a step exactly if it is a text of that step, to the byte.
abbrev pub ReadsExactly : Type 0
ReadsExactly = (l : List ℕ) (s : Step) → (read_step l ≡ some s → IsText l s) × (IsText l s → read_step l ≡ some s)

-- A text of a step within the limits is read as that step. n acceptors count, no more than a byte
-- holds.
abbrev pub TextWithinLimitsRead : Type 0
TextWithinLimitsRead = (n : ℕ) → n ≤ byte_numbers → (l : List ℕ) (s : Step) → IsText l s → outside_step n s ≡ false → reading l ≡ Ok s

-- A line read as a step is a text of that step, to the byte.
abbrev pub ReadLineIsText : Type 0
ReadLineIsText = (l : List ℕ) (s : Step) → reading l ≡ Ok s → IsText l s

-- A line answered `Err Outside` is a text of a step with natural numbers of any size, one of them
-- outside its limits.
abbrev pub OutsideLineIsText : Type 0
OutsideLineIsText = (l : List ℕ) → reading l ≡ Err Outside → (s : Step) × IsText l s × ((n : ℕ) → n ≤ byte_numbers → outside_step n s ≡ true)

-- A line is `Err Unreadable` only if it is a text of no step.
abbrev pub UnreadableIsNoText : Type 0
UnreadableIsNoText = (l : List ℕ) → reading l ≡ Err Unreadable → (s : Step) → IsText l s → ⊥
