-- The claims on the two meanings of a line: `text` writes an entry, `read_entry` and `reading` read
-- a line. An entry is written in one way and read in several.
use Rattle.std.specs.Prelude.{ℕ, true, false, List, ◌≡◌, Ok, Err}
use Rattle.std.proofs.Math.Option.{some}
use Rattle.log_entry.specs.declared.Entry.{Entry}
use Rattle.log_entry.specs.Entry.{outside}
use Rattle.text_entry.specs.declared.Unread.TheVariants.{Unreadable, Outside}
use Rattle.text_entry.specs.Entry.{HasText, HasTextIn, Known, Way, read_entry, reading, text, text_in}

-- The line is the text of the entry, to the byte, in a way that the entry has a text in. "A line
-- without it means turn 1": with its turn, or without where that is 1. "Lines with eight digits are
-- still read and mean the same number": with sixteen digits of its update, or with eight where the
-- number has at most 32 bits.
pub record IsText (s : List ℕ) (e : Entry) : Type 0 where
  pub way : Way
  pub known : Known way
  pub line : s ≡ text_in way e
  pub has_text : HasTextIn way e

-- The text of an entry reads back as that entry, whatever the size of its numbers.
abbrev pub TextReadsBack : Type 0
TextReadsBack = (e : Entry) → HasText e → read_entry (text e) ≡ some e

-- A line reads as an entry exactly if it is a text of that entry, to the byte.
abbrev pub ReadsExactly : Type 0
ReadsExactly = (s : List ℕ) (e : Entry) → (read_entry s ≡ some e → IsText s e) × (IsText s e → read_entry s ≡ some e)

-- A text of an entry within the limits of some log is read as that entry.
abbrev pub TextWithinLimitsRead : Type 0
TextWithinLimitsRead = (n : ℕ) (s : List ℕ) (e : Entry) → IsText s e → outside n e ≡ false → reading s ≡ Ok e

-- A line read as an entry is a text of that entry, to the byte.
abbrev pub ReadLineIsText : Type 0
ReadLineIsText = (s : List ℕ) (e : Entry) → reading s ≡ Ok e → IsText s e

-- A line answered `Err Outside` is a text of an entry with natural numbers of any size, one of them
-- outside its limits, of whichever log.
abbrev pub OutsideLineIsText : Type 0
OutsideLineIsText = (s : List ℕ) → reading s ≡ Err Outside → (e : Entry) × IsText s e × ((n : ℕ) → outside n e ≡ true)

-- A line is `Err Unreadable` only if it is a text of no entry.
abbrev pub UnreadableIsNoText : Type 0
UnreadableIsNoText = (s : List ℕ) → reading s ≡ Err Unreadable → (e : Entry) → IsText s e → ⊥
