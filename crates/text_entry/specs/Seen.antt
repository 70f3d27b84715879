-- What the reader's answers stand for.
use Rattle.std.specs.Prelude.{ℕ, min, Bool, true, false, List, [], ◌∷◌, Option, None, Some}
use Rattle.std.specs.Borrow.{Bor}
use Rattle.log_entry.specs.declared.Say.{Say}
use Rattle.log_entry.specs.Entry.{is_commit}
use Rattle.text_ascii.specs.Decimal.{byte_numbers, digit_of, is_digit}
use Rattle.text_ascii.specs.Hex.{hex_digit_of, is_hex_digit}
use Rattle.text_entry.specs.Entry.{say_of}
use Rattle.text_entry.specs.Read.{Part, part, unreadable}

-- a value and what is left of the line behind it, or nothing
abbrev pub seen : Option (ℕ × Bor (List ℕ)) → Part
seen None = unreadable
seen (Some p) = part p.0 p.1.now

-- what is left of the line alone
abbrev pub left : Option (Bor (List ℕ)) → Part
left None = unreadable
left (Some rest) = part 0 rest.now

-- the same of what a vote says
abbrev pub said : Option (Say × Bor (List ℕ)) → Part
said None = unreadable
said (Some p) = part (say_of (is_commit p.0)) p.1.now

-- a part whose number is counted no further than the first number that no byte holds
abbrev pub capped : Part → Part
capped p = record { readable = p.readable; value = min p.value byte_numbers; rest = p.rest }

-- the same where it is not read as a part
abbrev pub found : {A : Type 0} → Option (A × Bor (List ℕ)) → Option (A × List ℕ)
found None = None
found (Some p) = Some (p.0, p.1.now)

-- a number and what is left behind it, if there is one
abbrev pub found_if : Bool → ℕ → List ℕ → Option (ℕ × List ℕ)
found_if true n s = Some (n, s)
found_if false n s = None

-- a digit in front and what is left behind it
abbrev pub first_digit : List ℕ → Option (ℕ × List ℕ)
first_digit [] = None
first_digit (c ∷ s) = found_if (is_digit c) (digit_of c) s

-- the same of a hexadecimal digit
abbrev pub first_hex_digit : List ℕ → Option (ℕ × List ℕ)
first_hex_digit [] = None
first_hex_digit (c ∷ s) = found_if (is_hex_digit c) (hex_digit_of c) s
