-- Lines whose fields are decimals.
use Rattle.std.specs.Prelude.{ℕ, cond, List, [], ◌∷◌, Result, Ok, Err}
use Rattle.std.specs.Borrow.{Bor}
use Rattle.std.proofs.Math.Option.{Option}
use Rattle.text_entry.specs.declared.Unread.{Unread}
use Rattle.text_entry.specs.declared.Unread.TheVariants.{Unreadable, Outside}
use Rattle.text_entry.specs.Fields.{Field, field, field_in, in_decimal, optional}
use Rattle.text_entry.specs.Table.{any_beyond, answer_of, no_byte}

abbrev pub decimal_field : List ℕ → Field
decimal_field key = field key in_decimal

-- a decimal that a line may be without; the line then means n
abbrev pub decimal_or : List ℕ → ℕ → Field
decimal_or key n = field_in (optional n) key in_decimal

-- fields with decimals, of these keys
abbrev pub decimal_fields : List (Bor (List ℕ)) → List Field
decimal_fields [] = []
decimal_fields (key ∷ keys) = decimal_field key.now ∷ decimal_fields keys

-- a number that is to be a byte
abbrev pub byte_of : ℕ → Result ℕ Unread
byte_of n = cond (no_byte n) (Err Outside) (Ok n)

-- what the reader answers to a line of decimals: they are to be bytes
abbrev pub bytes_of : Option (List ℕ) → Result (List ℕ) Unread
bytes_of = answer_of any_beyond Ok (Err Outside) (Err Unreadable)
