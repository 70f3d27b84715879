-- "Each line begins with the bytes do= followed by the step; fields are key=value, one space
-- between, in this order, no leading zeros in decimals." How the kinds of steps are written, each
-- by the list of its fields.
use Rattle.std.specs.Prelude.{ℕ, List, [], ◌∷◌, ◌++◌, get_or}
use Rattle.text_ascii.specs.Bytes.{ascii}
use Rattle.text_ascii.specs.Decimal.{decimal}
use Rattle.text_ascii.specs.Hex.{hex}

-- how a field's value is written: in decimal; in a count of lower-case hexadecimal digits; in a
-- count of them where a line with another count is still read; as one of these words, the value
-- being its index
pub data Form : Type 0 where
  in_decimal : Form
  in_hex : ℕ → Form
  in_hex_or : ℕ → ℕ → Form
  in_words : List (List ℕ) → Form

-- whether a field stands in a line: always; or a line may be without it and then means this value;
-- or it is without it and means this value
pub data Presence : Type 0 where
  always : Presence
  optional : ℕ → Presence
  absent : ℕ → Presence

pub record Field : Type 0 where
  pub key : List ℕ
  pub form : Form
  pub presence : Presence

abbrev pub field_in : Presence → List ℕ → Form → Field
field_in p k f = record { key = k; form = f; presence = p }

-- a field that stands in every line
abbrev pub field : List ℕ → Form → Field
field k f = field_in always k f

-- a kind of step: its name, and its fields in their order
pub record Kind : Type 0 where
  pub name : List ℕ
  pub fields : List Field

abbrev pub kind : List ℕ → List Field → Kind
kind n fs = record { name = n; fields = fs }

unfoldable pub value_text : Form → ℕ → List ℕ
value_text in_decimal n = decimal n
value_text (in_hex digits) n = hex digits n
value_text (in_hex_or digits others) n = hex digits n
value_text (in_words words) n = get_or words n []

-- a key, as it stands before its value
abbrev pub keyed : List ℕ → List ℕ
keyed key = ascii " " ++ key ++ ascii "="

-- what stands before a field's value
abbrev pub key_text : Field → List ℕ
key_text f = keyed f.key

-- a field's text, where the field is written
abbrev pub shown_in : Presence → List ℕ → List ℕ
shown_in always t = t
shown_in (optional n) t = t
shown_in (absent n) t = []

-- a field with its value
abbrev pub field_text : Field → ℕ → List ℕ
field_text f v = shown_in f.presence (key_text f ++ value_text f.form v)

-- the fields with their values
unfoldable pub fields_text : List Field → List ℕ → List ℕ
fields_text [] vs = []
fields_text (f ∷ fs) [] = []
fields_text (f ∷ fs) (v ∷ vs) = field_text f v ++ fields_text fs vs

-- a step's name, as a line begins with it
abbrev pub named : List ℕ → List ℕ
named name = ascii "do=" ++ name

-- what stands before a step's fields
abbrev pub name_text : Kind → List ℕ
name_text k = named k.name

-- the line of a step of this kind with these values
unfoldable pub line_text : Kind → List ℕ → List ℕ
line_text k vs = name_text k ++ fields_text k.fields vs
