-- Reading a line of a kind of step, field by field.
use Rattle.std.specs.Prelude.{ℕ, suc, Bool, true, false, ◌&&◌, not, cond, List, [], ◌∷◌, eqb, length, drop}
use Rattle.std.proofs.Math.Option.{Option, none, some}
use Rattle.text_ascii.specs.Bytes.{begins}
use Rattle.text_ascii.specs.Decimal.{is_digit, grown, begins_digit}
use Rattle.text_ascii.specs.Hex.{is_hex_digit, hex_grown}
use Rattle.text_entry.specs.Fields.{Form, in_decimal, in_hex, in_hex_or, in_words, Presence, always, optional, absent, Field, keyed, Kind, name_text}

-- what a line begins with: whether it reads, its value, and the bytes after it
pub record Part : Type 0 where
  pub readable : Bool
  pub value : ℕ
  pub rest : List ℕ

abbrev pub part : ℕ → List ℕ → Part
part v rest = record { readable = true; value = v; rest = rest }

abbrev pub unreadable : Part
unreadable = record { readable = false; value = 0; rest = [] }

-- all digits in front, after the number n
unfoldable pub read_digits : ℕ → List ℕ → Part
read_digits n [] = part n []
read_digits n (c ∷ s) = cond (is_digit c) (read_digits (grown n c) s) (part n (c ∷ s))

-- a 0 with a digit after it
abbrev pub leading_zero : List ℕ → Bool
leading_zero [] = false
leading_zero (c ∷ s) = eqb c 48 && begins_digit s

-- a decimal: one digit at least, and no leading zero
unfoldable pub read_decimal : List ℕ → Part
read_decimal s = cond (begins_digit s && not (leading_zero s)) (read_digits 0 s) unreadable

-- k hexadecimal digits, after the number n
unfoldable pub read_hex : ℕ → ℕ → List ℕ → Part
read_hex ℕ.zero n s = part n s
read_hex (suc k) n [] = unreadable
read_hex (suc k) n (c ∷ s) = cond (is_hex_digit c) (read_hex k (hex_grown n c) s) unreadable

-- the part, or else another where it does not read
abbrev pub or_part : Part → Part → Part
or_part p other = cond p.readable p other

-- the word, which has this index, or else another part
abbrev pub word_or : List ℕ → ℕ → List ℕ → Part → Part
word_or w i s other = cond (begins s w) (part i (drop (length w) s)) other

-- one of the words, the first having the index i
unfoldable pub read_word : ℕ → List (List ℕ) → List ℕ → Part
read_word i [] s = unreadable
read_word i (w ∷ ws) s = word_or w i s (read_word (suc i) ws s)

unfoldable pub read_value : Form → List ℕ → Part
read_value in_decimal s = read_decimal s
read_value (in_hex digits) s = read_hex digits 0 s
read_value (in_hex_or digits others) s = or_part (read_hex digits 0 s) (read_hex others 0 s)
read_value (in_words words) s = read_word 0 words s

-- after what was read before: these bytes
unfoldable pub after : List ℕ → Part → Part
after w p = cond (p.readable && begins p.rest w) (part 0 (drop (length w) p.rest)) unreadable

abbrev pub value_after : Form → Part → Part
value_after f p = cond p.readable (read_value f p.rest) unreadable

-- after what was read before: the key, and behind it a value
abbrev pub keyed_value : List ℕ → Form → Part → Part
keyed_value key form p = value_after form (after (keyed key) p)

-- after what was read before: nothing, which means this value
abbrev pub without : ℕ → Part → Part
without n p = record { readable = p.readable; value = n; rest = p.rest }

-- where a line may be without the field, it is without it if the key does not come next
abbrev pub read_in : Presence → List ℕ → Form → Part → Part
read_in always key form p = keyed_value key form p
read_in (optional n) key form p = cond (after (keyed key) p).readable (keyed_value key form p) (without n p)
read_in (absent n) key form p = without n p

-- after what was read before: the field
abbrev pub read_field : Field → Part → Part
read_field f p = read_in f.presence f.key f.form p

abbrev pub is_end : List ℕ → Bool
is_end [] = true
is_end (c ∷ s) = false

abbrev pub with : ℕ → Option (List ℕ) → Option (List ℕ)
with v none = none
with v (some vs) = some (v ∷ vs)

-- the values of the fields, with which the line ends
unfoldable pub read_fields : List Field → Part → Option (List ℕ)
read_fields [] p = cond (p.readable && is_end p.rest) (some []) none
read_fields (f ∷ fs) p = with (read_field f p).value (read_fields fs (read_field f p))

-- the values of a line of this kind
unfoldable pub read_kind : Kind → List ℕ → Option (List ℕ)
read_kind k s = read_fields k.fields (after (name_text k) (part 0 s))
