-- The values at the front of a line, read one after the other as the fields of a kind ask, and what
-- is left behind them.
use Rattle.std.specs.Prelude.{ℕ, min, cond, List, [], ◌∷◌, eqb, Option, None, Some}
use Rattle.log_entry.specs.declared.Entry.{Entry}
use Rattle.log_entry.specs.declared.Request.TheVariants as request
use Rattle.log_entry.specs.Entry.{say_of, take_entry}
use Rattle.text_ascii.specs.Decimal.{byte_numbers}
use Rattle.text_entry.specs.declared.EntryParts.{EntryParts}
use Rattle.text_entry.specs.declared.EntryParts.TheVariants.{Take, Vote}
use Rattle.text_entry.specs.Fields.{Field, Form, Kind, in_decimal, in_hex, in_hex_or, in_words, name_text}
use Rattle.text_entry.specs.Kinds.{take_kind, vote_kind}
use Rattle.text_entry.specs.Read.{Part, after, is_end, part, read_field}
use Rattle.text_entry.specs.Table.{at}

-- what the reader counts of a value: decimals up to the first number that no byte holds
abbrev pub counted : Form → ℕ → ℕ
counted in_decimal v = min v byte_numbers
counted (in_hex k) v = v
counted (in_hex_or k j) v = v
counted (in_words ws) v = v

abbrev pub counted_part : Form → Part → Part
counted_part f p = record { readable = p.readable; value = counted f p.value; rest = p.rest }

abbrev pub then_front : ℕ → Option (List ℕ × List ℕ) → Option (List ℕ × List ℕ)
then_front v None = None
then_front v (Some x) = Some (v ∷ x.0, x.1)

-- the values of the fields and what is left behind them, each value being what the next field reads
-- as after the one before, as the reader counts it; nothing if a field does not read
unfoldable pub front : List Field → Part → Option (List ℕ × List ℕ)
front [] p = cond p.readable (Some ([], p.rest)) None
front (f ∷ fs) p = then_front (counted f.form (read_field f p).value) (front fs (read_field f p))

-- the values, if nothing is left behind them
abbrev pub whole : Option (List ℕ × List ℕ) → Option (List ℕ)
whole None = None
whole (Some x) = cond (is_end x.1) (Some x.0) None

-- the values at the front of a line of this kind
abbrev pub kind_front : Kind → List ℕ → Option (List ℕ × List ℕ)
kind_front k s = front k.fields (after (name_text k) (part 0 s))

-- the parts of an entry that the values make
abbrev pub take_parts : List ℕ → EntryParts
take_parts vs = Take (at vs 0) (at vs 1) (at vs 2)

abbrev pub vote_parts : List ℕ → EntryParts
vote_parts vs = Vote (at vs 0) (at vs 1) (at vs 2) (at vs 3) (at vs 4) (at vs 5) (say_of (eqb (at vs 6) 1)) (at vs 7)

abbrev pub made_parts : (List ℕ → EntryParts) → Option (List ℕ × List ℕ) → Option (EntryParts × List ℕ)
made_parts make None = None
made_parts make (Some x) = Some (make x.0, x.1)

-- what the reader finds of a line as one of this kind
abbrev pub kind_parts : (List ℕ → EntryParts) → Kind → List ℕ → Option (EntryParts × List ℕ)
kind_parts make k s = made_parts make (kind_front k s)

abbrev pub or_parts : Option (EntryParts × List ℕ) → Option (EntryParts × List ℕ) → Option (EntryParts × List ℕ)
or_parts None other = other
or_parts (Some x) other = Some x

-- of a line as one of a take, or else as one of a vote
abbrev pub either_parts : List ℕ → Option (EntryParts × List ℕ)
either_parts s = or_parts (kind_parts take_parts take_kind s) (kind_parts vote_parts vote_kind s)

-- the entry of these values
abbrev pub entry_of : EntryParts → Entry
entry_of (Take p t s) = take_entry p t s
entry_of (Vote p t b s x l y u) = record { process = p; turn = t; store = s; request = request.Vote b x l y u }
