-- The texts of values, fields and lines: which bytes they are.
use Prim.Native.Nat.{ℕ, suc, ◌<◌, ◌^◌}
use mathlib.Core.Bool.{Bool, true, false, ◌&&◌, false≢true}
use mathlib.Core.List.{List, [], ◌∷◌, ◌++◌}
use mathlib.Core.Logic.{◌⊎◌, inl, inr}
use mathlib.Core.Path.{◌≡◌, refl, ◌∙◌, ap}
use lib.ListN.{length, get_or}
use Rattle.text_ascii.specs.Decimal.{decimal}
use Rattle.text_ascii.specs.Hex.{hex}
use Rattle.text_ascii.proofs.Words.{both_l, both_r}
use Rattle.text_entry.specs.Fields.{Form, in_decimal, in_hex, in_hex_or, in_words, Presence, always, optional, absent, Field, field, field_in, keyed, shown_in, value_text, field_text, fields_text, Kind, kind, name_text, line_text}

-- ---- texts

-- the bytes are the value in so many digits
abbrev pub InDigits : ℕ → ℕ → List ℕ → Type 0
InDigits k v t = (v < 16 ^ k) × (t ≡ hex k v)

-- the bytes are a text of the value
abbrev pub IsValue : Form → ℕ → List ℕ → Type 0
IsValue in_decimal v t = t ≡ decimal v
IsValue (in_hex k) v t = InDigits k v t
IsValue (in_hex_or k j) v t = InDigits k v t ⊎ InDigits j v t
IsValue (in_words ws) v t = (v < length ws) × (t ≡ get_or ws v [])

-- the bytes are the key, and behind it a text of the value
pub record Stands (key : List ℕ) (form : Form) (v : ℕ) (t : List ℕ) : Type 0 where
  pub value : List ℕ
  pub is_value : IsValue form v value
  pub text : t ≡ keyed key ++ value

-- there are no bytes, and the value is the one that is then meant
abbrev pub Lacks : ℕ → ℕ → List ℕ → Type 0
Lacks n v t = (v ≡ n) × (t ≡ [])

-- the bytes are a text of a field with this value
abbrev pub IsFieldIn : Presence → List ℕ → Form → ℕ → List ℕ → Type 0
IsFieldIn always key form v t = Stands key form v t
IsFieldIn (optional n) key form v t = Stands key form v t ⊎ Lacks n v t
IsFieldIn (absent n) key form v t = Lacks n v t

abbrev pub IsField : Field → ℕ → List ℕ → Type 0
IsField f v t = IsFieldIn f.presence f.key f.form v t

-- the bytes are the field with this value, and behind it what is left
pub record FieldIs (f : Field) (v : ℕ) (Left : List ℕ → Type 0) (s : List ℕ) : Type 0 where
  pub here : List ℕ
  pub rest : List ℕ
  pub is_field : IsField f v here
  pub text : s ≡ here ++ rest
  pub left : Left rest

-- the bytes are the fields with these values
abbrev pub FieldsAre : List Field → List ℕ → List ℕ → Type 0
FieldsAre [] [] s = s ≡ []
FieldsAre [] (v ∷ vs) s = ⊥
FieldsAre (f ∷ fs) [] s = ⊥
FieldsAre (f ∷ fs) (v ∷ vs) s = FieldIs f v (FieldsAre fs vs) s

-- the bytes are a line of this kind with these values
pub record LineIs (k : Kind) (vs s : List ℕ) : Type 0 where
  pub rest : List ℕ
  pub text : s ≡ name_text k ++ rest
  pub fields : FieldsAre k.fields vs rest

-- ---- what is written is a text

-- the value has a text of the form
abbrev pub Writable : Form → ℕ → Type 0
Writable in_decimal v = Unit {0}
Writable (in_hex k) v = v < 16 ^ k
Writable (in_hex_or k j) v = v < 16 ^ k
Writable (in_words ws) v = v < length ws

-- where a line is without the field, the value is the one that is then meant
abbrev pub WritableIn : Presence → Form → ℕ → Type 0
WritableIn always form v = Writable form v
WritableIn (optional n) form v = Writable form v
WritableIn (absent n) form v = v ≡ n

abbrev pub WritableAll : List Field → List ℕ → Type 0
WritableAll [] [] = Unit {0}
WritableAll [] (v ∷ vs) = ⊥
WritableAll (f ∷ fs) [] = ⊥
WritableAll (f ∷ fs) (v ∷ vs) = WritableIn f.presence f.form v × WritableAll fs vs

written_value : (f : Form) (v : ℕ) → Writable f v → IsValue f v (value_text f v)
unfolding value_text
written_value in_decimal v h = refl
written_value (in_hex k) v h = (h, refl)
written_value (in_hex_or k j) v h = inl (h, refl)
written_value (in_words ws) v h = (h, refl)

written_in : (p : Presence) (key : List ℕ) (form : Form) (v : ℕ) → WritableIn p form v → IsFieldIn p key form v (shown_in p (keyed key ++ value_text form v))
written_in always key form v h = record { value = value_text form v; is_value = written_value form v h; text = refl }
written_in (optional n) key form v h = inl (record { value = value_text form v; is_value = written_value form v h; text = refl })
written_in (absent n) key form v h = (h, refl)

written_fields : (fs : List Field) (vs : List ℕ) → WritableAll fs vs → FieldsAre fs vs (fields_text fs vs)
unfolding fields_text
written_fields [] [] h = refl
written_fields [] (v ∷ vs) h = absurd h
written_fields (f ∷ fs) [] h = absurd h
written_fields (f ∷ fs) (v ∷ vs) h = record {
  here = field_text f v;
  rest = fields_text fs vs;
  is_field = written_in f.presence f.key f.form v h.0;
  text = refl;
  left = written_fields fs vs h.1;
}

pub written_line : (k : Kind) (vs : List ℕ) → WritableAll k.fields vs → LineIs k vs (line_text k vs)
unfolding line_text
written_line k vs h = record { rest = fields_text k.fields vs; text = refl; fields = written_fields k.fields vs h }

-- ---- fields with one text

abbrev pub one_text : Form → Bool
one_text in_decimal = true
one_text (in_hex k) = true
one_text (in_hex_or k j) = false
one_text (in_words ws) = true

abbrev pub one_text_in : Presence → Form → Bool
one_text_in always form = one_text form
one_text_in (optional n) form = false
one_text_in (absent n) form = true

unfoldable pub one_text_all : List Field → Bool
one_text_all [] = true
one_text_all (f ∷ fs) = one_text_in f.presence f.form && one_text_all fs

pub record ValueText (f : Form) (v : ℕ) (t : List ℕ) : Type 0 where
  pub writable : Writable f v
  pub text : t ≡ value_text f v

value_text_is : (f : Form) (v : ℕ) (t : List ℕ) → one_text f ≡ true → IsValue f v t → ValueText f v t
unfolding value_text
value_text_is in_decimal v t o h = record { writable = tt; text = h }
value_text_is (in_hex k) v t o h = record { writable = h.0; text = h.1 }
value_text_is (in_hex_or k j) v t o h = absurd (false≢true o)
value_text_is (in_words ws) v t o h = record { writable = h.0; text = h.1 }

pub record FieldText (p : Presence) (key : List ℕ) (form : Form) (v : ℕ) (t : List ℕ) : Type 0 where
  pub writable : WritableIn p form v
  pub text : t ≡ shown_in p (keyed key ++ value_text form v)

field_text_is : (p : Presence) (key : List ℕ) (form : Form) (v : ℕ) (t : List ℕ) → one_text_in p form ≡ true → IsFieldIn p key form v t → FieldText p key form v t
field_text_is always key form v t o h =
    let r = value_text_is form v h.value o h.is_value in
    record { writable = r.writable; text = h.text ∙ ap (λ (u : List ℕ). keyed key ++ u) r.text }
field_text_is (optional n) key form v t o h = absurd (false≢true o)
field_text_is (absent n) key form v t o h = record { writable = h.0; text = h.1 }

pub record FieldsText (fs : List Field) (vs s : List ℕ) : Type 0 where
  pub writable : WritableAll fs vs
  pub text : s ≡ fields_text fs vs

fields_text_is : (fs : List Field) (vs s : List ℕ) → one_text_all fs ≡ true → FieldsAre fs vs s → FieldsText fs vs s
unfolding fields_text one_text_all
fields_text_is [] [] s o h = record { writable = tt; text = h }
fields_text_is [] (v ∷ vs) s o h = absurd h
fields_text_is (f ∷ fs) [] s o h = absurd h
fields_text_is (f ∷ fs) (v ∷ vs) s o h =
    let one = one_text_in f.presence f.form in
    let first = field_text_is f.presence f.key f.form v h.here (both_l one _ o) h.is_field in
    let later = fields_text_is fs vs h.rest (both_r one _ o) h.left in
    record {
      writable = (first.writable, later.writable);
      text = h.text ∙ (λ i. first.text i ++ later.text i);
    }

pub record LineText (k : Kind) (vs s : List ℕ) : Type 0 where
  pub writable : WritableAll k.fields vs
  pub text : s ≡ line_text k vs

-- a line of a kind whose fields have one text each is the text of its values
pub line_text_is : (k : Kind) (vs s : List ℕ) → one_text_all k.fields ≡ true → LineIs k vs s → LineText k vs s
unfolding line_text
line_text_is k vs s o h =
    let r = fields_text_is k.fields vs h.rest o h.fields in
    record { writable = r.writable; text = h.text ∙ ap (λ (t : List ℕ). name_text k ++ t) r.text }

-- ---- a field in place of another

-- what is the field is the other one too
module _ (f g : Field) (also : (v : ℕ) (t : List ℕ) → IsField f v t → IsField g v t) where
  other_fields : (fs gs : List Field) (vs s : List ℕ) → FieldsAre (fs ++ f ∷ gs) vs s → FieldsAre (fs ++ g ∷ gs) vs s
  other_fields [] gs [] s h = absurd h
  other_fields [] gs (v ∷ vs) s h = record { here = h.here; rest = h.rest; is_field = also v h.here h.is_field; text = h.text; left = h.left }
  other_fields (e ∷ fs) gs [] s h = absurd h
  other_fields (e ∷ fs) gs (v ∷ vs) s h = record { here = h.here; rest = h.rest; is_field = h.is_field; text = h.text; left = other_fields fs gs vs h.rest h.left }

  other_line : (name : List ℕ) (fs gs : List Field) (vs s : List ℕ) → LineIs (kind name (fs ++ f ∷ gs)) vs s → LineIs (kind name (fs ++ g ∷ gs)) vs s
  other_line name fs gs vs s h = record { rest = h.rest; text = h.text; fields = other_fields fs gs vs h.rest h.fields }

-- what is the field is one of the two others
module _ (f a b : Field) (which : (v : ℕ) (t : List ℕ) → IsField f v t → IsField a v t ⊎ IsField b v t) where
  which_fields : (fs gs : List Field) (vs s : List ℕ) → FieldsAre (fs ++ f ∷ gs) vs s → FieldsAre (fs ++ a ∷ gs) vs s ⊎ FieldsAre (fs ++ b ∷ gs) vs s
  which_fields [] gs [] s h = absurd h
  which_fields [] gs (v ∷ vs) s h = go (which v h.here h.is_field)
    where
      go : IsField a v h.here ⊎ IsField b v h.here → FieldsAre (a ∷ gs) (v ∷ vs) s ⊎ FieldsAre (b ∷ gs) (v ∷ vs) s
      go (inl d) = inl (record { here = h.here; rest = h.rest; is_field = d; text = h.text; left = h.left })
      go (inr d) = inr (record { here = h.here; rest = h.rest; is_field = d; text = h.text; left = h.left })
  which_fields (e ∷ fs) gs [] s h = absurd h
  which_fields (e ∷ fs) gs (v ∷ vs) s h = go (which_fields fs gs vs h.rest h.left)
    where
      go : FieldsAre (fs ++ a ∷ gs) vs h.rest ⊎ FieldsAre (fs ++ b ∷ gs) vs h.rest → FieldsAre ((e ∷ fs) ++ a ∷ gs) (v ∷ vs) s ⊎ FieldsAre ((e ∷ fs) ++ b ∷ gs) (v ∷ vs) s
      go (inl d) = inl (record { here = h.here; rest = h.rest; is_field = h.is_field; text = h.text; left = d })
      go (inr d) = inr (record { here = h.here; rest = h.rest; is_field = h.is_field; text = h.text; left = d })

  which_line : (name : List ℕ) (fs gs : List Field) (vs s : List ℕ) → LineIs (kind name (fs ++ f ∷ gs)) vs s
      → LineIs (kind name (fs ++ a ∷ gs)) vs s ⊎ LineIs (kind name (fs ++ b ∷ gs)) vs s
  which_line name fs gs vs s h = go (which_fields fs gs vs h.rest h.fields)
    where
      go : FieldsAre (fs ++ a ∷ gs) vs h.rest ⊎ FieldsAre (fs ++ b ∷ gs) vs h.rest → LineIs (kind name (fs ++ a ∷ gs)) vs s ⊎ LineIs (kind name (fs ++ b ∷ gs)) vs s
      go (inl d) = inl (record { rest = h.rest; text = h.text; fields = d })
      go (inr d) = inr (record { rest = h.rest; text = h.text; fields = d })

-- a field with two counts of digits: a line with one of the two is a line of the kind, and a line
-- of the kind has one of the two
module _ (key : List ℕ) (k j : ℕ) where
  in_digits : (a b : Form) → ((v : ℕ) (t : List ℕ) → IsValue a v t → IsValue b v t) → (v : ℕ) (t : List ℕ) → Stands key a v t → Stands key b v t
  in_digits a b also v t h = record { value = h.value; is_value = also v h.value h.is_value; text = h.text }

  pub in_first : (name : List ℕ) (fs gs : List Field) (vs s : List ℕ) → LineIs (kind name (fs ++ field key (in_hex k) ∷ gs)) vs s → LineIs (kind name (fs ++ field key (in_hex_or k j) ∷ gs)) vs s
  in_first = other_line (field key (in_hex k)) (field key (in_hex_or k j)) (in_digits (in_hex k) (in_hex_or k j) (λ v t h. inl h))

  pub in_second : (name : List ℕ) (fs gs : List Field) (vs s : List ℕ) → LineIs (kind name (fs ++ field key (in_hex j) ∷ gs)) vs s → LineIs (kind name (fs ++ field key (in_hex_or k j) ∷ gs)) vs s
  in_second = other_line (field key (in_hex j)) (field key (in_hex_or k j)) (in_digits (in_hex j) (in_hex_or k j) (λ v t h. inr h))

  one_of_two : (v : ℕ) (t : List ℕ) → Stands key (in_hex_or k j) v t → Stands key (in_hex k) v t ⊎ Stands key (in_hex j) v t
  one_of_two v t h = go h.is_value
    where
      go : InDigits k v h.value ⊎ InDigits j v h.value → Stands key (in_hex k) v t ⊎ Stands key (in_hex j) v t
      go (inl d) = inl (record { value = h.value; is_value = d; text = h.text })
      go (inr d) = inr (record { value = h.value; is_value = d; text = h.text })

  pub which_digits : (name : List ℕ) (fs gs : List Field) (vs s : List ℕ) → LineIs (kind name (fs ++ field key (in_hex_or k j) ∷ gs)) vs s
      → LineIs (kind name (fs ++ field key (in_hex k) ∷ gs)) vs s ⊎ LineIs (kind name (fs ++ field key (in_hex j) ∷ gs)) vs s
  which_digits = which_line (field key (in_hex_or k j)) (field key (in_hex k)) (field key (in_hex j)) one_of_two

-- a field that a line may be without: a line with it is a line of the kind, so is one without it
-- that means this value, and a line of the kind is one of the two
module _ (key : List ℕ) (form : Form) (n : ℕ) where
  abbrev maybe : Field
  maybe = field_in (optional n) key form

  pub in_shown : (name : List ℕ) (fs gs : List Field) (vs s : List ℕ) → LineIs (kind name (fs ++ field key form ∷ gs)) vs s → LineIs (kind name (fs ++ maybe ∷ gs)) vs s
  in_shown = other_line (field key form) maybe (λ v t h. inl h)

  pub in_absent : (name : List ℕ) (fs gs : List Field) (vs s : List ℕ) → LineIs (kind name (fs ++ field_in (absent n) key form ∷ gs)) vs s → LineIs (kind name (fs ++ maybe ∷ gs)) vs s
  in_absent = other_line (field_in (absent n) key form) maybe (λ v t h. inr h)

  pub which_shown : (name : List ℕ) (fs gs : List Field) (vs s : List ℕ) → LineIs (kind name (fs ++ maybe ∷ gs)) vs s
      → LineIs (kind name (fs ++ field key form ∷ gs)) vs s ⊎ LineIs (kind name (fs ++ field_in (absent n) key form ∷ gs)) vs s
  which_shown = which_line maybe (field key form) (field_in (absent n) key form) (λ v t h. h)

-- ---- how many values

lengths : (fs : List Field) (vs s : List ℕ) → FieldsAre fs vs s → length vs ≡ length fs
lengths [] [] s h = refl
lengths [] (v ∷ vs) s h = absurd h
lengths (f ∷ fs) [] s h = absurd h
lengths (f ∷ fs) (v ∷ vs) s h = ap suc (lengths fs vs h.rest h.left)

-- a line has as many values as its kind has fields
pub line_length : (k : Kind) (vs s : List ℕ) → LineIs k vs s → length vs ≡ length k.fields
line_length k vs s h = lengths k.fields vs h.rest h.fields
