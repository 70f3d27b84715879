-- What is written reads back: values, fields, lines.
use Prim.Native.Nat.{ℕ, suc, ◌≤◌, ◌<◌, ◌+◌, ◌-◌, ◌*◌, ◌/◌, ◌%◌, ◌^◌}
use native.Mathlib.Omega.{arith}
use native.Mathlib.Nat.{pow-suc, mul_assoc, add-suc, zero-add, zero-mul, add-zero, suc-add}
use native.Mathlib.Decide.{dec_lt}
use mathlib.Core.Bool.{Bool, true, false, ◌&&◌, ◌||◌, cond}
use mathlib.Core.List.{List, [], ◌∷◌, ◌++◌, append_assoc}
use mathlib.Core.Logic.{inl, inr}
use mathlib.Core.Option.{none, some}
use mathlib.Core.Path.{◌≡◌, refl, sym, ◌∙◌, ap, subst}
use lib.Dec.{eqb, leb}
use lib.ListN.{length, drop, get_or}
use lib.Seq.{drop-append_seam}
use borrow.Author.Tests.{eq-eqb, ne_eqb}
use Rattle.text_ascii.specs.Bytes.{begins}
use Rattle.text_ascii.specs.Decimal.{digit, decimal, grown, is_digit, begins_digit}
use Rattle.text_ascii.specs.Hex.{hex_digit, hex, is_hex_digit, begins_hex_digit}
use Rattle.text_ascii.proofs.Decimals.{digit_is, decimal_small, decimal_grows, by_digits}
use Rattle.text_ascii.proofs.Hexes.{hex_digit_is, hex_digit_number}
use Rattle.text_ascii.proofs.Words.{begins_word, clash, clash_begins, both_l, both_r}
use Rattle.text_entry.specs.Fields.{Form, in_decimal, in_hex, in_hex_or, in_words, Presence, always, optional, absent, Field, keyed, key_text, Kind, name_text}
use Rattle.text_entry.specs.Read.{Part, part, unreadable, read_digits, read_decimal, read_hex, read_word, or_part, read_value, after, value_after, keyed_value, without, read_in, read_field, is_end, with, read_fields, read_kind}
use Rattle.text_entry.proofs.Digits.{hex_stops}
use Rattle.text_entry.proofs.LineTexts.{FieldsAre, InDigits, IsFieldIn, IsValue, Lacks, LineIs, Stands}

-- ---- decimals

digits_go_on : (n d : ℕ) (t : List ℕ) → d < 10 → read_digits n (digit d ∷ t) ≡ read_digits (n * 10 + d) t
unfolding read_digits
digits_go_on n d t h =
    let e : grown n (digit d) ≡ n * 10 + d = omega arith in
    rw (digit_is d h) (ap (λ (k : ℕ). read_digits k t) e)

-- only 0 must not be followed by a digit
decimal_reads : (n : ℕ) (t : List ℕ) → (n ≡ 0 → begins_digit t ≡ false) → read_decimal (decimal n ++ t) ≡ read_digits n t
unfolding read_decimal
decimal_reads = by_digits (λ n. (t : List ℕ) → (n ≡ 0 → begins_digit t ≡ false) → read_decimal (decimal n ++ t) ≡ read_digits n t) one more
  where
    alone : (n : ℕ) (t : List ℕ) → (n ≡ 0 → begins_digit t ≡ false) → (eqb (digit n) 48 && begins_digit t) ≡ false
    alone n t h = elim (dec_lt 0 n) [
      | yes k ↦ rw (ne_eqb (digit n) 48 (λ (e : digit n ≡ 48). omega arith))
      | no k ↦ rw (eq-eqb (digit n) 48 (omega arith)) (h (omega arith))
    ]

    one_digit : (n : ℕ) (t : List ℕ) → n < 10 → (n ≡ 0 → begins_digit t ≡ false) → read_decimal (digit n ∷ t) ≡ read_digits n t
    one_digit n t h k = rw (digit_is n h, alone n t k) (digits_go_on 0 n t h ∙ ap (λ (m : ℕ). read_digits m t) (omega arith))

    one : (n : ℕ) → n < 10 → (t : List ℕ) → (n ≡ 0 → begins_digit t ≡ false) → read_decimal (decimal n ++ t) ≡ read_digits n t
    one n h t k = ap (λ (s : List ℕ). read_decimal (s ++ t)) (decimal_small n h) ∙ one_digit n t h k

    more : (n d : ℕ) → 1 ≤ n → d < 10 → ((t : List ℕ) → (n ≡ 0 → begins_digit t ≡ false) → read_decimal (decimal n ++ t) ≡ read_digits n t)
        → (t : List ℕ) → (n * 10 + d ≡ 0 → begins_digit t ≡ false) → read_decimal (decimal (n * 10 + d) ++ t) ≡ read_digits (n * 10 + d) t
    more n d h k ih t z =
        ap (λ (s : List ℕ). read_decimal (s ++ t)) (decimal_grows n d h k)
        ∙ ap read_decimal (append_assoc (decimal n) (digit d ∷ []) t)
        ∙ ih (digit d ∷ t) (λ e. absurd (omega arith))
        ∙ digits_go_on n d t k

digits_stop : (n : ℕ) (t : List ℕ) → begins_digit t ≡ false → read_digits n t ≡ part n t
unfolding read_digits
digits_stop n [] h = refl
digits_stop n (c ∷ t) h = rw h

-- ---- hexadecimal digits

hex_goes_on : (j v d : ℕ) (t : List ℕ) → d < 16 → read_hex (suc j) v (hex_digit d ∷ t) ≡ read_hex j (v * 16 + d) t
unfolding read_hex
hex_goes_on j v d t h = rw (hex_digit_is d h, hex_digit_number d h)

hex_done : (n : ℕ) (t : List ℕ) → read_hex 0 n t ≡ part n t
unfolding read_hex
hex_done n t = refl

hex_reads : (k j v n : ℕ) (t : List ℕ) → n < 16 ^ k → read_hex (k + j) v (hex k n ++ t) ≡ read_hex j (v * 16 ^ k + n) t
unfolding hex
hex_reads ℕ.zero j v n t h =
    let e : v ≡ v * 1 + n = omega arith in
    (λ i. read_hex (zero-add j i) (e i) t)
hex_reads (suc k) j v n t h =
    let p : n < 16 ^ k * 16 = subst (λ (m : ℕ). n < m) (pow-suc 16 k) h in
    let q : v * 16 ^ suc k ≡ v * 16 ^ k * 16 = ap (λ (m : ℕ). v * m) (pow-suc 16 k) ∙ sym (mul_assoc v (16 ^ k) 16) in
    let e : (v * 16 ^ k + n / 16) * 16 + n % 16 ≡ v * 16 ^ suc k + n = omega arith in
    (λ i. read_hex ((suc-add k j ∙ sym (add-suc k j)) i) v (append_assoc (hex k (n / 16)) (hex_digit (n % 16) ∷ []) t i))
    ∙ hex_reads k (suc j) v (n / 16) (hex_digit (n % 16) ∷ t) (omega arith)
    ∙ hex_goes_on j (v * 16 ^ k + n / 16) (n % 16) t (omega arith)
    ∙ ap (λ (m : ℕ). read_hex j m t) e

-- ---- words

unfoldable pub clash_all : List ℕ → List (List ℕ) → Bool
clash_all w [] = true
clash_all w (v ∷ vs) = clash v w && clash_all w vs

-- each word differs at some byte from each other
unfoldable pub apart : List (List ℕ) → Bool
apart [] = true
apart (w ∷ ws) = clash_all w ws && apart ws

clash_at : (w : List ℕ) (ws : List (List ℕ)) (i : ℕ) → clash_all w ws ≡ true → i < length ws → clash (get_or ws i []) w ≡ true
unfolding clash_all
clash_at w [] i h k = absurd (omega arith)
clash_at w (v ∷ vs) ℕ.zero h k = both_l (clash v w) _ h
clash_at w (v ∷ vs) (suc i) h k = clash_at w vs i (both_r (clash v w) _ h) (omega arith)

word_reads : (n : ℕ) (ws : List (List ℕ)) (i : ℕ) (t : List ℕ) → apart ws ≡ true → i < length ws → read_word n ws (get_or ws i [] ++ t) ≡ part (n + i) t
unfolding apart read_word
word_reads n [] i t h k = absurd (omega arith)
word_reads n (w ∷ ws) ℕ.zero t h k = rw (begins_word w t, drop-append_seam w t, add-zero)
word_reads n (w ∷ ws) (suc i) t h k =
    ap (λ (b : Bool). cond b (part n (drop (length w) (get_or ws i [] ++ t))) (read_word (suc n) ws (get_or ws i [] ++ t)))
    (clash_begins (get_or ws i []) w t (clash_at w ws i (both_l (clash_all w ws) _ h) (omega arith)))
    ∙ word_reads (suc n) ws i t (both_r (clash_all w ws) _ h) (omega arith)
    ∙ ap (λ (m : ℕ). part m t) (omega arith)

-- ---- values, fields, lines

-- no text of one value is that of another, so that what is written can be read
abbrev pub Sound : Form → Type 0
Sound in_decimal = Unit {0}
Sound (in_hex k) = Unit {0}
Sound (in_hex_or k j) = j < k
Sound (in_words ws) = apart ws ≡ true

abbrev keys : List Field → List (List ℕ)
keys [] = []
keys (f ∷ fs) = key_text f ∷ keys fs

-- a field that a line may be without has a key that no field behind it has
abbrev pub OtherKeys : List ℕ → List Field → Type 0
OtherKeys key fs = clash_all (keyed key) (keys fs) ≡ true

abbrev pub SoundIn : Presence → List ℕ → Form → List Field → Type 0
SoundIn always key form fs = Sound form
SoundIn (optional n) key form fs = Sound form × OtherKeys key fs
SoundIn (absent n) key form fs = Unit {0}

abbrev pub SoundAll : List Field → Type 0
SoundAll [] = Unit {0}
SoundAll (f ∷ fs) = SoundIn f.presence f.key f.form fs × SoundAll fs

digits_read : (k v : ℕ) (t r : List ℕ) → InDigits k v t → read_hex k 0 (t ++ r) ≡ part v r
digits_read k v t r h =
    ap (λ (u : List ℕ). read_hex k 0 (u ++ r)) h.1
    ∙ (λ i. read_hex (sym (add-zero k) i) 0 (hex k v ++ r))
    ∙ hex_reads k 0 0 v r h.0
    ∙ hex_done (0 * 16 ^ k + v) r
    ∙ ap (λ (m : ℕ). part m r) (ap (λ (m : ℕ). m + v) (zero-mul (16 ^ k)) ∙ zero-add v)

-- where fewer digits stand than are asked for, nothing reads
too_few : (k j v : ℕ) (t r : List ℕ) → j < k → InDigits j v t → begins_hex_digit r ≡ false → read_hex k 0 (t ++ r) ≡ unreadable
too_few k j v t r l h e =
    let m : k ≡ j + (k - j) = omega arith in
    ap (λ (u : List ℕ). read_hex k 0 (u ++ r)) h.1
    ∙ ap (λ (n : ℕ). read_hex n 0 (hex j v ++ r)) m
    ∙ hex_reads j (k - j) 0 v r h.0
    ∙ hex_stops r (k - j) (0 * 16 ^ j + v) (omega arith) e

no_digit : (c : ℕ) → is_hex_digit c ≡ false → is_digit c ≡ false
no_digit c h = go (is_digit c) h
  where
    go : (b : Bool) → (b || (leb 97 c && leb c 102)) ≡ false → b ≡ false
    go true k = k
    go false k = refl

no_digit_there : (r : List ℕ) → begins_hex_digit r ≡ false → begins_digit r ≡ false
no_digit_there [] h = refl
no_digit_there (c ∷ r) h = no_digit c h

value_reads : (f : Form) (v : ℕ) (t r : List ℕ) → Sound f → IsValue f v t → begins_hex_digit r ≡ false → read_value f (t ++ r) ≡ part v r
unfolding read_value
value_reads in_decimal v t r o h e =
    ap (λ (u : List ℕ). read_decimal (u ++ r)) h ∙ decimal_reads v r (λ z. no_digit_there r e) ∙ digits_stop v r (no_digit_there r e)
value_reads (in_hex k) v t r o h e = digits_read k v t r h
value_reads (in_hex_or k j) v t r o (inl h) e = ap (λ (p : Part). or_part p (read_hex j 0 (t ++ r))) (digits_read k v t r h)
value_reads (in_hex_or k j) v t r o (inr h) e = ap (λ (p : Part). or_part p (read_hex j 0 (t ++ r))) (too_few k j v t r o h e) ∙ digits_read j v t r h
value_reads (in_words ws) v t r o h e =
    ap (λ (u : List ℕ). read_word 0 ws (u ++ r)) h.1 ∙ word_reads 0 ws v r o h.0 ∙ ap (λ (m : ℕ). part m r) (zero-add v)

after_reads : (w t : List ℕ) (v : ℕ) → after w (part v (w ++ t)) ≡ part 0 t
unfolding after
after_reads w t v = rw (begins_word w t, drop-append_seam w t)

-- ---- what comes next

-- every text that begins with the key of one of the fields has the property
abbrev Each : (List ℕ → Type 0) → List Field → Type 0
Each P [] = Unit {0}
Each P (f ∷ fs) = ((t : List ℕ) → P (key_text f ++ t)) × Each P fs

-- then every text of the fields has it, if no bytes have it too
next_is : (P : List ℕ → Type 0) → P [] → (fs : List Field) (vs s : List ℕ) → Each P fs → FieldsAre fs vs s → P s
next_is P nil [] [] s each h = subst P (sym h) nil
next_is P nil [] (v ∷ vs) s each h = absurd h
next_is P nil (f ∷ fs) [] s each h = absurd h
next_is P nil (f ∷ fs) (v ∷ vs) s each h = subst P (sym h.text) (go f.presence h.is_field (next_is P nil fs vs h.rest each.1 h.left))
  where
    stands : Stands f.key f.form v h.here → P (h.here ++ h.rest)
    stands k = subst P (sym (append_assoc (key_text f) k.value h.rest) ∙ ap (λ (t : List ℕ). t ++ h.rest) (sym k.text)) (each.0 (k.value ++ h.rest))

    go : (p : Presence) → IsFieldIn p f.key f.form v h.here → P h.rest → P (h.here ++ h.rest)
    go always k later = stands k
    go (optional n) (inl k) later = stands k
    go (optional n) (inr k) later = subst (λ (t : List ℕ). P (t ++ h.rest)) (sym k.1) later
    go (absent n) k later = subst (λ (t : List ℕ). P (t ++ h.rest)) (sym k.1) later

no_digit_next : (fs : List Field) (vs s : List ℕ) → FieldsAre fs vs s → begins_hex_digit s ≡ false
no_digit_next fs vs s h = next_is (λ t. begins_hex_digit t ≡ false) refl fs vs s (each fs) h
  where
    each : (gs : List Field) → Each (λ t. begins_hex_digit t ≡ false) gs
    each [] = tt
    each (g ∷ gs) = ((λ t. refl), each gs)

no_key_next : (key : List ℕ) (fs : List Field) (vs s : List ℕ) → OtherKeys key fs → FieldsAre fs vs s → begins s (keyed key) ≡ false
unfolding begins clash_all
no_key_next key fs vs s c h = next_is (λ t. begins t (keyed key) ≡ false) refl fs vs s (each fs c) h
  where
    each : (gs : List Field) → OtherKeys key gs → Each (λ t. begins t (keyed key) ≡ false) gs
    each [] c = tt
    each (g ∷ gs) c =
        let b = clash (key_text g) (keyed key) in
        ((λ t. clash_begins (key_text g) (keyed key) t (both_l b _ c)), each gs (both_r b _ c))

-- ---- fields and lines

key_reads : (key : List ℕ) (form : Form) (v : ℕ) (t r : List ℕ) (n : ℕ) (h : Stands key form v t) → after (keyed key) (part n (t ++ r)) ≡ part 0 (h.value ++ r)
key_reads key form v t r n h =
    ap (λ (u : List ℕ). after (keyed key) (part n u)) (ap (λ (u : List ℕ). u ++ r) h.text ∙ append_assoc (keyed key) h.value r)
    ∙ after_reads (keyed key) (h.value ++ r) n

keyed_reads : (key : List ℕ) (form : Form) (v : ℕ) (t r : List ℕ) (n : ℕ) → Sound form → Stands key form v t → begins_hex_digit r ≡ false → keyed_value key form (part n (t ++ r)) ≡ part v r
keyed_reads key form v t r n o h e = ap (value_after form) (key_reads key form v t r n h) ∙ value_reads form v h.value r o h.is_value e

no_key_there : (key r : List ℕ) (n : ℕ) → begins r (keyed key) ≡ false → (after (keyed key) (part n r)).readable ≡ false
unfolding after
no_key_there key r n h = rw h

nothing_reads : (n v m : ℕ) (t r : List ℕ) → Lacks n v t → without n (part m (t ++ r)) ≡ part v r
nothing_reads n v m t r h = λ i. part (sym h.0 i) (h.1 i ++ r)

module _ (key : List ℕ) (form : Form) (v : ℕ) (t r : List ℕ) (m : ℕ) (digit : begins_hex_digit r ≡ false) where
  field_reads : (p : Presence) → (fs : List Field) (vs : List ℕ) → SoundIn p key form fs → FieldsAre fs vs r → IsFieldIn p key form v t → read_in p key form (part m (t ++ r)) ≡ part v r
  field_reads always fs vs o l h = keyed_reads key form v t r m o h digit
  field_reads (optional n) fs vs o l (inl h) =
      ap (λ (q : Part). cond q.readable (keyed_value key form (part m (t ++ r))) (without n (part m (t ++ r)))) (key_reads key form v t r m h)
      ∙ keyed_reads key form v t r m o.0 h digit
  field_reads (optional n) fs vs o l (inr h) =
      ap (λ (b : Bool). cond b (keyed_value key form (part m (t ++ r))) (without n (part m (t ++ r))))
      (ap (λ (u : List ℕ). (after (keyed key) (part m (u ++ r))).readable) h.1 ∙ no_key_there key r m (no_key_next key fs vs r o.1 l))
      ∙ nothing_reads n v m t r h
  field_reads (absent n) fs vs o l h = nothing_reads n v m t r h

pub fields_read : (fs : List Field) (vs s : List ℕ) (n : ℕ) → SoundAll fs → FieldsAre fs vs s → read_fields fs (part n s) ≡ some vs
unfolding read_fields
fields_read [] [] s n o h = ap (λ (r : List ℕ). cond (is_end r) (some []) none) h
fields_read [] (v ∷ vs) s n o h = absurd h
fields_read (f ∷ fs) [] s n o h = absurd h
fields_read (f ∷ fs) (v ∷ vs) s n o h =
    let e : read_field f (part n s) ≡ part v h.rest =
    ap (λ (r : List ℕ). read_field f (part n r)) h.text
    ∙ field_reads f.key f.form v h.here h.rest n (no_digit_next fs vs h.rest h.left) f.presence fs vs o.0 h.left h.is_field in
    ap (λ (p : Part). with p.value (read_fields fs p)) e ∙ ap (with v) (fields_read fs vs h.rest v o.1 h.left)

pub kind_reads : (k : Kind) (vs s : List ℕ) → SoundAll k.fields → LineIs k vs s → read_kind k s ≡ some vs
unfolding read_kind
kind_reads k vs s o h =
    ap (λ (r : List ℕ). read_fields k.fields (after (name_text k) (part 0 r))) h.text
    ∙ ap (read_fields k.fields) (after_reads (name_text k) h.rest 0)
    ∙ fields_read k.fields vs h.rest 0 o h.fields

-- a line of another kind, whose name differs at some byte, does not read
other_kind : (k other : Kind) (vs s : List ℕ) → clash (name_text other) (name_text k) ≡ true → LineIs other vs s → after (name_text k) (part 0 s) ≡ unreadable
unfolding after
other_kind k other vs s h l = rw (ap (λ (r : List ℕ). begins r (name_text k)) l.text ∙ clash_begins (name_text other) (name_text k) l.rest h)

-- nothing reads behind what does not read
pub stopped_in : (p : Presence) (key : List ℕ) (form : Form) (q : Part) → q.readable ≡ false → (read_in p key form q).readable ≡ false
unfolding after
stopped_in always key form q h = rw h
stopped_in (optional n) key form q h = rw h
stopped_in (absent n) key form q h = h

pub stopped : (fs : List Field) (p : Part) → p.readable ≡ false → read_fields fs p ≡ none
unfolding read_fields
stopped [] p h = rw h
stopped (f ∷ fs) p h = ap (with (read_field f p).value) (stopped fs (read_field f p) (stopped_in f.presence f.key f.form p h))

pub other_kind_unread : (k other : Kind) (vs s : List ℕ) → clash (name_text other) (name_text k) ≡ true → LineIs other vs s → read_kind k s ≡ none
unfolding read_kind
other_kind_unread k other vs s h l = ap (read_fields k.fields) (other_kind k other vs s h l) ∙ stopped k.fields unreadable refl
