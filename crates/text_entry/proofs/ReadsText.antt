-- What reads is what was written: values, fields, lines.
use Prim.Native.Nat.{ℕ, suc, ◌≤◌, ◌<◌, ◌+◌, ◌-◌, ◌*◌, ◌^◌}
use native.Mathlib.Omega.{arith}
use native.Mathlib.Nat.{add-suc, zero-add, add-zero, suc-add, mul_assoc, pow-succ', lt_of_lt_of_le, mul-le-mul_right}
use native.Mathlib.Decide.{dec_lt}
use mathlib.Core.Bool.{Bool, true, false, ◌&&◌, not, cond, false≢true}
use mathlib.Core.List.{List, [], ◌∷◌, ◌++◌, append_assoc}
use mathlib.Core.Logic.{inl, inr}
use mathlib.Core.Option.{Option, none, some}
use mathlib.Core.Path.{◌≡◌, refl, sym, ◌∙◌, ap, subst}
use lib.ListN.{length, drop, get_or}
use borrow.Author.Tests.{eq-eqb, not-true}
use Rattle.text_ascii.specs.Bytes.{begins}
use Rattle.text_ascii.specs.Decimal.{digit, decimal, is_digit, digit_of, grown, begins_digit}
use Rattle.text_ascii.specs.Hex.{hex, is_hex_digit, hex_digit_of, hex_grown}
use Rattle.text_ascii.proofs.Decimals.{is_digit_low, is_digit_high, digit_byte, decimal_small, decimal_grows}
use Rattle.text_ascii.proofs.Hexes.{hex_grows, hex_digit_bound}
use Rattle.text_ascii.proofs.Words.{begins_splits, both_l, both_r}
use Rattle.text_entry.specs.Fields.{Form, in_decimal, in_hex, in_hex_or, in_words, Presence, always, optional, absent, Field, keyed, Kind, name_text}
use Rattle.text_entry.specs.Read.{Part, part, unreadable, leading_zero, read_digits, read_decimal, read_hex, read_word, read_value, after, keyed_value, without, read_in, read_field, is_end, with, read_fields, read_kind}
use Rattle.text_entry.proofs.LineTexts.{FieldsAre, IsFieldIn, IsValue, LineIs}

-- a decimal with a digit's byte behind it
decimal_byte : (n c : ℕ) → 1 ≤ n → is_digit c ≡ true → decimal n ++ c ∷ [] ≡ decimal (grown n c)
decimal_byte n c h e =
    let d : digit_of c < 10 = omega (arith, is_digit_low c e, is_digit_high c e) in
    ap (λ (b : ℕ). decimal n ++ b ∷ []) (sym (digit_byte c e)) ∙ sym (decimal_grows n (digit_of c) h d)

-- ---- decimals

digits_text : (n : ℕ) (s : List ℕ) → (n ≡ 0 → begins_digit s ≡ false) → decimal n ++ s ≡ decimal (read_digits n s).value ++ (read_digits n s).rest
unfolding read_digits
digits_text n [] h = refl
digits_text n (c ∷ s) h = go (is_digit c) refl (digits_text (grown n c) s)
  where
    go : (b : Bool) → is_digit c ≡ b → ((grown n c ≡ 0 → begins_digit s ≡ false) → decimal (grown n c) ++ s ≡ decimal (read_digits (grown n c) s).value ++ (read_digits (grown n c) s).rest)
        → decimal n ++ (c ∷ s) ≡ decimal (cond b (read_digits (grown n c) s) (part n (c ∷ s))).value ++ (cond b (read_digits (grown n c) s) (part n (c ∷ s))).rest
    go false e ih = refl
    go true e ih = elim (dec_lt 0 n) [
      | yes k ↦
          sym (append_assoc (decimal n) (c ∷ []) s)
          ∙ ap (λ (d : List ℕ). d ++ s) (decimal_byte n c k e)
          ∙ ih (λ z. absurd (omega arith))
      | no k ↦ absurd (false≢true (sym (h (omega arith)) ∙ e))
    ]

readable_true : (b : Bool) (p : Part) → (cond b p unreadable).readable ≡ true → b ≡ true
readable_true true p h = refl
readable_true false p h = absurd (false≢true h)

first_digit : (c : ℕ) (s : List ℕ) → is_digit c ≡ true → leading_zero (c ∷ s) ≡ false → c ∷ s ≡ decimal (read_digits 0 (c ∷ s)).value ++ (read_digits 0 (c ∷ s)).rest
unfolding read_digits
first_digit c s e z =
    let low : 48 ≤ c = is_digit_low c e in
    let high : c ≤ 57 = is_digit_high c e in
    let byte : digit (grown 0 c) ≡ c = omega arith in
    rw e (
    ap (λ (d : ℕ). d ∷ s) (sym byte)
    ∙ ap (λ (d : List ℕ). d ++ s) (sym (decimal_small (grown 0 c) (omega arith)))
    ∙ digits_text (grown 0 c) s (λ (k : grown 0 c ≡ 0). sym (ap (λ (b : Bool). b && begins_digit s) (eq-eqb c 48 (omega arith))) ∙ z)
    )

decimal_text : (s : List ℕ) → (read_decimal s).readable ≡ true → s ≡ decimal (read_decimal s).value ++ (read_decimal s).rest
unfolding read_decimal
decimal_text [] h = absurd (false≢true h)
decimal_text (c ∷ s) h =
    let t = readable_true (is_digit c && not (leading_zero (c ∷ s))) (read_digits 0 (c ∷ s)) h in
    rw t (first_digit c s (both_l (is_digit c) _ t) (not-true _ (both_r (is_digit c) _ t)))

-- ---- hexadecimal digits

hex_text : (k j v : ℕ) (s : List ℕ) → (read_hex k v s).readable ≡ true → hex j v ++ s ≡ hex (j + k) (read_hex k v s).value ++ (read_hex k v s).rest
unfolding read_hex
hex_text ℕ.zero j v s h = (λ i. hex (sym (add-zero j) i) v ++ s)
hex_text (suc k) j v [] h = absurd (false≢true h)
hex_text (suc k) j v (c ∷ s) h = go (is_hex_digit c) refl h (hex_text k (suc j) (hex_grown v c) s)
  where
    go : (b : Bool) → is_hex_digit c ≡ b → (cond b (read_hex k (hex_grown v c) s) unreadable).readable ≡ true
        → ((read_hex k (hex_grown v c) s).readable ≡ true → hex (suc j) (hex_grown v c) ++ s ≡ hex (suc j + k) (read_hex k (hex_grown v c) s).value ++ (read_hex k (hex_grown v c) s).rest)
        → hex j v ++ (c ∷ s) ≡ hex (j + suc k) (cond b (read_hex k (hex_grown v c) s) unreadable).value ++ (cond b (read_hex k (hex_grown v c) s) unreadable).rest
    go false e h ih = absurd (false≢true h)
    go true e h ih =
        sym (append_assoc (hex j v) (c ∷ []) s)
        ∙ ap (λ (d : List ℕ). d ++ s) (sym (hex_grows j v c e))
        ∙ ih h
        ∙ ap (λ (n : ℕ). hex n (read_hex k (hex_grown v c) s).value ++ (read_hex k (hex_grown v c) s).rest) (suc-add j k ∙ sym (add-suc j k))

hex_bound : (k v : ℕ) (s : List ℕ) → (read_hex k v s).readable ≡ true → (read_hex k v s).value < (v + 1) * 16 ^ k
unfolding read_hex
hex_bound ℕ.zero v s h = omega arith
hex_bound (suc k) v [] h = absurd (false≢true h)
hex_bound (suc k) v (c ∷ s) h = go (is_hex_digit c) refl h (hex_bound k (hex_grown v c) s)
  where
    go : (b : Bool) → is_hex_digit c ≡ b → (cond b (read_hex k (hex_grown v c) s) unreadable).readable ≡ true
        → ((read_hex k (hex_grown v c) s).readable ≡ true → (read_hex k (hex_grown v c) s).value < (hex_grown v c + 1) * 16 ^ k)
        → (cond b (read_hex k (hex_grown v c) s) unreadable).value < (v + 1) * 16 ^ suc k
    go false e h ih = absurd (false≢true h)
    go true e h ih =
        let d : hex_digit_of c < 16 = hex_digit_bound c e in
        let g : hex_grown v c + 1 ≤ (v + 1) * 16 = omega arith in
        let p : (v + 1) * 16 * 16 ^ k ≡ (v + 1) * 16 ^ suc k = mul_assoc (v + 1) 16 (16 ^ k) ∙ ap (λ (m : ℕ). (v + 1) * m) (sym (pow-succ' 16 k)) in
        subst (λ (m : ℕ). (read_hex k (hex_grown v c) s).value < m) p (lt_of_lt_of_le (ih h) (mul-le-mul_right (16 ^ k) g))

-- ---- words

pub record WordAt (n : ℕ) (ws : List (List ℕ)) (s : List ℕ) (p : Part) : Type 0 where
  pub from : n ≤ p.value
  pub to : p.value < n + length ws
  pub text : s ≡ get_or ws (p.value - n) [] ++ p.rest

word_text : (n : ℕ) (ws : List (List ℕ)) (s : List ℕ) → (read_word n ws s).readable ≡ true → WordAt n ws s (read_word n ws s)
unfolding read_word
word_text n [] s h = absurd (false≢true h)
word_text n (w ∷ ws) s h = go (begins s w) refl h (word_text (suc n) ws s)
  where
    go : (b : Bool) → begins s w ≡ b → (cond b (part n (drop (length w) s)) (read_word (suc n) ws s)).readable ≡ true
        → ((read_word (suc n) ws s).readable ≡ true → WordAt (suc n) ws s (read_word (suc n) ws s))
        → WordAt n (w ∷ ws) s (cond b (part n (drop (length w) s)) (read_word (suc n) ws s))
    go true e h ih = record {
      from = omega arith;
      to = omega arith;
      text = let z : 0 ≡ n - n = omega arith in begins_splits s w e ∙ ap (λ (i : ℕ). get_or (w ∷ ws) i [] ++ drop (length w) s) z;
    }
    go false e h ih =
        let r = ih h in
        let m = (read_word (suc n) ws s).value in
        let k : suc n ≤ m = r.from in
        let l : m < suc n + length ws = r.to in
        let z : suc (m - suc n) ≡ m - n = omega arith in
        record {
          from = omega arith;
          to = omega arith;
          text = r.text ∙ ap (λ (i : ℕ). get_or (w ∷ ws) i [] ++ (read_word (suc n) ws s).rest) z;
        }

-- ---- values, fields, lines

pub record ValueAt (f : Form) (s : List ℕ) (p : Part) : Type 0 where
  pub value : List ℕ
  pub is_value : IsValue f p.value value
  pub text : s ≡ value ++ p.rest

digits_value : (k : ℕ) (s : List ℕ) → (read_hex k 0 s).readable ≡ true → ValueAt (in_hex k) s (read_hex k 0 s)
unfolding hex
digits_value k s h = record {
  value = hex k (read_hex k 0 s).value;
  is_value = (omega (arith, hex_bound k 0 s h), refl);
  text = ap (λ (z : List ℕ). z ++ s) (no_digits 0) ∙ hex_text k 0 0 s h ∙ ap (λ (n : ℕ). hex n (read_hex k 0 s).value ++ (read_hex k 0 s).rest) (zero-add k);
}
  where
    no_digits : (n : ℕ) → [] ≡ hex 0 n
    no_digits n = refl

value_text_lem : (f : Form) (s : List ℕ) → (read_value f s).readable ≡ true → ValueAt f s (read_value f s)
unfolding read_value
value_text_lem in_decimal s h = record { value = decimal (read_decimal s).value; is_value = refl; text = decimal_text s h }
value_text_lem (in_hex k) s h = digits_value k s h
value_text_lem (in_hex_or k j) s h = go (read_hex k 0 s).readable refl h
  where
    go : (b : Bool) → (read_hex k 0 s).readable ≡ b → (cond b (read_hex k 0 s) (read_hex j 0 s)).readable ≡ true → ValueAt (in_hex_or k j) s (cond b (read_hex k 0 s) (read_hex j 0 s))
    go true e m = let d = digits_value k s m in record { value = d.value; is_value = inl d.is_value; text = d.text }
    go false e m = let d = digits_value j s m in record { value = d.value; is_value = inr d.is_value; text = d.text }
value_text_lem (in_words ws) s h =
    let r = word_text 0 ws s h in
    let l : (read_word 0 ws s).value < 0 + length ws = r.to in
    let z : (read_word 0 ws s).value - 0 ≡ (read_word 0 ws s).value = omega arith in
    record { value = get_or ws (read_word 0 ws s).value []; is_value = (omega arith, refl); text = r.text ∙ ap (λ (i : ℕ). get_or ws i [] ++ (read_word 0 ws s).rest) z }

pub record AfterAt (w : List ℕ) (p : Part) : Type 0 where
  pub readable : p.readable ≡ true
  pub text : p.rest ≡ w ++ (after w p).rest

after_text : (w : List ℕ) (p : Part) → (after w p).readable ≡ true → AfterAt w p
unfolding after
after_text w p h =
    let t = readable_true (p.readable && begins p.rest w) (part 0 (drop (length w) p.rest)) h in
    record { readable = both_l p.readable _ t; text = rw t (begins_splits p.rest w (both_r p.readable _ t)) }

pub record FieldAt (pr : Presence) (key : List ℕ) (form : Form) (p q : Part) : Type 0 where
  pub readable : p.readable ≡ true
  pub here : List ℕ
  pub is_field : IsFieldIn pr key form q.value here
  pub text : p.rest ≡ here ++ q.rest

keyed_text : (key : List ℕ) (form : Form) (p : Part) → (keyed_value key form p).readable ≡ true → FieldAt always key form p (keyed_value key form p)
keyed_text key form p h =
    let q = after (keyed key) p in
    let t = readable_true q.readable (read_value form q.rest) h in
    let a = after_text (keyed key) p t in
    let e : keyed_value key form p ≡ read_value form q.rest = rw t in
    let v = value_text_lem form q.rest (ap (λ (r : Part). r.readable) (sym e) ∙ h) in
    record {
      readable = a.readable;
      here = keyed key ++ v.value;
      is_field = record { value = v.value; is_value = subst (λ (r : Part). IsValue form r.value v.value) (sym e) v.is_value; text = refl };
      text =
          a.text
          ∙ ap (λ (r : List ℕ). keyed key ++ r) v.text
          ∙ ap (λ (r : Part). keyed key ++ (v.value ++ r.rest)) (sym e)
          ∙ sym (append_assoc (keyed key) v.value (keyed_value key form p).rest);
    }

field_text_lem : (pr : Presence) (key : List ℕ) (form : Form) (p : Part) → (read_in pr key form p).readable ≡ true → FieldAt pr key form p (read_in pr key form p)
field_text_lem always key form p h = keyed_text key form p h
field_text_lem (optional n) key form p h = go (after (keyed key) p).readable h
  where
    go : (b : Bool) → (cond b (keyed_value key form p) (without n p)).readable ≡ true → FieldAt (optional n) key form p (cond b (keyed_value key form p) (without n p))
    go true m = let k = keyed_text key form p m in record { readable = k.readable; here = k.here; is_field = inl k.is_field; text = k.text }
    go false m = record { readable = m; here = []; is_field = inr (refl, refl); text = refl }
field_text_lem (absent n) key form p h = record { readable = h; here = []; is_field = (refl, refl); text = refl }

pub record FieldsAt (fs : List Field) (p : Part) (vs : List ℕ) : Type 0 where
  pub readable : p.readable ≡ true
  pub fields : FieldsAre fs vs p.rest

some_not_none : (vs : List ℕ) → ◌≡◌ {A = Option (List ℕ)} none (some vs) → ⊥
some_not_none vs e = let z : ◌≡◌ {A = ℕ} 0 1 = cc in omega arith

pub fields_text_lem : (fs : List Field) (p : Part) (vs : List ℕ) → read_fields fs p ≡ some vs → FieldsAt fs p vs
unfolding read_fields
fields_text_lem [] p vs h = go p.readable p.rest refl refl h
  where
    ended : (r : List ℕ) → p.readable ≡ true → p.rest ≡ [] → [] ≡ vs → FieldsAt [] p vs
    ended r k e z = subst (λ (us : List ℕ). FieldsAt [] p us) z (record { readable = k; fields = e })

    go : (b : Bool) (r : List ℕ) → p.readable ≡ b → p.rest ≡ r → cond (b && is_end r) (some []) none ≡ some vs → FieldsAt [] p vs
    go true [] k e h = ended [] k e (let z : [] ≡ vs = cc in z)
    go true (c ∷ r) k e h = absurd (some_not_none vs h)
    go false r k e h = absurd (some_not_none vs h)
fields_text_lem (f ∷ fs) p vs h = go (read_fields fs (read_field f p)) refl h (fields_text_lem fs (read_field f p))
  where
    joined : (us : List ℕ) → FieldsAt fs (read_field f p) us → FieldsAt (f ∷ fs) p ((read_field f p).value ∷ us)
    joined us r =
        let t = field_text_lem f.presence f.key f.form p r.readable in
        record {
          readable = t.readable;
          fields = record { here = t.here; rest = (read_field f p).rest; is_field = t.is_field; text = t.text; left = r.fields };
        }

    go : (o : Option (List ℕ)) → read_fields fs (read_field f p) ≡ o → with (read_field f p).value o ≡ some vs
        → ((us : List ℕ) → read_fields fs (read_field f p) ≡ some us → FieldsAt fs (read_field f p) us) → FieldsAt (f ∷ fs) p vs
    go none e h ih = absurd (some_not_none vs h)
    go (some us) e h ih = subst (λ (ws : List ℕ). FieldsAt (f ∷ fs) p ws) (let z : (read_field f p).value ∷ us ≡ vs = cc in z) (joined us (ih us e))

pub line_text_lem : (k : Kind) (s vs : List ℕ) → read_kind k s ≡ some vs → LineIs k vs s
unfolding read_kind
line_text_lem k s vs h =
    let r = fields_text_lem k.fields (after (name_text k) (part 0 s)) vs h in
    let a = after_text (name_text k) (part 0 s) r.readable in
    record { rest = (after (name_text k) (part 0 s)).rest; text = a.text; fields = r.fields }
