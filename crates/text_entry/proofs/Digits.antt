-- Digits of a line, one after the other.
use Prim.Native.Nat.{ℕ, suc, ◌≤◌, ◌<◌, ◌+◌, ◌*◌, ◌^◌, min}
use native.Mathlib.Omega.{arith}
use native.Mathlib.Nat.{pow-suc, pow-le-pow_right, le_trans}
use native.Mathlib.Numerals.{add-one}
use mathlib.Core.Bool.{Bool, true, false, cond}
use mathlib.Core.List.{List, [], ◌∷◌}
use mathlib.Core.Path.{◌≡◌, refl, sym, ap, subst}
use native.Mathlib.Decide.{dec_lt}
use Rattle.std.proofs.Common.{Bor, Option, None, Some, is_some}
use borrow.Author.Tests.{eq-eqb, ne_eqb}
use Rattle.log_entry.specs.Limits.{updates}
use Rattle.text_ascii.specs.Decimal.{begins_digit, byte_numbers, digit_of, grown, is_digit}
use Rattle.text_ascii.specs.Hex.{begins_hex_digit, hex_digit_of, update_digits}
use Rattle.text_ascii.proofs.Decimals.{is_digit_low}
use Rattle.text_ascii.proofs.Hexes.{hex_digit_bound}
use Rattle.text_entry.specs.Fields.{in_decimal}
use Rattle.text_entry.specs.Read.{part, unreadable, read_digits, read_decimal, read_hex, read_value}
use Rattle.text_entry.specs.Seen.{capped, first_digit, first_hex_digit, found, found_if}

-- whether something was found
pub nothing : {A : Type 0} (a : A) → ◌≡◌ {A = Option A} None (Some a) → ⊥
nothing a h = let z : ◌≡◌ {A = ℕ} 0 1 = cc in omega arith

pub found_if_none : (b : Bool) (n : ℕ) (s : List ℕ) → found_if b n s ≡ None → b ≡ false
found_if_none true n s h = absurd (nothing (n, s) (sym h))
found_if_none false n s h = refl

module _ (b : Bool) (n m : ℕ) (s t : List ℕ) where
  pub found_if_some : found_if b n s ≡ Some (m, t) → b ≡ true
  found_if_some h = go b h
    where
      go : (a : Bool) → found_if a n s ≡ Some (m, t) → a ≡ true
      go true h = refl
      go false h = absurd (nothing (m, t) h)

  pub found_if_number : found_if b n s ≡ Some (m, t) → n ≡ m
  found_if_number h = go b h
    where
      go : (a : Bool) → found_if a n s ≡ Some (m, t) → n ≡ m
      go true h = let e : (n, s) ≡ (m, t) = cc in ap (λ (p : ℕ × List ℕ). p.0) e
      go false h = absurd (nothing (m, t) h)

  pub found_if_left : found_if b n s ≡ Some (m, t) → s ≡ t
  found_if_left h = go b h
    where
      go : (a : Bool) → found_if a n s ≡ Some (m, t) → s ≡ t
      go true h = let e : (n, s) ≡ (m, t) = cc in ap (λ (p : ℕ × List ℕ). p.1) e
      go false h = absurd (nothing (m, t) h)

-- ---- decimals

pub digits_more : (n d : ℕ) (s t : List ℕ) → first_digit s ≡ Some (d, t) → read_digits n s ≡ read_digits (n * 10 + d) t
unfolding read_digits
digits_more n d [] t h = absurd (nothing (d, t) h)
digits_more n d (c ∷ s) t h =
    let e : digit_of c ≡ d = found_if_number _ _ _ _ _ h in
    let f : s ≡ t = found_if_left _ _ _ _ _ h in
    rw (found_if_some _ _ _ _ _ h) (λ i. read_digits (n * 10 + e i) (f i))

pub digits_end : (n : ℕ) (s : List ℕ) → first_digit s ≡ None → read_digits n s ≡ part n s
unfolding read_digits
digits_end n [] h = refl
digits_end n (c ∷ s) h = rw (found_if_none _ _ _ h)

-- the count up to `byte_numbers` is told by the count so far up to `byte_numbers`
pub digits_capped : (m n : ℕ) (s : List ℕ) → min m byte_numbers ≡ min n byte_numbers → capped (read_digits m s) ≡ capped (read_digits n s)
unfolding read_digits
digits_capped m n [] e = λ i. part (e i) []
digits_capped m n (c ∷ s) e = go (is_digit c) (digits_capped (grown m c) (grown n c) s (omega arith))
  where
    go : (b : Bool) → capped (read_digits (grown m c) s) ≡ capped (read_digits (grown n c) s)
        → capped (cond b (read_digits (grown m c) s) (part m (c ∷ s))) ≡ capped (cond b (read_digits (grown n c) s) (part n (c ∷ s)))
    go true h = h
    go false h = λ i. part (e i) (c ∷ s)

pub decimal_none : (s : List ℕ) → first_digit s ≡ None → unreadable ≡ read_value in_decimal s
unfolding read_value read_decimal
decimal_none [] h = refl
decimal_none (c ∷ s) h = rw (found_if_none _ _ _ h)

begins_none : (s : List ℕ) → first_digit s ≡ None → begins_digit s ≡ false
begins_none [] h = refl
begins_none (c ∷ s) h = found_if_none _ _ _ h

begins_some : (d : ℕ) (s t : List ℕ) → first_digit s ≡ Some (d, t) → begins_digit s ≡ true
begins_some d [] t h = absurd (nothing (d, t) h)
begins_some d (c ∷ s) t h = found_if_some _ _ _ _ _ h

pub begins_is : (o : Option (ℕ × Bor (List ℕ))) (s : List ℕ) → found o ≡ first_digit s → is_some o ≡ begins_digit s
begins_is None s h = sym (begins_none s (sym h))
begins_is (Some p) s h = sym (begins_some p.0 s p.1.now (sym h))

module _ (d : ℕ) where
  -- a 0, and a digit behind it
  pub decimal_zero : (s t : List ℕ) → first_digit s ≡ Some (d, t) → d ≡ 0 → begins_digit t ≡ true → unreadable ≡ read_value in_decimal s
  unfolding read_value read_decimal
  decimal_zero [] t h z k = refl
  decimal_zero (c ∷ s) t h z k =
      let i : is_digit c ≡ true = found_if_some _ _ _ _ _ h in
      let e : digit_of c ≡ d = found_if_number _ _ _ _ _ h in
      let f : s ≡ t = found_if_left _ _ _ _ _ h in
      let low : 48 ≤ c = is_digit_low c i in
      rw (i, eq-eqb c 48 (omega arith), f, k) refl

  -- no 0, or no digit behind it
  pub decimal_digits : (s t : List ℕ) → first_digit s ≡ Some (d, t) → (d ≡ 0 → begins_digit t ≡ false) → read_digits 0 s ≡ read_value in_decimal s
  unfolding read_value read_decimal
  decimal_digits [] t h z = absurd (nothing (d, t) h)
  decimal_digits (c ∷ s) t h z =
      let i : is_digit c ≡ true = found_if_some _ _ _ _ _ h in
      let e : digit_of c ≡ d = found_if_number _ _ _ _ _ h in
      let f : s ≡ t = found_if_left _ _ _ _ _ h in
      let low : 48 ≤ c = is_digit_low c i in
      elim (dec_lt 48 c) [
        | yes k ↦ rw (i, ne_eqb c 48 (λ m. omega arith)) refl
        | no k ↦ rw (i, eq-eqb c 48 (omega arith), f, z (omega arith)) refl
      ]

-- ---- hexadecimal digits

module _ (k left n : ℕ) where
  pub hex_more : (d : ℕ) (s t : List ℕ) → left ≡ suc k → first_hex_digit s ≡ Some (d, t) → read_hex left n s ≡ read_hex k (n * 16 + d) t
  unfolding read_hex
  hex_more d [] t l h = absurd (nothing (d, t) h)
  hex_more d (c ∷ s) t l h =
      let e : hex_digit_of c ≡ d = found_if_number _ _ _ _ _ h in
      let f : s ≡ t = found_if_left _ _ _ _ _ h in
      rw (l, found_if_some _ _ _ _ _ h) (λ i. read_hex k (n * 16 + e i) (f i))

begins_hex_none : (s : List ℕ) → first_hex_digit s ≡ None → begins_hex_digit s ≡ false
begins_hex_none [] h = refl
begins_hex_none (c ∷ s) h = found_if_none _ _ _ h

pub hex_stops : (s : List ℕ) (left n : ℕ) → 0 < left → begins_hex_digit s ≡ false → read_hex left n s ≡ unreadable
unfolding read_hex
hex_stops s ℕ.zero n l h = absurd (omega arith)
hex_stops [] (suc k) n l h = refl
hex_stops (c ∷ s) (suc k) n l h = rw h

pub hex_other : (left n : ℕ) (s : List ℕ) → 0 < left → first_hex_digit s ≡ None → read_hex left n s ≡ unreadable
hex_other left n s l h = hex_stops s left n l (begins_hex_none s h)

pub hex_end : (left n : ℕ) (s : List ℕ) → left ≡ 0 → read_hex left n s ≡ part n s
unfolding read_hex
hex_end left n s h = rw h

pub hex_small : (d : ℕ) (s t : List ℕ) → first_hex_digit s ≡ Some (d, t) → d < 16
hex_small d [] t h = absurd (nothing (d, t) h)
hex_small d (c ∷ s) t h =
    let e : hex_digit_of c ≡ d = found_if_number _ _ _ _ _ h in
    let g : hex_digit_of c < 16 = hex_digit_bound c (found_if_some _ _ _ _ _ h) in
    subst (λ (m : ℕ). m < 16) e g

-- one digit more after n of them; with those of an update, the number is an update
pub hex_grown_lem : (done n d : ℕ) → n < 16 ^ done → d < 16 → n * 16 + d < 16 ^ (done + 1)
hex_grown_lem done n d h k = rw (add-one, pow-suc) (omega arith)

pub hex_fits : (done n : ℕ) → done ≤ update_digits → n < 16 ^ done → n < updates
hex_fits done n h k = le_trans k (pow-le-pow_right {n = 16} (omega arith) h)
