-- The bytes of hexadecimal digits and their numbers.
use Prim.Native.Nat.{ℕ, suc, ◌≤◌, ◌<◌, ◌+◌, ◌-◌, ◌*◌, ◌/◌, ◌%◌, ◌^◌}
use native.Mathlib.Omega.{arith}
use native.Mathlib.Decide.{dec_lt}
use native.Mathlib.Nat.{pow-suc}
use mathlib.Core.Bool.{Bool, true, false, ◌&&◌, ◌||◌}
use mathlib.Core.Logic.{◌⊎◌, inl, inr, ⊎_elim}
use mathlib.Core.List.{List, [], ◌∷◌, ◌++◌}
use mathlib.Core.Path.{◌≡◌, refl, ◌∙◌, ap, subst}
use lib.Dec.{leb}
use lib.ListN.{length, length-append}
use borrow.Author.Tests.{lt-ltb, le-ltb, le-leb, lt-leb, leb-true}
use Rattle.text_ascii.specs.Decimal.{is_digit}
use Rattle.text_ascii.specs.Hex.{hex_digit, hex, is_hex_digit, hex_digit_of, hex_grown, hex_number}
use Rattle.text_ascii.proofs.Decimals.{is_digit_low, is_digit_high}
use Rattle.text_ascii.proofs.Words.{both_l, both_r}

-- a digit's number: below 10, or from 10 to 15
small : (d : ℕ) → d < 10 → hex_digit d ≡ 48 + d
small d h = rw (lt-ltb d 10 h)

large : (d : ℕ) → 10 ≤ d → hex_digit d ≡ 87 + d
large d h = rw (le-ltb d 10 h)

-- a digit's byte: a decimal digit's, or a letter's
low : (c : ℕ) → c ≤ 57 → hex_digit_of c ≡ c - 48
low c h = rw (le-leb c 57 h)

high : (c : ℕ) → 57 < c → hex_digit_of c ≡ c - 87
high c h = rw (lt-leb c 57 h)

abbrev Bytes : ℕ → Type 0
Bytes c = ((48 ≤ c) × (c ≤ 57)) ⊎ ((97 ≤ c) × (c ≤ 102))

cases : (c : ℕ) → is_hex_digit c ≡ true → Bytes c
cases c e = go (is_digit c) refl e
  where
    go : (b : Bool) → is_digit c ≡ b → (b || (leb 97 c && leb c 102)) ≡ true → Bytes c
    go true k e = inl (is_digit_low c k, is_digit_high c k)
    go false k e = inr (leb-true 97 c (both_l (leb 97 c) _ e), leb-true c 102 (both_r (leb 97 c) _ e))

is_low : (c : ℕ) → 48 ≤ c → c ≤ 57 → is_hex_digit c ≡ true
is_low c h k = rw (le-leb 48 c h, le-leb c 57 k)

is_high : (c : ℕ) → 97 ≤ c → c ≤ 102 → is_hex_digit c ≡ true
is_high c h k = rw (le-leb 48 c (omega arith), lt-leb c 57 (omega arith), le-leb 97 c h, le-leb c 102 k)

pub hex_digit_is : (d : ℕ) → d < 16 → is_hex_digit (hex_digit d) ≡ true
hex_digit_is d h = elim (dec_lt d 10) [
  | yes s ↦ ap is_hex_digit (small d s) ∙ is_low (48 + d) (omega arith) (omega arith)
  | no l ↦ ap is_hex_digit (large d (omega arith)) ∙ is_high (87 + d) (omega arith) (omega arith)
]

pub hex_digit_number : (d : ℕ) → d < 16 → hex_digit_of (hex_digit d) ≡ d
hex_digit_number d h = elim (dec_lt d 10) [
  | yes s ↦ ap hex_digit_of (small d s) ∙ low (48 + d) (omega arith) ∙ omega arith
  | no l ↦ ap hex_digit_of (large d (omega arith)) ∙ high (87 + d) (omega arith) ∙ omega arith
]

pub hex_digit_byte : (c : ℕ) → is_hex_digit c ≡ true → hex_digit (hex_digit_of c) ≡ c
hex_digit_byte c e =
    ⊎_elim
    (λ (k : (48 ≤ c) × (c ≤ 57)). ap hex_digit (low c k.1) ∙ small (c - 48) (omega arith) ∙ omega arith)
    (λ (k : (97 ≤ c) × (c ≤ 102)). ap hex_digit (high c (omega arith)) ∙ large (c - 87) (omega arith) ∙ omega arith)
    (cases c e)

pub hex_digit_bound : (c : ℕ) → is_hex_digit c ≡ true → hex_digit_of c < 16
hex_digit_bound c e =
    ⊎_elim
    (λ (k : (48 ≤ c) × (c ≤ 57)). omega (arith, low c k.1))
    (λ (k : (97 ≤ c) × (c ≤ 102)). omega (arith, high c (omega arith)))
    (cases c e)

pub hex_grows : (k n c : ℕ) → is_hex_digit c ≡ true → hex (suc k) (hex_grown n c) ≡ hex k n ++ c ∷ []
unfolding hex
hex_grows k n c e =
    let b : hex_digit_of c < 16 = hex_digit_bound c e in
    let q : hex_grown n c / 16 ≡ n = omega arith in
    let r : hex_grown n c % 16 ≡ hex_digit_of c = omega arith in
    (λ i. hex k (q i) ++ hex_digit (r i) ∷ []) ∙ ap (λ (b : ℕ). hex k n ++ b ∷ []) (hex_digit_byte c e)

pub hex_none : (k n : ℕ) → k ≡ 0 → hex k n ≡ []
unfolding hex
hex_none ℕ.zero n h = refl
hex_none (suc k) n h = absurd (omega arith)

pub hex_more : (k n : ℕ) → (k ≡ 0 → ⊥) → hex k n ≡ hex (k - 1) (n / 16) ++ hex_digit (n % 16) ∷ []
unfolding hex
hex_more ℕ.zero n h = absurd (h refl)
hex_more (suc k) n h = let e : k ≡ suc k - 1 = omega arith in ap (λ (j : ℕ). hex j (n / 16) ++ hex_digit (n % 16) ∷ []) e

pub hex_length : (k n : ℕ) → length (hex k n) ≡ k
unfolding hex
hex_length ℕ.zero n = refl
hex_length (suc k) n = length-append (hex k (n / 16)) (hex_digit (n % 16) ∷ []) ∙ omega (arith, hex_length k (n / 16))

number_more : (n : ℕ) (s t : List ℕ) → hex_number n (s ++ t) ≡ hex_number (hex_number n s) t
unfolding hex_number
number_more n [] t = refl
number_more n (c ∷ s) t = number_more (hex_grown n c) s t

-- the digits of a number are that number
pub hex_number_lem : (k n : ℕ) → n < 16 ^ k → hex_number 0 (hex k n) ≡ n
unfolding hex hex_number
hex_number_lem ℕ.zero n h = omega arith
hex_number_lem (suc k) n h =
    let p : n < 16 ^ k * 16 = subst (λ (m : ℕ). n < m) (pow-suc 16 k) h in
    number_more 0 (hex k (n / 16)) (hex_digit (n % 16) ∷ [])
    ∙ (λ i. hex_number_lem k (n / 16) (omega arith) i * 16 + hex_digit_number (n % 16) (omega arith) i)
    ∙ omega arith
