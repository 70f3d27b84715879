-- How decimals grow digit by digit.
use Prim.Native.Nat.{ℕ, suc, ◌≤◌, ◌<◌, ◌+◌, ◌*◌, ◌/◌, ◌%◌, ◌^◌}
use native.Mathlib.Omega.{arith}
use native.Mathlib.Nat.{pow-suc}
use native.Mathlib.Decide.{dec_lt}
use mathlib.Core.Bool.{true}
use mathlib.Core.List.{List, [], ◌∷◌, ◌++◌}
use mathlib.Core.Path.{◌≡◌, sym, ◌∙◌, ap, subst}
use lib.Dec.{leb}
use lib.ListN.{length, length-append}
use borrow.Author.Tests.{lt-ltb, le-ltb, le-leb, leb-true}
use Rattle.text_ascii.specs.Decimal.{digit, decimal_within, decimal, is_digit, digit_of}
use Rattle.text_ascii.proofs.Words.{both_l, both_r}

pub digit_is : (d : ℕ) → d < 10 → is_digit (digit d) ≡ true
digit_is d h = rw (le-leb 48 (digit d) (omega arith), le-leb (digit d) 57 (omega arith))

pub is_digit_low : (c : ℕ) → is_digit c ≡ true → 48 ≤ c
is_digit_low c e = leb-true 48 c (both_l (leb 48 c) _ e)

pub is_digit_high : (c : ℕ) → is_digit c ≡ true → c ≤ 57
is_digit_high c e = leb-true c 57 (both_r (leb 48 c) _ e)

-- a digit's byte is that of its number
pub digit_byte : (c : ℕ) → is_digit c ≡ true → digit (digit_of c) ≡ c
digit_byte c e = omega (arith, is_digit_low c e)

within_small : (k n : ℕ) → n < 10 → decimal_within (suc k) n ≡ digit n ∷ []
unfolding decimal_within
within_small k n h = rw (lt-ltb n 10 h)

within_large : (k n : ℕ) → 10 ≤ n → decimal_within (suc k) n ≡ decimal_within k (n / 10) ++ digit (n % 10) ∷ []
unfolding decimal_within
within_large k n h = rw (le-ltb n 10 h)

-- any bound above the number serves
within_same : (j k n : ℕ) → n < j → n < k → decimal_within j n ≡ decimal_within k n
within_same ℕ.zero k n h g = absurd (omega arith)
within_same (suc j) ℕ.zero n h g = absurd (omega arith)
within_same (suc j) (suc k) n h g = elim (dec_lt n 10) [
  | yes s ↦ within_small j n s ∙ sym (within_small k n s)
  | no l ↦
      within_large j n (omega arith)
      ∙ ap (λ (s : List ℕ). s ++ digit (n % 10) ∷ []) (within_same j k (n / 10) (omega arith) (omega arith))
      ∙ sym (within_large k n (omega arith))
]

pub decimal_small : (n : ℕ) → n < 10 → decimal n ≡ digit n ∷ []
unfolding decimal
decimal_small n h = within_small n n h

pub decimal_large : (n : ℕ) → 10 ≤ n → decimal n ≡ decimal (n / 10) ++ digit (n % 10) ∷ []
unfolding decimal
decimal_large n h =
    within_large n n h ∙ ap (λ (s : List ℕ). s ++ digit (n % 10) ∷ []) (within_same n (suc (n / 10)) (n / 10) (omega arith) (omega arith))

pub decimal_grows : (n d : ℕ) → 1 ≤ n → d < 10 → decimal (n * 10 + d) ≡ decimal n ++ digit d ∷ []
decimal_grows n d h k =
    let q : (n * 10 + d) / 10 ≡ n = omega arith in
    let r : (n * 10 + d) % 10 ≡ d = omega arith in
    decimal_large (n * 10 + d) (omega arith) ∙ (λ i. decimal (q i) ++ digit (r i) ∷ [])

-- what holds of one digit, and of each number with one digit more, holds of all numbers
pub by_digits : (P : ℕ → Type 0) → ((n : ℕ) → n < 10 → P n) → ((n d : ℕ) → 1 ≤ n → d < 10 → P n → P (n * 10 + d)) → (n : ℕ) → P n
by_digits P one more n = go (suc n) n (omega arith)
  where
    go : (k n : ℕ) → n < k → P n
    go ℕ.zero n h = absurd (omega arith)
    go (suc k) n h = elim (dec_lt n 10) [
      | yes s ↦ one n s
      | no l ↦
          let e : n / 10 * 10 + n % 10 ≡ n = omega arith in
          subst P e (more (n / 10) (n % 10) (omega arith) (omega arith) (go k (n / 10) (omega arith)))
    ]

-- a number below 10 ^ k has at most k digits
pub decimal_length : (k n : ℕ) → 1 ≤ k → n < 10 ^ k → length (decimal n) ≤ k
decimal_length ℕ.zero n h g = absurd (omega arith)
decimal_length (suc ℕ.zero) n h g = omega (arith, ap length (decimal_small n g))
decimal_length (suc (suc k)) n h g = elim (dec_lt n 10) [
  | yes s ↦ omega (arith, ap length (decimal_small n s))
  | no l ↦
      let p : n < 10 ^ suc k * 10 = subst (λ (m : ℕ). n < m) (pow-suc 10 (suc k)) g in
      let i = decimal_length (suc k) (n / 10) (omega arith) (omega arith) in
      omega (arith, ap length (decimal_large n (omega arith)), length-append (decimal (n / 10)) (digit (n % 10) ∷ []))
]
