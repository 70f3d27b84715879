-- A number in decimal: "no leading zeros in decimals".
use Rattle.std.specs.Prelude.{ℕ, suc, ◌+◌, ◌-◌, ◌*◌, ◌/◌, ◌%◌, Bool, false, ◌&&◌, cond, List, [], ◌∷◌, ◌++◌, leb, ltb}

-- the byte of a digit; the byte 48 is 0
abbrev pub digit : ℕ → ℕ
digit d = 48 + d

-- the decimal of n, which has at most k digits
unfoldable pub decimal_within : ℕ → ℕ → List ℕ
decimal_within ℕ.zero n = []
decimal_within (suc k) n = cond (ltb n 10) (digit n ∷ []) (decimal_within k (n / 10) ++ digit (n % 10) ∷ [])

-- a byte holds the numbers below this one
abbrev pub byte_numbers : ℕ
byte_numbers = 256

-- no byte has more digits
abbrev pub byte_digits : ℕ
byte_digits = 3

unfoldable pub decimal : ℕ → List ℕ
decimal n = decimal_within (suc n) n

abbrev pub is_digit : ℕ → Bool
is_digit c = leb 48 c && leb c 57

-- the number of a digit's byte
abbrev pub digit_of : ℕ → ℕ
digit_of c = c - 48

-- a number with one digit more
abbrev pub grown : ℕ → ℕ → ℕ
grown n c = n * 10 + digit_of c

abbrev pub begins_digit : List ℕ → Bool
begins_digit [] = false
begins_digit (c ∷ s) = is_digit c
