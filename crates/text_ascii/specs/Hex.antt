-- A number in a given count of lower-case hexadecimal digits.
use Rattle.std.specs.Prelude.{ℕ, suc, ◌+◌, ◌-◌, ◌*◌, ◌/◌, ◌%◌, Bool, false, ◌&&◌, ◌||◌, cond, List, [], ◌∷◌, ◌++◌, leb, ltb}
use Rattle.log_entry.specs.Limits.{update_bytes}
use Rattle.text_ascii.specs.Decimal.{is_digit}

-- "A list is two lower-case hexadecimal digits"
abbrev pub list_digits : ℕ
list_digits = 2

-- "Updates become 64 bits, printed as sixteen digits": two for each of its bytes
abbrev pub update_digits : ℕ
update_digits = 2 * update_bytes

-- "Lines with eight digits are still read": an update was 32 bits, eight such digits
abbrev pub earlier_digits : ℕ
earlier_digits = 8

-- the byte of a digit below 16: `0` to `9`, then `a` to `f`
abbrev pub hex_digit : ℕ → ℕ
hex_digit d = cond (ltb d 10) (48 + d) (87 + d)

-- the last k digits of n
unfoldable pub hex : ℕ → ℕ → List ℕ
hex ℕ.zero n = []
hex (suc k) n = hex k (n / 16) ++ hex_digit (n % 16) ∷ []

abbrev pub is_hex_digit : ℕ → Bool
is_hex_digit c = is_digit c || (leb 97 c && leb c 102)

-- such a digit stands in front
abbrev pub begins_hex_digit : List ℕ → Bool
begins_hex_digit [] = false
begins_hex_digit (c ∷ s) = is_hex_digit c

-- the number of a digit's byte
abbrev pub hex_digit_of : ℕ → ℕ
hex_digit_of c = cond (leb c 57) (c - 48) (c - 87)

-- a number with one digit more
abbrev pub hex_grown : ℕ → ℕ → ℕ
hex_grown n c = n * 16 + hex_digit_of c

-- the number n with all these digits more
unfoldable pub hex_number : ℕ → List ℕ → ℕ
hex_number n [] = n
hex_number n (c ∷ s) = hex_number (hex_grown n c) s
