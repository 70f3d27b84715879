-- Sets as bits: what is in a set with one more, in a set within another, and how large a member can
-- be.
use Prim.Native.Nat.{ℕ, ◌^◌, min, ◌<◌}
use mathlib.Core.Path.{◌≡◌, sym, ap, ◌∙◌}
use mathlib.Core.Bool.{true, false}
use mathlib.Core.Logic.{◌⊎◌, inl, inr, ⊎_elim}
use native.Mathlib.Omega.{arith}
use lib.Bits.{bit_and}
use borrow.Author.Tests.{eq-eqb, eqb-true, ne_eqb}
use Rattle.std.specs.Int.{bit_at}
use Rattle.std.proofs.lemmas.Nat.Bits.{bit_at-lt, bit_at-pow_other, bit_at-pow_same, bit_at-zero, bit_at_above, bit_at_and, bit_at_or, same_from_bits}
use Rattle.log_entry.specs.Bits.{has, with, within}
use Rattle.log_entry.proofs.Tests.{below_or_not, same_number}

in_bit : (set k : ℕ) → has set k ≡ true → bit_at set k ≡ 1
in_bit set k h = eqb-true (bit_at set k) 1 h

pub with_has : (set k : ℕ) → has (with set k) k ≡ true
with_has set k = eq-eqb (bit_at (with set k) k) 1 (bit_at_or set (2 ^ k) k ∙ omega (arith, bit_at-pow_same k, bit_at-lt set k))

pub with_keeps : (set k j : ℕ) → has set j ≡ true → has (with set k) j ≡ true
with_keeps set k j h =
    eq-eqb (bit_at (with set k) j) 1 (bit_at_or set (2 ^ k) j ∙ omega (arith, in_bit set j h, bit_at-lt (2 ^ k) j))

-- what is in a set with one more is that one, or was in it
pub in_with : (set k j : ℕ) → has (with set k) j ≡ true → (j ≡ k) ⊎ (has set j ≡ true)
in_with set k j h =
    ⊎_elim
    (λ (e : j ≡ k). inl e)
    (λ n. inr (eq-eqb (bit_at set j) 1 (omega (arith, sym (bit_at_or set (2 ^ k) j) ∙ in_bit (with set k) j h, bit_at-pow_other k j n))))
    (same_number j k)

pub empty_has : (k : ℕ) → has 0 k ≡ false
empty_has k = ne_eqb (bit_at 0 k) 1 (omega (arith, bit_at-zero k))

-- the members of a set below 2 ^ n are below n
pub member_below : (set n k : ℕ) → set < 2 ^ n → has set k ≡ true → k < n
member_below set n k b h =
    ⊎_elim (λ (y : k < n). y) (λ y. absurd (omega (arith, in_bit set k h, bit_at_above set n k b y))) (below_or_not k n)

pub within_has : (set other k : ℕ) → within set other ≡ true → has set k ≡ true → has other k ≡ true
within_has set other k w h =
    eq-eqb (bit_at other k) 1
    (omega (arith, in_bit set k h, bit_at-lt other k, sym (bit_at_and set other k) ∙ ap (λ (n : ℕ). bit_at n k) (eqb-true (bit_and set other) set w)))

-- a set whose members are all in another is within it
pub within_by : (set other : ℕ) → ((k : ℕ) → has set k ≡ true → has other k ≡ true) → within set other ≡ true
within_by set other f = eq-eqb (bit_and set other) set (same_from_bits (bit_and set other) set (λ k. bit_at_and set other k ∙ least k))
  where
    least : (k : ℕ) → min (bit_at set k) (bit_at other k) ≡ bit_at set k
    least k =
        ⊎_elim
        (λ (e : bit_at set k ≡ 1). omega (arith, e, in_bit other k (f k (eq-eqb (bit_at set k) 1 e))))
        (λ n. omega (arith, n, bit_at-lt set k))
        (same_number (bit_at set k) 1)
