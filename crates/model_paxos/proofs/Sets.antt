-- Sets of acceptors as the binary digits of a number, majorities, and that two of them meet.
use Prim.Native.Nat.{ℕ, zero, suc, ◌+◌, ◌*◌, ◌/◌, ◌%◌, ◌^◌, max, ◌≤◌, ◌<◌}
use mathlib.Core.Path.{◌≡◌, refl, sym, ap, ◌∙◌}
use mathlib.Core.Logic.{◌⊎◌, inl, inr}
use native.Mathlib.Decide.{ℕ_discrete}
use native.Mathlib.Omega.{arith}
use lib.Bits.{or_lt, or_step, or_zero_r}
use lib.Count.{ones_in, ones, ones_step}
use lib.Dec.{T, eqb→eq, ltb→lt, lt→ltb}
use lib.Pow.{pow-lt, shr-shr}
use Rattle.log_entry.specs.Bits.{has, with}
use Rattle.model_paxos.specs.Majority.{Majority, majority}
use Rattle.model_paxos.specs.Rules.{Has, bit}

bit_is : (a q : ℕ) → bit a q ≡ q / 2 ^ a % 2
bit_is zero q = let e : q / 1 ≡ q = omega arith in rw e
bit_is (suc a) q = bit_is a (q / 2) ∙ ap (λ x. x % 2) (shr-shr q 1 a ∙ ap (λ x. q / 2 ^ x) (omega arith))

pub has→ : (q a : ℕ) → T (has q a) → Has q a
has→ q a t = bit_is a q ∙ eqb→eq (q / 2 ^ a % 2) 1 t

pub has← : (q a : ℕ) → Has q a → T (has q a)
has← q a h = rw (← bit_is a q, h) tt

-- ---- majorities meet

meet' : (n q r : ℕ) → n < ones_in n q + ones_in n r → (a : ℕ) × Has q a × Has r a
unfolding ones_in
meet' zero q r h = absurd (omega arith)
meet' (suc n) q r h = go (λ k. meet' n (q / 2) (r / 2) k) (ℕ_discrete (q % 2 + r % 2) 2)
  where
    go : (n < ones_in n (q / 2) + ones_in n (r / 2) → (a : ℕ) × Has (q / 2) a × Has (r / 2) a)
        → Dec (q % 2 + r % 2 ≡ 2)
        → (a : ℕ) × Has q a × Has r a
    go f (yes e) = (0, omega arith, omega arith)
    go f (no e) = let m = f (omega arith) in (suc m.0, m.1, m.2)

pub meet : (n q r : ℕ) → Majority n q → Majority n r → (a : ℕ) × Has q a × Has r a
unfolding Majority
meet n q r h k = meet' n q r (omega arith)

-- ---- the empty set, and a set with one more

pub has_zero : (a : ℕ) → Has 0 a → ⊥
has_zero zero h = omega arith
has_zero (suc a) h = has_zero a h

pub few_zero : (n : ℕ) → Majority n 0 → ⊥
few_zero n m = let t = meet n 0 0 m m in has_zero t.0 t.1

-- `with`, digit by digit
abbrev join : ℕ → ℕ → ℕ
join zero q = q / 2 * 2 + 1
join (suc a) q = join a (q / 2) * 2 + q % 2

with_join : (q a : ℕ) → with q a ≡ join a q
with_join q zero = or_step q 1 ∙ ap (λ x. x * 2 + max (q % 2) 1) (or_zero_r (q / 2)) ∙ omega arith
with_join q (suc a) = or_step q (2 ^ suc a) ∙ rw (half, even) (rw (with_join (q / 2) a) (omega arith))
  where
    half : 2 ^ suc a / 2 ≡ 2 ^ a
    half = omega arith

    even : 2 ^ suc a % 2 ≡ 0
    even = omega arith

low_half : (q : ℕ) → (q / 2 * 2 + 1) / 2 ≡ q / 2
low_half q = omega arith

high_half : (x q : ℕ) → (x * 2 + q % 2) / 2 ≡ x
high_half x q = omega arith

has_join : (a b q : ℕ) → Has (join a q) b → (a ≡ b) ⊎ Has q b
has_join zero zero q h = inl refl
has_join zero (suc b) q h = inr (rw (low_half q) at h)
has_join (suc a) zero q h = inr (omega arith)
has_join (suc a) (suc b) q h = go (has_join a b (q / 2) (rw (high_half (join a (q / 2)) q) at h))
  where
    go : (a ≡ b) ⊎ Has (q / 2) b → (suc a ≡ suc b) ⊎ Has q (suc b)
    go (inl e) = inl (ap suc e)
    go (inr k) = inr k

join_has : (a q : ℕ) → Has (join a q) a
join_has zero q = omega arith
join_has (suc a) q = rw (high_half (join a (q / 2)) q) (join_has a (q / 2))

join_keeps : (a b q : ℕ) → Has q b → Has (join a q) b
join_keeps zero zero q h = omega arith
join_keeps zero (suc b) q h = rw (low_half q) h
join_keeps (suc a) zero q h = omega arith
join_keeps (suc a) (suc b) q h = rw (high_half (join a (q / 2)) q) (join_keeps a b (q / 2) h)

pub has_with : (a b q : ℕ) → Has (with q a) b → (a ≡ b) ⊎ Has q b
has_with a b q h = has_join a b q (rw (with_join q a) at h)

pub with_has : (a q : ℕ) → Has (with q a) a
with_has a q = rw (with_join q a) (join_has a q)

pub with_keeps : (a b q : ℕ) → Has q b → Has (with q a) b
with_keeps a b q h = rw (with_join q a) (join_keeps a b q h)

pub with_lt : (n a q : ℕ) → a < n → q < 2 ^ n → with q a < 2 ^ n
with_lt n a q h g = or_lt n q (2 ^ a) g (pow-lt h)

-- ---- larger sets

ones_mono : (n q r : ℕ) → ((a : ℕ) → Has q a → Has r a) → ones_in n q ≤ ones_in n r
unfolding ones_in
ones_mono zero q r f = omega arith
ones_mono (suc n) q r f = go (ℕ_discrete (q % 2) 1) (ones_mono n (q / 2) (r / 2) (λ a. f (suc a)))
  where
    go : Dec (q % 2 ≡ 1) → ones_in n (q / 2) ≤ ones_in n (r / 2) → q % 2 + ones_in n (q / 2) ≤ r % 2 + ones_in n (r / 2)
    go (yes e) h = omega (arith, f 0 e)
    go (no e) h = omega arith

pub most_mono : (n q r : ℕ) → ((a : ℕ) → Has q a → Has r a) → Majority n q → Majority n r
unfolding Majority
most_mono n q r f h = omega (arith, ones_mono n q r f)

-- ---- the test of the definitions: the count of a byte's ones against half of the acceptors

ones_in_lem : (n q : ℕ) → q < 2 ^ n → ones q ≡ ones_in n q
unfolding ones_in ones
ones_in_lem zero q h = let e : q ≡ 0 = omega arith in rw e refl
ones_in_lem (suc n) q h = ones_step q ∙ ap (λ x. q % 2 + x) (ones_in_lem n (q / 2) (omega arith))

-- a set with one more has one more
ones_join : (n a q : ℕ) → a < n → (Has q a → ⊥) → ones_in n (join a q) ≡ suc (ones_in n q)
unfolding ones_in
ones_join zero a q h out = absurd (omega arith)
ones_join (suc n) zero q h out = rw (low_half q) (omega arith)
ones_join (suc n) (suc a) q h out = rw (high_half (join a (q / 2)) q) (omega (arith, ones_join n a (q / 2) (omega arith) out))

pub ones_with : (n a q : ℕ) → a < n → q < 2 ^ n → (Has q a → ⊥) → ones (with q a) ≡ suc (ones q)
ones_with n a q h g out =
    ones_in_lem n (with q a) (with_lt n a q h g)
    ∙ ap (ones_in n) (with_join q a)
    ∙ ones_join n a q h out
    ∙ ap suc (sym (ones_in_lem n q g))

pub majority→ : (n q : ℕ) → q < 2 ^ n → T (majority n q) → Majority n q
unfolding Majority
majority→ n q h t = omega (arith, ltb→lt (n / 2) (ones q) t, ones_in_lem n q h)

pub majority← : (n q : ℕ) → q < 2 ^ n → Majority n q → T (majority n q)
unfolding Majority
majority← n q h m = lt→ltb (n / 2) (ones q) (omega (arith, ones_in_lem n q h))
