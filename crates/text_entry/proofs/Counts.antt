-- What the reader counts of the values of a line.
use Prim.Native.Nat.{ℕ, suc, ◌≤◌, ◌<◌, min}
use native.Mathlib.Omega.{arith}
use native.Mathlib.Decide.{dec_lt}
use mathlib.Core.Bool.{Bool, true, false, ◌||◌, false≢true}
use mathlib.Core.List.{List, [], ◌∷◌, ◌++◌}
use mathlib.Core.Path.{◌≡◌, refl, sym, ◌∙◌, ap}
use lib.ListN.{get_or, length}
use borrow.Author.Tests.{le-leb}
use Rattle.text_entry.specs.Fields.{Form, in_decimal, in_hex, in_hex_or, in_words, Field, field}
use Rattle.text_entry.specs.Parts.{counted}
use Rattle.text_ascii.specs.Decimal.{byte_numbers}
use Rattle.text_entry.specs.Table.{any_beyond, at, no_byte}
use Rattle.text_entry.proofs.Fronts.{counts}

-- a number counts up to `byte_numbers` only, where all beyond it have one result
pub counted_same : {R : Type 0} (f : ℕ → R) (outside : R) → ((n : ℕ) → byte_numbers ≤ n → f n ≡ outside) → (n : ℕ) → f n ≡ f (min n byte_numbers)
counted_same f outside h n = elim (dec_lt n byte_numbers) [
  | yes k ↦ ap f (omega arith)
  | no k ↦ h n (omega arith) ∙ sym (h (min n byte_numbers) (omega arith))
]

pub no_byte_lem : (n : ℕ) → byte_numbers ≤ n → no_byte n ≡ true
no_byte_lem n h = le-leb byte_numbers n h

-- one of the numbers is beyond a byte
pub beyond_here : (n : ℕ) (ns : List ℕ) → byte_numbers ≤ n → any_beyond (n ∷ ns) ≡ true
beyond_here n ns h = rw (no_byte_lem n h)

pub beyond_later : (n : ℕ) (ns : List ℕ) → any_beyond ns ≡ true → any_beyond (n ∷ ns) ≡ true
beyond_later n ns h = elim (no_byte n) as (λ b. (b || any_beyond ns) ≡ true) [ true ↦ refl | false ↦ h ]

pub beyond_before : (ns ms : List ℕ) → any_beyond ns ≡ true → any_beyond (ns ++ ms) ≡ true
beyond_before [] ms h = absurd (false≢true h)
beyond_before (n ∷ ns) ms h = go (no_byte n) h (beyond_before ns ms)
  where
    go : (b : Bool) → (b || any_beyond ns) ≡ true → (any_beyond ns ≡ true → any_beyond (ns ++ ms) ≡ true) → (b || any_beyond (ns ++ ms)) ≡ true
    go true k later = refl
    go false k later = later k

pub beyond_last : (ns : List ℕ) (n : ℕ) → any_beyond (ns ++ n ∷ []) ≡ (any_beyond ns || no_byte n)
beyond_last [] n = elim (no_byte n) as (λ b. (b || false) ≡ b) [ true ↦ refl | false ↦ refl ]
beyond_last (m ∷ ns) n = go (no_byte m) (beyond_last ns n)
  where
    go : (b : Bool) → any_beyond (ns ++ n ∷ []) ≡ (any_beyond ns || no_byte n) → (b || any_beyond (ns ++ n ∷ [])) ≡ (b || any_beyond ns || no_byte n)
    go true h = refl
    go false h = h

pub beyond_at : (ns : List ℕ) (i : ℕ) → i < length ns → no_byte (get_or ns i 0) ≡ true → any_beyond ns ≡ true
beyond_at [] i k h = absurd (omega arith)
beyond_at (n ∷ ns) ℕ.zero k h = rw h
beyond_at (n ∷ ns) (suc i) k h = beyond_later n ns (beyond_at ns i (omega arith) h)

counted_zero : (f : Form) → counted f 0 ≡ 0
counted_zero in_decimal = refl
counted_zero (in_hex k) = refl
counted_zero (in_hex_or k j) = refl
counted_zero (in_words ws) = refl

pub at_counts : (fs : List Field) (vs : List ℕ) (i : ℕ) → at (counts fs vs) i ≡ counted (get_or fs i (field [] (in_hex 0))).form (at vs i)
at_counts [] vs i = refl
at_counts (f ∷ fs) [] ℕ.zero = sym (counted_zero f.form)
at_counts (f ∷ fs) [] (suc i) = sym (counted_zero (get_or fs i (field [] (in_hex 0))).form)
at_counts (f ∷ fs) (v ∷ vs) ℕ.zero = refl
at_counts (f ∷ fs) (v ∷ vs) (suc i) = at_counts fs vs i
