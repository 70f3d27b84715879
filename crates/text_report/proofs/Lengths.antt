-- How much room the printed lines take.
use Prim.Native.Nat.{ℕ, suc, ◌≤◌, ◌<◌, ◌+◌}
use native.Mathlib.Omega.{arith}
use mathlib.Core.List.{List, [], ◌++◌}
use mathlib.Core.Path.{◌≡◌, refl, ap, subst}
use lib.ListN.{length, length-append}
use Rattle.text_ascii.specs.Decimal.{byte_digits, byte_numbers, decimal}
use Rattle.text_ascii.specs.Page.{Puts}
use Rattle.text_ascii.specs.declared.Page.{Page}
use Rattle.text_ascii.proofs.Decimals.{decimal_length}
use Rattle.text_ascii.proofs.Writing.{puts_more, puts_nothing}
use Rattle.text_report.specs.Report.{each}
use Rattle.text_report.specs.Within.{Within}

-- a byte has at most three digits
pub byte_length : (n : ℕ) → n < byte_numbers → length (decimal n) ≤ byte_digits
byte_length n h = decimal_length byte_digits n (omega arith) (omega arith)

pub within_more : {a b c : Page} {s t : List ℕ} {j k : ℕ} → Within j a b s → Within k b c t → Within (j + k) a c (s ++ t)
within_more {a} {b} {c} {s} {t} f g = record { puts = puts_more f.puts g.puts; within = omega (arith, length-append s t, f.within, g.within) }

pub written : {room : ℕ} {a b : Page} {t : List ℕ} → Puts a b t → length t ≤ room → Within room a b t
written w h = record { puts = w; within = h }

pub within_as : {room : ℕ} {a b : Page} {s t : List ℕ} → s ≡ t → Within room a b s → Within room a b t
within_as {room} {a} {b} e w = subst (λ (u : List ℕ). Within room a b u) e w

pub within_nothing : (room : ℕ) (a : Page) → Within room a a []
within_nothing room a = record { puts = puts_nothing a; within = omega arith }

pub within_room : {j k : ℕ} {a b : Page} {t : List ℕ} → Within j a b t → j ≤ k → Within k a b t
within_room w h = record { puts = w.puts; within = omega (arith, w.within) }

-- one more of the texts
pub each_more : (f : ℕ → List ℕ) (i : ℕ) → each f i ++ f i ≡ each f (i + 1)
unfolding each
each_more f i = ap (each f) (suc_is i)
  where
    suc_is : (i : ℕ) → suc i ≡ i + 1
    suc_is i = omega arith

pub each_none : (f : ℕ → List ℕ) → [] ≡ each f 0
unfolding each
each_none f = refl
