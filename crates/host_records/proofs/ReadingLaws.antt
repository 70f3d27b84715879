-- What a reading says of the numbers that were read.
use Prim.Native.Nat.{ℕ}
use mathlib.Core.Bool.{Bool, cond, false, true}
use mathlib.Core.Path.{◌≡◌, refl}
use Rattle.log_entry.specs.declared.Entry.{Entry}
use Rattle.log_entry.specs.Entry.{outside}
use Rattle.log_entry.specs.Limits.{stores}
use Rattle.log_entry.proofs.Theorems.{inside_is_in_full}
use Rattle.log_entry.specs.declared.refusal.Refusal.TheVariants.{OutsideLimits, Unreadable}
use Rattle.host_records.specs.Numbers.{Reading, entry_of, read_numbers, unreadable}
use Rattle.host_records.specs.declared.Numbers.{Numbers}
use Rattle.std.proofs.Common.{Err, Ok}

tried : Bool → Bool → Entry → Reading
tried u o e = cond u (Err Unreadable) (cond o (Err OutsideLimits) (Ok e))

tried_entry : (u o : Bool) (e f : Entry) → tried u o e ≡ Ok f → e ≡ f
unfolding tried
tried_entry false false e f h = cc
tried_entry false true e f h = cc
tried_entry true o e f h = cc

tried_passed : (u o : Bool) (e f : Entry) → tried u o e ≡ Ok f → (u ≡ false) × (o ≡ false)
unfolding tried
tried_passed false false e f h = (refl, refl)
tried_passed false true e f h = (refl, cc)
tried_passed true o e f h = (cc, cc)

module _ (limit : ℕ) (n : Numbers) where
  pub entry_read : {e : Entry} → read_numbers limit n ≡ Ok e → entry_of n ≡ e
  unfolding read_numbers tried
  entry_read {e} h = tried_entry (unreadable n) (outside limit (entry_of n)) (entry_of n) e h

  pub passed_read : {e : Entry} → read_numbers limit n ≡ Ok e → (unreadable n ≡ false) × (outside limit (entry_of n) ≡ false)
  unfolding read_numbers tried
  passed_read {e} h = tried_passed (unreadable n) (outside limit (entry_of n)) (entry_of n) e h

-- numbers within the limits read alike for a full log
pub read_within : (limit : ℕ) (n : Numbers) → outside limit (entry_of n) ≡ false → read_numbers limit n ≡ read_numbers stores n
unfolding read_numbers
read_within limit n h = rw (h, inside_is_in_full limit (entry_of n) h)
