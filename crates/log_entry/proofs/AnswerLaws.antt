-- An answer accepts, or it refuses.
use mathlib.Core.Bool.{false, false≢true, true, true≢false}
use mathlib.Core.Path.{◌≡◌, refl}
use native.Mathlib.Omega.{arith}
use Rattle.std.proofs.Common.{Err, Ok, is_err, is_ok}
use Rattle.log_entry.specs.declared.refusal.Refusal.{Refusal}
use Rattle.log_entry.specs.Number.{Answer}
use Rattle.log_entry.specs.Refusal.{accepted}

-- a refusal is no acceptance
pub err_ok : {r : Refusal} → Err r ≡ accepted → ⊥
err_ok h = grind arith

pub ok_accepted : (a : Answer) → is_ok a ≡ true → a ≡ accepted
ok_accepted (Ok done) h = refl
ok_accepted (Err r) h = absurd (false≢true h)

pub not_ok : (a : Answer) → (a ≡ accepted → ⊥) → is_ok a ≡ false
not_ok (Ok done) h = absurd (h refl)
not_ok (Err r) h = refl

pub err_refused : (a : Answer) → is_err a ≡ true → a ≡ accepted → ⊥
err_refused (Ok done) h k = false≢true h
err_refused (Err r) h k = err_ok k

pub err_accepted : (a : Answer) → is_err a ≡ false → a ≡ accepted
err_accepted (Ok done) h = refl
err_accepted (Err r) h = absurd (true≢false h)
