-- What an accepted add says of its parts.
use Prim.Native.Nat.{ℕ}
use mathlib.Core.Bool.{Bool, false, true}
use mathlib.Core.List.{[], ◌∷◌}
use mathlib.Core.Path.{◌≡◌, ap, refl, sym, ◌∙◌}
use native.Mathlib.Omega.{arith}
use Rattle.std.proofs.Common.{Err, Ok}
use Rattle.log_entry.specs.declared.refusal.Refusal.TheVariants.{HoldsAnother, IllFormedVote, KeptAlready, NoPlace, NotHolder, NotMet, NotSentYet, OtherList, OutsideLimits, PartyDown, Unreadable, WrongTurn}
use Rattle.log_entry.specs.Number.{Answer, answer_number}
use Rattle.log_entry.specs.Refusal.{accepted, check, first_refusal, no_place}
use Rattle.log_entry.proofs.AnswerLaws.{err_ok}
use Rattle.log_core.specs.declared.Log.{Log}
use Rattle.host_records.proofs.ReadingLaws.{entry_read}
use Rattle.host_records.specs.declared.Numbers.{Numbers}
use Rattle.host_records.specs.Numbers.{Reading, entry_of, read_numbers}
use Rattle.release_log.specs.Add.{passing}
use Rattle.host_lent.specs.Lent.{enter_reading}

-- an answer of 0 accepts
pub number_ok : (a : Answer) → answer_number a ≡ answer_number accepted → a ≡ accepted
number_ok (Ok done) h = refl
number_ok (Err Unreadable) h = absurd (omega arith)
number_ok (Err OutsideLimits) h = absurd (omega arith)
number_ok (Err PartyDown) h = absurd (omega arith)
number_ok (Err NotSentYet) h = absurd (omega arith)
number_ok (Err NotMet) h = absurd (omega arith)
number_ok (Err NoPlace) h = absurd (omega arith)
number_ok (Err IllFormedVote) h = absurd (omega arith)
number_ok (Err NotHolder) h = absurd (omega arith)
number_ok (Err OtherList) h = absurd (omega arith)
number_ok (Err KeptAlready) h = absurd (omega arith)
number_ok (Err HoldsAnother) h = absurd (omega arith)
number_ok (Err WrongTurn) h = absurd (omega arith)

pub record Passed (a b : Answer) (c : Bool) : Type 0 where
  pub records : a ≡ accepted
  pub entry : b ≡ accepted
  pub place : c ≡ false

pub passed : (a b : Answer) (c : Bool) → first_refusal (passing a ∷ passing b ∷ check no_place c ∷ []) ≡ accepted → Passed a b c
unfolding first_refusal
passed (Ok done) (Ok done') false h = record { records = refl; entry = refl; place = refl }
passed (Ok done) (Ok done') true h = absurd (err_ok h)
passed (Ok done) (Err r) c h = absurd (err_ok h)
passed (Err r) b c h = absurd (err_ok h)

-- numbers that the log accepts stand for an entry
pub numbers_accepted : (limit : ℕ) (l : Log) (n : Numbers) → (enter_reading l (read_numbers limit n)).answer ≡ accepted → read_numbers limit n ≡ Ok (entry_of n)
unfolding enter_reading
numbers_accepted limit l n h = split (read_numbers limit n) refl
  where
    split : (r : Reading) → read_numbers limit n ≡ r → read_numbers limit n ≡ Ok (entry_of n)
    split (Ok e) k = k ∙ ap Ok (sym (entry_read limit n k))
    split (Err m) k = absurd (err_ok (rw k at h))
