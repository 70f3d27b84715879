-- What the tests of an added entry come to: the answer, and the lent buffer afterwards.
use Prim.Native.Nat.{ℕ, suc, ◌-◌, ◌*◌, ◌<◌, ◌≤◌}
use mathlib.Core.List.{List}
use mathlib.Core.Path.{◌≡◌, sym, ◌∙◌}
use native.Mathlib.Omega.{arith}
use borrow.Author.Tests.{le-ltb, lt-ltb}
use Rattle.std.proofs.Common.{Err, Ok}
use lib.ListN.{length}
use lib.Seq.{sets}
use Rattle.log_entry.specs.declared.Entry.{Entry}
use Rattle.log_entry.specs.declared.refusal.Refusal.{Refusal}
use Rattle.log_entry.specs.Number.{Answer}
use Rattle.log_entry.specs.Refusal.{accepted, first_refusal, no_place}
use Rattle.log_core.specs.declared.Entered.{Entered}
use Rattle.log_core.specs.declared.Log.{Log}
use Rattle.log_core.specs.Enter.{enter}
use Rattle.host_records.proofs.ReadingLaws.{entry_read}
use Rattle.host_records.specs.declared.Numbers.{Numbers}
use Rattle.host_records.specs.Numbers.{read_numbers}
use Rattle.host_records.specs.Record.{record_of, record_size}
use Rattle.release_log.specs.Add.{add_bytes, added_answer}
use Rattle.host_lent.specs.Lent.{enter_reading, lent_log}
use Rattle.release_log.specs.Parts.{entry_answer, entry_bytes}

module _ (bytes : List ℕ) (count : ℕ) (l : Log) (e : Entry) where
  abbrev Entered-so : Answer → List ℕ → Type 0
  Entered-so r after = (r ≡ entry_answer bytes count l e) × (after ≡ entry_bytes bytes count l e)

  pub entry_refused : {r : Refusal} → (enter l e).answer ≡ Err r → Entered-so (Err r) bytes
  unfolding entry_answer entry_bytes first_refusal
  entry_refused h = (rw h, rw h)

  module _ (accept : (enter l e).answer ≡ accepted) where
    pub entry_no_place : length bytes - count * record_size < record_size → Entered-so no_place bytes
    unfolding entry_answer entry_bytes first_refusal
    entry_no_place k =
        (rw (accept, lt-ltb (length bytes) (suc count * record_size) (omega arith)), rw (accept, lt-ltb (length bytes) (suc count * record_size) (omega arith)))

    pub entry_stored : record_size ≤ length bytes - count * record_size → {after : List ℕ} → after ≡ sets bytes (count * record_size) (record_of e) → Entered-so accepted after
    unfolding entry_answer entry_bytes first_refusal
    entry_stored k a =
        (rw (accept, le-ltb (length bytes) (suc count * record_size) (omega arith)), rw (accept, le-ltb (length bytes) (suc count * record_size) (omega arith), a))

module _ (limit : ℕ) (bytes : List ℕ) (count : ℕ) (n : Numbers) {t : Entered} (lent : t ≡ lent_log limit bytes count) where
  abbrev Added-so : Answer → List ℕ → Type 0
  Added-so r after = (r ≡ added_answer limit bytes count n) × (after ≡ add_bytes limit bytes count n)

  pub records_refused : {r : Refusal} → t.answer ≡ Err r → Added-so (Err r) bytes
  unfolding added_answer add_bytes first_refusal
  records_refused h = (rw (← lent, h), rw (← lent, h))

  module _ (accept : t.answer ≡ accepted) where
    pub numbers_refused : {r : Refusal} → Err r ≡ read_numbers limit n → Added-so (Err r) bytes
    unfolding added_answer add_bytes first_refusal enter_reading
    numbers_refused read = (rw (← lent, accept, ← read), rw (← lent, accept, ← read))

    pub entry_added : {e : Entry} → Ok e ≡ read_numbers limit n → {k : Answer} {after : List ℕ}
        → k ≡ entry_answer bytes count t.log e → after ≡ entry_bytes bytes count t.log e → Added-so k after
    unfolding added_answer add_bytes entry_answer entry_bytes first_refusal enter_reading
    entry_added read a b =
        (a ∙ rw (← lent, accept, ← read), b ∙ rw (← lent, accept, ← read, entry_read limit n (sym read)))
