-- What holds of the buffers that hosts lend.
use Prim.Native.Nat.{ℕ, suc, ◌*◌, ◌≤◌}
use mathlib.Core.Bool.{false}
use mathlib.Core.List.{List, [], ◌∷◌}
use mathlib.Core.Path.{◌≡◌, ap, refl, sym, ◌∙◌}
use native.Mathlib.Omega.{arith}
use borrow.Author.Tests.{le-ltb, ltb-false}
use Rattle.std.proofs.Common.{Ok, is_ok}
use lib.Dec.{ltb}
use lib.ListN.{length}
use lib.Seq.{length-sets, sets}
use Rattle.log_entry.specs.Limits.{update_bytes}
use Rattle.log_entry.specs.Number.{answer_number}
use Rattle.log_entry.specs.Refusal.{accepted}
use Rattle.log_core.specs.declared.Entered.{Entered}
use Rattle.log_core.specs.declared.Log.{Log}
use Rattle.log_core.specs.Enter.{answered, enter}
use Rattle.log_core.specs.Log.{opened}
use Rattle.host_records.proofs.LowFirst.{low_first_back}
use Rattle.host_records.proofs.Theorems.{read_is_proper, record_reads_back}
use Rattle.host_records.specs.declared.Numbers.{Numbers}
use Rattle.host_records.specs.Numbers.{entry_of, read_numbers}
use Rattle.host_records.specs.Record.{record_of, record_size}
use Rattle.host_lent.proofs.LentLaws.{count_within, lent_after, lent_limit, limit_fits}
use Rattle.release_log.proofs.AcceptedLaws.{Passed, number_ok, numbers_accepted, passed}
use Rattle.release_log.proofs.FedLaws.{log_after_more, records_fed}
use Rattle.release_log.proofs.RecordsLaws.{records_stored}
use Rattle.release_log.specs.Add.{add_answer, add_bytes, added_answer}
use Rattle.release_log.specs.Claims.{AddedEntryIsEntered, FilledIsAccepted, LentLogIsFed, RowReadsBack}
use Rattle.host_lent.specs.Lent.{enter_reading, enter_record, lent_log, log_after, no_limit, records_in}
use Rattle.release_log.specs.Filled.{Filled, added, empty}
use Rattle.release_log.specs.Limited.{AcceptedWithThree, OtherLimitIsRefused, QueriesByOwnLimits, SmallCallsAsFull, TwoLimitsAreTaken}
use Rattle.release_log.proofs.Limited

none_lent : (limit : ℕ) (bytes : List ℕ) → no_limit limit ≡ false → (lent_log limit bytes 0).answer ≡ accepted
unfolding lent_log log_after records_in
none_lent limit bytes h = rw (h, le-ltb (length bytes) (0 * record_size) (omega arith))

pub lent_log_is_fed : LentLogIsFed
lent_log_is_fed limit bytes count h =
    let e = lent_after limit bytes count h in
    ap (λ (t : Entered). t.log) e ∙ records_fed (opened limit) (records_in bytes count) (ap (λ (t : Entered). t.answer) (sym e) ∙ h)

-- one more record, of an entry that the log accepts
one_more : (l : Log) (r : List ℕ) {t : Entered} → enter_record l r ≡ t → t.answer ≡ accepted
    → log_after l (r ∷ []) ≡ answered t.log accepted
unfolding log_after
one_more l r e h = rw (e, ap is_ok h)

module _ (limit : ℕ) (bytes : List ℕ) (count : ℕ) (n : Numbers) (h : add_answer limit bytes count n ≡ answer_number accepted) where
  said : added_answer limit bytes count n ≡ accepted
  said = number_ok (added_answer limit bytes count n) h

  parts : Passed (lent_log limit bytes count).answer (enter_reading (lent_log limit bytes count).log (read_numbers limit n)).answer (ltb (length bytes) (suc count * record_size))
  unfolding added_answer
  parts = passed _ _ _ said

  read : read_numbers limit n ≡ Ok (entry_of n)
  read = numbers_accepted limit (lent_log limit bytes count).log n parts.entry

  stored : add_bytes limit bytes count n ≡ sets bytes (count * record_size) (record_of (entry_of n))
  unfolding add_bytes
  stored = rw (ap is_ok said)

  own_limit : (lent_log limit bytes count).log.stores ≡ limit
  own_limit = lent_limit limit bytes count parts.records

  room : suc count * record_size ≤ length bytes
  room = ltb-false (length bytes) (suc count * record_size) parts.place

  reads_back : enter_record (lent_log limit bytes count).log (record_of (entry_of n)) ≡ enter (lent_log limit bytes count).log (entry_of n)
  unfolding enter_reading
  reads_back = rw (own_limit, record_reads_back limit (entry_of n) (read_is_proper limit n read))

  entry_accepted : (enter (lent_log limit bytes count).log (entry_of n)).answer ≡ accepted
  unfolding enter_reading
  entry_accepted = rw read at parts.entry

  entered : lent_log limit (add_bytes limit bytes count n) (suc count) ≡ answered (enter (lent_log limit bytes count).log (entry_of n)).log accepted
  unfolding record_of
  entered =
      let r = record_of (entry_of n) in
      let before = lent_after limit bytes count parts.records in
      let more = sets bytes (count * record_size) r in
      let more_room : suc count * record_size ≤ length more = rw length-sets room in
      ap (λ (b : List ℕ). lent_log limit b (suc count)) stored
      ∙ sym (count_within limit more (suc count) (limit_fits limit bytes count parts.records) (omega (arith, more_room)))
      ∙ ap (λ (rs : List (List ℕ)). log_after (opened limit) rs) (records_stored count bytes r refl room)
      ∙ log_after_more (opened limit) (records_in bytes count) r (ap (λ (t : Entered). t.answer) (sym before) ∙ parts.records)
      ∙ ap (λ (t : Entered). log_after t.log (r ∷ [])) (sym before)
      ∙ one_more (lent_log limit bytes count).log r reads_back entry_accepted

pub added_entry_is_entered : AddedEntryIsEntered
added_entry_is_entered = entered

filled : (limit : ℕ) {bytes : List ℕ} {count : ℕ} → no_limit limit ≡ false → Filled limit bytes count → (lent_log limit bytes count).answer ≡ accepted
filled limit two (empty {bytes}) = none_lent limit bytes two
filled limit two (added {bytes} {count} n f h) = ap (λ (t : Entered). t.answer) (added_entry_is_entered limit bytes count n h)

pub filled_is_accepted : FilledIsAccepted
filled_is_accepted limit bytes count two f = filled limit two f

pub row_reads_back : RowReadsBack
row_reads_back r h = (refl, λ i. record { group = r.group; tx = r.tx; update = low_first_back update_bytes r.update h i })

-- ---- the limit of a call

pub other_limit_is_refused : OtherLimitIsRefused
other_limit_is_refused = Limited.other_limit_is_refused

pub two_limits_are_taken : TwoLimitsAreTaken
two_limits_are_taken = Limited.two_limits_are_taken

pub queries_by_own_limits : QueriesByOwnLimits
queries_by_own_limits = Limited.queries_by_own_limits

pub small_calls_as_full : SmallCallsAsFull
small_calls_as_full = Limited.small_calls_as_full

pub accepted_with_three : AcceptedWithThree
accepted_with_three = Limited.accepted_with_three
