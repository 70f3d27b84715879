-- Calls with the one limit and with the other.
use Prim.Native.Nat.{ℕ, ◌*◌}
use mathlib.Core.Bool.{Bool, true, false, cond, not, ◌||◌}
use mathlib.Core.List.{List, [], ◌∷◌}
use mathlib.Core.Path.{◌≡◌, ap, refl, subst, sym, ◌∙◌}
use native.Mathlib.Omega.{arith}
use borrow.Author.Tests.{le-leb, le-ltb, lt-leb, ne_eqb}
use lib.Dec.{eqb, ltb}
use lib.ListN.{length}
use Rattle.log_entry.specs.declared.Entry.{Entry}
use Rattle.log_entry.specs.Entry.{outside}
use Rattle.log_entry.specs.Limits.{no_store, no_transaction, small_stores, stores, stores_of, transactions_of}
use Rattle.log_entry.specs.Number.{answer_number}
use Rattle.log_entry.specs.Refusal.{accepted, outside_limits}
use Rattle.log_entry.proofs.Tests.{neither, or_left, or_right}
use Rattle.log_core.specs.declared.Entered.{Entered}
use Rattle.log_core.specs.declared.Log.{Log}
use Rattle.log_core.specs.Enter.{answered}
use Rattle.log_core.specs.Limit.{AllInside}
use Rattle.log_core.specs.Log.{empty_log, involvement_of, opened, outcome_of, with_limit}
use Rattle.log_core.specs.Replay.{replay_rows}
use Rattle.log_votes.specs.Involvement.{involvement_number}
use Rattle.log_votes.specs.Outcome.{outcome_number}
use Rattle.host_records.proofs.ReadingLaws.{entry_read, read_within}
use Rattle.host_records.specs.declared.Numbers.{Numbers}
use Rattle.host_records.specs.Numbers.{Reading, entry_of, read_numbers}
use Rattle.host_records.specs.Record.{record_size}
use Rattle.log_core.proofs.Limit.{opened_limit}
use Rattle.host_lent.proofs.LentLaws.{after_limit, lent_after, no_such_limit}
use Rattle.host_lent.specs.Lent.{enter_reading, lent_log, log_after, no_limit, records_entered, records_in}
use Rattle.release_log.specs.Add.{add_bytes, added_answer}
use Rattle.release_log.specs.Filled.{entries_in}
use Rattle.release_log.specs.Limited.{AcceptedWithThree, OtherLimitIsRefused, OutsideQueries, QueriesByOwnLimits, Refused, SameQuery, SmallCallsAsFull, TwoLimitsAreTaken}
use Rattle.release_log.specs.Query.{Query, bytes_after, query_answer, replay_value}
use Rattle.release_log.proofs.AddLaws as adds
use Rattle.release_log.proofs.LimitedRecords.{after_same, all_inside, limited, reading_same}
use Rattle.release_log.proofs.QueryLaws.{numbers_outside, records_refused}

-- ---- another limit

-- the records are answered 2
by_records : (q : Query) → q.lent.answer ≡ outside_limits → Refused q
by_records q h = record {
  answers = λ out. ap answer_number (sym (records_refused q out refl h).0);
  unchanged = λ out. sym (records_refused q out refl h).1;
}

pub other_limit_is_refused : OtherLimitIsRefused
other_limit_is_refused limit not_full not-small = record {
  add_answer = λ bytes count n. ap answer_number (sym (adds.records_refused limit bytes count n refl (said bytes count)).0);
  add_bytes = λ bytes count n. sym (adds.records_refused limit bytes count n refl (said bytes count)).1;
  outcome = λ bytes count tx. by_records _ (said bytes count);
  involvement = λ bytes count tx store. by_records _ (said bytes count);
  replay = λ bytes count store. by_records _ (said bytes count);
}
  where
    none : no_limit limit ≡ true
    none = ap not (neither (eqb limit stores) (eqb limit small_stores) (ne_eqb limit stores not_full) (ne_eqb limit small_stores not-small))

    said : (bytes : List ℕ) (count : ℕ) → (lent_log limit bytes count).answer ≡ outside_limits
    said bytes count = ap (λ (t : Entered). t.answer) (sym (no_such_limit limit bytes count none))

-- ---- a query's own numbers

by_numbers : (q : Query) → q.lent.answer ≡ accepted → q.outside ≡ true → Refused q
by_numbers q accept h = record {
  answers = λ out. ap answer_number (sym (numbers_outside q out refl accept h).0);
  unchanged = λ out. sym (numbers_outside q out refl accept h).1;
}

by_own_limits : (limit : ℕ) → OutsideQueries limit (stores_of limit) (transactions_of limit)
by_own_limits limit = record {
  outcome = λ bytes count tx accept h. by_numbers _ accept (le-leb (transactions_of limit) tx h);
  involvement_tx = λ bytes count tx store accept h. by_numbers _ accept (or_left (no_transaction limit tx) (no_store limit store) (le-leb (transactions_of limit) tx h));
  involvement_store = λ bytes count tx store accept h. by_numbers _ accept (or_right (no_transaction limit tx) (no_store limit store) (le-leb (stores_of limit) store h));
  replay = λ bytes count store accept h. by_numbers _ accept (le-leb (stores_of limit) store h);
}

pub queries_by_own_limits : QueriesByOwnLimits
queries_by_own_limits = (by_own_limits 8, by_own_limits 3)

-- ---- the same records with both limits

-- two that were entered alike: the same answer, the log but for its limit, and the answers of both
-- logs to numbers within the limits of n
record Alike (n : ℕ) (t u : Entered) : Type 0 where
  said : t.answer ≡ u.answer
  log : t.log ≡ with_limit t.log.stores u.log
  entry : (m : Numbers) → outside n (entry_of m) ≡ false → (enter_reading t.log (read_numbers n m)).answer ≡ (enter_reading u.log (read_numbers stores m)).answer

module _ (n : ℕ) (bytes : List ℕ) (count : ℕ) (within : AllInside n (entries_in bytes count)) where
  is_full_lem : (records_entered stores bytes count).log.stores ≡ stores
  is_full_lem = after_limit (opened stores) (records_in bytes count) ∙ opened_limit stores

  entered_same : records_entered n bytes count ≡ limited n (records_entered stores bytes count)
  unfolding opened
  entered_same = after_same n empty_log (records_in bytes count) (opened_limit stores) within

  entered_alike : Alike n (limited n (records_entered stores bytes count)) (records_entered stores bytes count)
  entered_alike = record {
    said = refl;
    log = refl;
    entry = λ m h.
        ap (λ (r : Reading). (enter_reading (with_limit n (records_entered stores bytes count).log) r).answer) (read_within n m h)
        ∙ ap (λ (t : Entered). t.answer)
        (reading_same n (records_entered stores bytes count).log is_full_lem (read_numbers stores m) (λ e k. ap (λ (e : Entry). outside n e) (sym (entry_read stores m k)) ∙ h));
  }

  unlent_alike : Alike n (answered empty_log outside_limits) (answered empty_log outside_limits)
  unlent_alike = record {
    said = refl;
    log = refl;
    entry = λ m h. ap (λ (r : Reading). (enter_reading empty_log r).answer) (read_within n m h);
  }

  by_count : (b : Bool) → Alike n (cond b (answered empty_log outside_limits) (records_entered n bytes count)) (cond b (answered empty_log outside_limits) (records_entered stores bytes count))
  by_count true = unlent_alike
  by_count false = subst (λ (t : Entered). Alike n t (records_entered stores bytes count)) (sym entered_same) entered_alike

lent_alike : (bytes : List ℕ) (count : ℕ) → AllInside 3 (entries_in bytes count) → Alike 3 (lent_log 3 bytes count) (lent_log 8 bytes count)
unfolding lent_log
lent_alike bytes count within = by_count 3 bytes count within (ltb (length bytes) (count * record_size))

same_query : (q r : Query) → q.lent.answer ≡ r.lent.answer → q.outside ≡ r.outside → q.value ≡ r.value → SameQuery q r
unfolding query_answer bytes_after
same_query q r said numbers value = record { answers = λ out. rw (said, numbers, value); writes = λ out. rw (said, numbers, value) }

pub small_calls_as_full : SmallCallsAsFull
unfolding added_answer add_bytes
small_calls_as_full bytes count within = record {
  records = both.said;
  add_answer = λ n h. rw (both.said, both.entry n h);
  add_bytes = λ n h. rw (both.said, both.entry n h);
  outcome = λ tx h. same_query _ _ both.said (inside_both (no_transaction 3 tx) (no_transaction 8 tx) (lt-leb 8 tx h) (lt-leb 32 tx (omega arith)))
      (ap (λ (l : Log). outcome_number (outcome_of l tx) ∷ []) both.log);
  involvement = λ tx store h k. same_query _ _ both.said
      (inside_both (no_transaction 3 tx || no_store 3 store) (no_transaction 8 tx || no_store 8 store)
      (neither (no_transaction 3 tx) (no_store 3 store) (lt-leb 8 tx h) (lt-leb 3 store k))
      (neither (no_transaction 8 tx) (no_store 8 store) (lt-leb 32 tx (omega arith)) (lt-leb 8 store (omega arith))))
      (ap (λ (l : Log). involvement_number (involvement_of l tx store) ∷ []) both.log);
  replay = λ store k. same_query _ _ both.said (inside_both (no_store 3 store) (no_store 8 store) (lt-leb 3 store k) (lt-leb 8 store (omega arith)))
      (ap (λ (l : Log). replay_value (replay_rows l store)) both.log);
}
  where
    both : Alike 3 (lent_log 3 bytes count) (lent_log 8 bytes count)
    both = lent_alike bytes count within

    inside_both : (a b : Bool) → a ≡ false → b ≡ false → a ≡ b
    inside_both a b h k = h ∙ sym k

pub accepted_with_three : AcceptedWithThree
accepted_with_three bytes count h =
    let entered = lent_after 3 bytes count h in
    subst (λ (n : ℕ). AllInside n (entries_in bytes count)) (opened_limit 3)
    (all_inside (opened 3) (records_in bytes count) (sym (ap (λ (t : Entered). t.answer) entered) ∙ h))

pub two_limits_are_taken : TwoLimitsAreTaken
unfolding lent_log log_after records_in
two_limits_are_taken bytes = (rw (none_beyond bytes), rw (none_beyond bytes))
  where
    none_beyond : (bytes : List ℕ) → ltb (length bytes) (0 * record_size) ≡ false
    none_beyond bytes = le-ltb (length bytes) (0 * record_size) (omega arith)
