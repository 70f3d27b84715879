-- The log after lent records, record by record.
use Rattle.log_votes.specs.Vote.{vote_kept}
use Rattle.log_entry.specs.Entry.{by_of, is_take, tx_of}
use Prim.Native.Nat.{ℕ, zero, suc, ◌%◌, ◌+◌, ◌-◌, ◌*◌, ◌/◌, ◌<◌, ◌^◌, ◌≤◌}
use mathlib.Core.Bool.{Bool, cond, false, true}
use mathlib.Core.List.{List, [], ◌∷◌}
use mathlib.Core.Logic.{◌⊎◌, inl, inr, ⊎_elim}
use mathlib.Core.Path.{◌≡◌, ap, refl, sym, ◌∙◌}
use native.Mathlib.Numerals.{add-one}
use native.Mathlib.Omega.{arith}
use borrow.Author.Tests.{eqb-true, le-ltb, lt-ltb, ltb-false, ne_eqb, not-false}
use lib.Bits.{bit_or}
use lib.Dec.{eqb, ltb}
use lib.ListN.{drop, drop_of_length-le, get_or, length, set, take}
use lib.Seq.{drop-cons, get_or-set_same}
use Rattle.std.specs.Simd.{first_chunks}
use Rattle.log_entry.specs.declared.Entry.{Entry}
use Rattle.log_entry.specs.Entry.{outside}
use Rattle.log_entry.specs.Limits.{small_stores, stores, transactions}
use Rattle.std.proofs.Common.{Err, Ok, is_ok}
use Rattle.log_entry.specs.declared.refusal.Refusal.{Refusal}
use Rattle.log_entry.specs.Refusal.{accepted, outside_limits}
use Rattle.log_entry.proofs.AnswerLaws.{err_ok, not_ok}
use Rattle.log_entry.proofs.Tests.{by_test, is_false, or_cases}
use Rattle.log_votes.specs.declared.Row.{Row}
use Rattle.log_votes.specs.Outcome.{tally_of}
use Rattle.log_votes.specs.Refusal.{any_clash}
use Rattle.log_votes.specs.Row.{vote_of_store}
use Rattle.log_votes.proofs.RefusalLaws.{accepted_vote}
use Rattle.log_core.proofs.DecideLaws.{answer_vote}
use Rattle.log_core.proofs.EnterLaws.{enter_accepted, enter_refused, enter_stored, holder_stored, refusal_of}
use Rattle.log_core.proofs.Limit.{enter_limit, opened_limit}
use Rattle.log_core.specs.declared.Effect.{Effect}
use Rattle.log_core.specs.declared.Entered.{Entered}
use Rattle.log_core.specs.declared.Log.{Log}
use Rattle.log_core.specs.Enter.{answered, enter, stored}
use Rattle.log_core.specs.Decide.{effect_of, parts_of, refusal, vote_parts_of}
use Rattle.log_core.specs.Group.{remembered}
use Rattle.host_records.specs.Numbers.{Reading}
use Rattle.host_records.specs.Record.{read_record, record_size}
use Rattle.log_core.specs.Log.{empty_log, opened, row_of}
use Rattle.host_lent.specs.declared.Summary.{Summary}
use Rattle.host_lent.specs.Summary.{IsOf, summary_parts}
use Rattle.host_lent.specs.Lent.{enter_reading, enter_record, lent_log, log_after, no_limit, records_entered, records_in}

-- the log of its parts
abbrev pub log_of : ℕ → List Row → List ℕ → List ℕ → List ℕ → List ℕ → ℕ → List ℕ → Log
log_of stores rows holders turns takers latest groups remembered =
    record { rows = rows; holders = holders; turns = turns; takers = takers; latest = latest; groups = groups; remembered = remembered; stores = stores }

module _ (l : Log) {r : Reading} where
  pub entered : {e : Entry} {t : Entered} → r ≡ Ok e → t ≡ enter l e → t ≡ enter_reading l r
  unfolding enter_reading
  entered h k = rw (h, k)

  pub refused : {n : Refusal} → r ≡ Err n → answered l (Err n) ≡ enter_reading l r
  unfolding enter_reading
  refused h = rw h

-- a take that the log accepts, stored by a shifted one
pub take_stored : (l : Log) (e : Entry) → is_take e ≡ true → e.process < 16 → refusal_of l e ≡ accepted
    → answered
    (record {
      rows = l.rows;
      holders = set l.holders e.store e.process;
      turns = set l.turns e.store e.turn;
      takers = set l.takers e.store (bit_or (get_or l.takers e.store 0) (1 * 2 ^ e.process % 65536));
      latest = set l.latest e.process e.turn;
      groups = l.groups;
      remembered = l.remembered;
      stores = l.stores;
    })
    accepted
    ≡ enter l e
take_stored l e take h ok =
    ap (λ (m : Log). answered m accepted) (holder_stored l e (effect_of (parts_of l e) e) take h) ∙ enter_accepted l e ok

-- what a vote is decided on, by the summary of its row
pub vote_parts_lem : (l : Log) (e : Entry) (s : Summary) (last : ℕ) {by tx : ℕ} → tx_of e ≡ tx → by_of e ≡ by → IsOf s (row_of l tx) → last ≡ remembered l l.groups
    → summary_parts s e (get_or l.holders by 0) (get_or l.turns by 0) l.groups last ≡ vote_parts_of (parts_of l e) e
vote_parts_lem l e s last on holds is remembers = λ i. record {
  tally = (is.0 ∙ ap (λ (t : ℕ). tally_of (row_of l t).votes) (sym on)) i;
  clash = (is.2 e ∙ ap (λ (t : ℕ). any_clash e (row_of l t).votes) (sym on)) i;
  group = (is.1 ∙ ap (λ (t : ℕ). (row_of l t).group) (sym on)) i;
  holder = get_or l.holders (sym holds i) 0;
  turn = get_or l.turns (sym holds i) 0;
  groups = l.groups;
  remembered = remembers i;
}

-- a vote that was decided so
module _ (l : Log) (e : Entry) (vote : is_take e ≡ false) (f : Effect) (is : f ≡ effect_of (parts_of l e) e) where
  place : tx_of e ≡ cond (is_take e) 0 (tx_of e)
  place = sym (ap (λ (b : Bool). cond b 0 (tx_of e)) vote)

  pub vote_refused : (f.answer ≡ accepted → ⊥) → answered l f.answer ≡ enter l e
  vote_refused = enter_refused l e (tx_of e) (remembered l l.groups) place refl f is

  pub vote_stored : f.answer ≡ accepted → {m : Log} → m ≡ stored l e f → answered m accepted ≡ enter l e
  vote_stored = enter_stored l e (tx_of e) (remembered l l.groups) place refl f is

  said : f.answer ≡ refusal (parts_of l e) e
  unfolding effect_of
  said = ap (λ (f : Effect). f.answer) is

  pub vote_agrees : outside l.stores e ≡ false → f.answer ≡ accepted
      → (any_clash e (row_of l (tx_of e)).votes ≡ false) × (vote_kept (vote_of_store e.store (row_of l (tx_of e))) ≡ false)
  vote_agrees inside ok =
      accepted_vote (row_of l (tx_of e)) (get_or l.holders (by_of e) 0) (get_or l.turns (by_of e) 0) e (answer_vote (parts_of l e) e inside vote refl ∙ sym said ∙ ok)

-- what the last group remembers, once it is begun
pub last_begun : (all : List ℕ) → length all ≡ transactions → (g running : ℕ) → 0 < g → g ≤ transactions
    → running ≡ cond (eqb g 0) 0 (get_or (set all (g - 1) running) (g - 1) 0)
last_begun all size g running h k =
    rw (ne_eqb g 0 (λ z. omega (arith, h, z))) (sym (get_or-set_same all (g - 1) running 0 (omega (arith, size, h, k))))

-- there are two limits
pub one_of_two : (limit : ℕ) → no_limit limit ≡ false → (limit ≡ stores) ⊎ (limit ≡ small_stores)
one_of_two limit h =
    ⊎_elim (λ (k : eqb limit stores ≡ true). inl (eqb-true limit stores k)) (λ k. inr (eqb-true limit small_stores k))
    (or_cases (eqb limit stores) (eqb limit small_stores) (not-false _ h))

pub limit_is_byte : (limit : ℕ) → no_limit limit ≡ false → limit < 256
limit_is_byte limit h = ⊎_elim (λ (k : limit ≡ stores). omega arith) (λ k. omega (arith, k)) (one_of_two limit h)

module _ (limit : ℕ) (bytes : List ℕ) (count : ℕ) where
  pub no_such_limit : no_limit limit ≡ true → answered empty_log outside_limits ≡ lent_log limit bytes count
  unfolding lent_log
  no_such_limit h = rw h

  module _ (h : no_limit limit ≡ false) where
    pub count_beyond : length bytes / record_size < count → answered empty_log outside_limits ≡ lent_log limit bytes count
    unfolding lent_log
    count_beyond k = rw (h, lt-ltb (length bytes) (count * record_size) (omega arith))

    pub count_within : count ≤ length bytes / record_size → records_entered limit bytes count ≡ lent_log limit bytes count
    unfolding lent_log
    count_within k = rw (h, le-ltb (length bytes) (count * record_size) (omega arith))

module _ (l : Log) (records : List (List ℕ)) (i : ℕ) where
  pub none_left : length records ≤ i → answered l accepted ≡ log_after l (drop i records)
  unfolding log_after
  none_left h = rw (drop_of_length-le records {i = i} h)

  -- one record more, and what the log says to it
  module _ (more : i < length records) {t : Entered} (h : t ≡ enter_record l (get_or records i [])) where
    pub record_refused : (t.answer ≡ accepted → ⊥) → log_after l (drop i records) ≡ t
    unfolding log_after
    record_refused n = rw (drop-cons records i [] more, ← h, not_ok t.answer n)

    pub record_accepted : t.answer ≡ accepted → log_after l (drop i records) ≡ log_after t.log (drop (i + 1) records)
    unfolding log_after
    record_accepted n = rw (drop-cons records i [] more, ← h, ap is_ok n, add-one)

-- the first records of a buffer, as std cuts it
pub chunks_in : (count most : ℕ) (bytes : List ℕ) → count ≤ most → take count (first_chunks record_size most bytes) ≡ records_in bytes count
unfolding records_in
chunks_in zero most bytes h = refl
chunks_in (suc count) zero bytes h = absurd (omega arith)
chunks_in (suc count) (suc most) bytes h = ap (λ (rs : List (List ℕ)). take record_size bytes ∷ rs) (chunks_in count most (drop record_size bytes) (omega arith))

-- ---- the log after lent records has the limit of the call

pub reading_limit : (l : Log) (r : Reading) → (enter_reading l r).log.stores ≡ l.stores
unfolding enter_reading
reading_limit l (Ok e) = enter_limit l e
reading_limit l (Err n) = refl

pub after_limit : (l : Log) (rs : List (List ℕ)) → (log_after l rs).log.stores ≡ l.stores
unfolding log_after
after_limit l [] = refl
after_limit l (r ∷ rs) =
    by_test (λ (t : Entered). t.log.stores ≡ l.stores) (is_ok (enter_record l r).answer) _ _
    (λ h. after_limit (enter_record l r).log rs ∙ reading_limit l (read_record l.stores r))
    (λ h. reading_limit l (read_record l.stores r))

module _ (limit : ℕ) (bytes : List ℕ) (count : ℕ) (h : (lent_log limit bytes count).answer ≡ accepted) where
  pub limit_fits : no_limit limit ≡ false
  unfolding lent_log
  limit_fits = is_false (no_limit limit) (λ k. err_ok (rw k at h))

  pub limit_byte : limit < 256
  limit_byte = limit_is_byte limit limit_fits

  pub count_fits : count * record_size ≤ length bytes
  unfolding lent_log
  count_fits =
      ltb-false (length bytes) (count * record_size)
      (is_false (ltb (length bytes) (count * record_size)) (λ k. err_ok (rw (limit_fits, k) at h)))

  pub lent_after : lent_log limit bytes count ≡ records_entered limit bytes count
  unfolding lent_log
  lent_after = rw (limit_fits, le-ltb (length bytes) (count * record_size) count_fits)

  pub lent_limit : (lent_log limit bytes count).log.stores ≡ limit
  lent_limit = ap (λ (t : Entered). t.log.stores) lent_after ∙ after_limit (opened limit) (records_in bytes count) ∙ opened_limit limit
