use Rattle.log_votes.specs.Vote.{vote_kept}
use Rattle.log_entry.specs.Entry.{by_of, is_take, tx_of}
use Rattle.std.proofs.Common.{◌≡◌, ◌+◌, ◌-◌, ◌<◌, ◌≤◌, ℕ, List, [], false, true, length, get_or, set, drop, refl, subst, sym, ap, ◌∙◌, arith, length-set}
use Rattle.log_entry.specs.declared.Entry.{Entry}
use Rattle.log_entry.specs.declared.Request.TheVariants.{Take, Vote}
use Rattle.log_entry.specs.declared.Say.{Say}
use Rattle.log_entry.specs.Entry.{by_of, in_by_of, in_is_take, in_tx_of, is_take, tx_of}
use Rattle.log_entry.specs.Number.{Answer}
use Rattle.log_entry.proofs.AnswerLaws.{err_accepted, err_ok, err_refused}
use Rattle.std.proofs.lemmas.Result.{MatchResult-at_err}
use Rattle.log_votes.specs.Vote.{vote_kept}
use Rattle.log_entry.specs.Entry.{outside}
use Rattle.log_entry.specs.Limits.{stores, transactions}
use Rattle.log_entry.specs.Refusal.{accepted, first_refusal}
use Rattle.log_entry.proofs.InsideLaws.{inside_process, inside_store, inside_vote}
use Rattle.log_votes.specs.declared.Row.{Row}
use Rattle.log_votes.specs.Outcome.{running}
use Rattle.log_votes.specs.Refusal.{any_clash}
use Rattle.log_votes.specs.Row.{in_group, keeping, vote_of_entry, vote_of_store}
use Rattle.log_core.specs.declared.Effect.{Effect}
use Rattle.log_core.specs.declared.Entered.{Entered}
use Rattle.log_core.specs.declared.Log.{Log}
use Rattle.log_core.specs.declared.Parts.{Parts}
use Rattle.log_core.specs.declared.VoteParts.{VoteParts}
use Rattle.log_core.specs.Decide.{effect_of, parts_of, vote_parts_of}
use Rattle.log_core.specs.Enter.{answered, enter, stored}
use Rattle.log_core.specs.Log.{opened, row_of}
use Rattle.log_core.specs.Refusal.{take_checks}
use Rattle.log_core.proofs.DecideLaws.{answer_take, begins_group, effect_runs}
use Rattle.log_core.proofs.EmptyLaws.{rows_without_votes}
use Rattle.log_core.proofs.EnterLaws.{enter_answered, refusal_of, remembered_last, stored_group, stored_row}
use Rattle.std.proofs.Common.{Err, Ok}
use Rattle.host_records.specs.Record.{read_record}
use Rattle.host_records.proofs.RecordReadings.{record_inside}
use Rattle.host_lent.specs.declared.Summary.{Summary}
use Rattle.host_lent.specs.Lent.{log_after}
use Rattle.host_lent.specs.Summary.{IsOf, no_summary, summary_parts}
use Rattle.host_lent.proofs.LentLaws.{entered, last_begun, log_of, none_left, record_accepted, record_refused, refused, take_stored, vote_agrees, vote_parts_lem, vote_refused, vote_stored}
use Rattle.host_lent.proofs.RunningLaws.{bit_within, none_running, set_after, set_fits, vote_runs}
use Rattle.host_lent.proofs.SummaryLaws.{AllOf, all_none, all_set, row_of_lem}
use Rattle.host_lent.proofs.entered.Goals as goal
use Rattle.host_lent.proofs.entered.Goals.{In-Ok, then-f, else-f}

-- ---- a turn in which the record at hand reads as an entry

module _ (c : In-Ok) where
  abbrev entry : Entry
  entry = c.in-Ok.e

  -- the log before it
  abbrev log : Log
  log = log_of c.args.stores c.loop-record.rows c.loop-record.holders c.loop-record.turns c.loop-record.takers c.loop-record.latest c.loop-record.groups c.loop-record.remembered

  -- the record at hand, and the records after it
  abbrev this : List ℕ
  this = get_or c.args.records.now c.loop-record.record-index []

  abbrev rest : List (List ℕ)
  rest = drop (c.loop-record.record-index + 1) c.args.records.now

  abbrev whole : Entered
  whole = log_after (opened c.args.stores) c.args.records.now

  reads : read_record c.args.stores this ≡ Ok entry
  reads = sym c.read-read.ensures ∙ c.in-Ok.is

  inside : outside c.args.stores entry ≡ false
  inside = record_inside c.args.stores _ reads

  store_inside : entry.store < stores
  store_inside = inside_store c.args.stores entry inside

  process_inside : entry.process < 16
  process_inside = omega (arith, inside_process c.args.stores entry inside)

  -- the log refuses it
  refused_so : {n : Answer} → answered log n ≡ enter log entry → (n ≡ accepted → ⊥) → answered log n ≡ whole
  refused_so h wrong =
      sym (c.loop-record.invariant.same_whole ∙ record_refused log c.args.records.now c.loop-record.record-index c.loop-record-test.true (entered log reads h) wrong)

  -- the log takes it, and is m
  taken_so : {m : Log} → answered m accepted ≡ enter log entry → whole ≡ log_after m rest
  taken_so h =
      c.loop-record.invariant.same_whole ∙ record_accepted log c.args.records.now c.loop-record.record-index c.loop-record-test.true (entered log reads h) refl

  -- and asks for the store
  module _ (asks : entry.request ≡ Take) where
    takes : is_take entry ≡ true
    takes = ap in_is_take asks

    -- the answer to it
    take_so : {n : Answer} → n ≡ first_refusal (take_checks c.loop-record.holders (get_or c.loop-record.takers entry.store 0) (get_or c.loop-record.latest entry.process 0) entry)
        → n ≡ refusal_of log entry
    take_so is = is ∙ answer_take (parts_of log entry) entry inside takes

  -- and is a vote
  module _ {by tx list : ℕ} {say : Say} {update : ℕ} (asks : entry.request ≡ Vote by tx list say update) where
    vote : is_take entry ≡ false
    vote = ap in_is_take asks

    on : tx_of entry ≡ tx
    on = ap in_tx_of asks

    holds : by_of entry ≡ by
    holds = ap in_by_of asks

    tx_inside : tx < transactions
    tx_inside = omega (arith, on, (inside_vote c.args.stores entry inside vote).tx)

    by_inside : by < stores
    by_inside = omega (arith, holds, (inside_vote c.args.stores entry inside vote).by)

    summary_so : IsOf (get_or c.loop-record.summaries tx no_summary) (row_of log tx)
    summary_so = c.loop-record.invariant.summaries_kept.1 tx tx_inside

    -- what it was decided on, and the effect
    effect_so : {p : VoteParts} {f : Effect}
        → p ≡ summary_parts (get_or c.loop-record.summaries tx no_summary) entry (get_or c.loop-record.holders by 0) (get_or c.loop-record.turns by 0) c.loop-record.groups c.loop-record.last
        → ((q : Parts) → p ≡ vote_parts_of q entry → length q.row.votes ≡ stores → outside q.stores entry ≡ false → is_take entry ≡ false → f ≡ effect_of q entry)
        → f ≡ effect_of (parts_of log entry) entry
    effect_so is decided =
        decided (parts_of log entry)
        (is ∙ vote_parts_lem log entry (get_or c.loop-record.summaries tx no_summary) c.loop-record.last on holds summary_so (remembered_last log c.loop-record.invariant.last_kept))
        (ap (λ (t : ℕ). length (row_of log t).votes) on ∙ summary_so.3) inside vote

    -- an accepted one, kept in its row
    module _ {f : Effect} (is : f ≡ effect_of (parts_of log entry) entry) (ok : f.answer ≡ accepted) {r : Row} (keeps : r ≡ keeping (row_of log tx) entry) where
      kept_so : r ≡ keeping (row_of log (tx_of entry)) entry
      kept_so = keeps ∙ ap (λ (t : ℕ). keeping (row_of log t) entry) (sym on)

      runs_so : f.runs ≡ running (in_group r f.group)
      runs_so =
          let row = row_of log (tx_of entry) in
          let size : length row.votes ≡ stores = ap (λ (t : ℕ). length (row_of log t).votes) on ∙ summary_so.3 in
          let here : entry.store < length (keeping row entry).votes = omega (arith, length-set row.votes entry.store (vote_of_entry entry), size, store_inside) in
          effect_runs (parts_of log entry) entry f is ok vote
          ∙ vote_runs row entry f.group here
          ∙ ap (λ (r : Row). running (in_group r f.group)) (sym kept_so)

      agrees : (any_clash entry (row_of log tx).votes ≡ false) × (vote_kept (vote_of_store entry.store (row_of log tx)) ≡ false)
      agrees =
          subst (λ (t : ℕ). (any_clash entry (row_of log t).votes ≡ false) × (vote_kept (vote_of_store entry.store (row_of log t)) ≡ false)) on
          (vote_agrees log entry vote f is inside ok)

      summaries_so : (s : Summary)
          → ((q : Row) → IsOf (get_or c.loop-record.summaries tx no_summary) q → entry.store < stores → any_clash entry q.votes ≡ false → vote_kept (vote_of_store entry.store q) ≡ false → IsOf s (in_group (keeping q entry) f.group))
          → AllOf (set c.loop-record.summaries tx s) (set c.loop-record.rows tx (in_group r f.group))
      summaries_so s says =
          all_set c.loop-record.summaries c.loop-record.rows c.loop-record.invariant.summaries_kept c.loop-record.invariant.all_rows tx tx_inside s (in_group r f.group)
          (row_of_lem s (ap (λ (r : Row). in_group r f.group) (sym keeps)) (says (row_of log tx) summary_so store_inside agrees.0 agrees.1))

      -- the log that it is stored in is m
      stored_so : {m : Log} → m ≡ stored log entry f → whole ≡ log_after m rest
      stored_so h = taken_so (vote_stored log entry vote f is ok h)

    -- a group that is begun has its place
    begun : {f : Effect} → f ≡ effect_of (parts_of log entry) entry → f.begins ≡ true → (0 < f.group) × (f.group ≤ transactions)
    begun {f} is h = begins_group (parts_of log entry) entry f is h

-- ---- before the first record

pub loop-record-init : goal.loop-record-init
loop-record-init c = record {
  accepted_so_far = refl;
  same_whole =
      ap (λ (l : Log). log_after l c.args.records.now) (sym (rows_without_votes refl c.args.none c.requires));
  all_rows = refl;
  running_kept = none_running c.args.none c.requires;
  summaries_kept = all_none c.none-summary.result c.args.none c.none-summary.ensures c.requires;
  all_groups = refl;
  last_kept = refl;
}

-- ---- a take

pub bounds-takers-store : goal.bounds-takers-store
bounds-takers-store c = store_inside (goal.at.bounds-takers-store c).In-Ok

pub bounds-latest-process : goal.bounds-latest-process
bounds-latest-process c = process_inside (goal.at.bounds-latest-process c).In-Ok

pub bounds-holders-store : goal.bounds-holders-store
bounds-holders-store c = store_inside (goal.at.bounds-holders-store c).In-Ok

pub bounds-turns-store : goal.bounds-turns-store
bounds-turns-store c = store_inside (goal.at.bounds-turns-store c).In-Ok

pub bounds-takers-store-in_default-request : goal.bounds-takers-store-in_default-request
bounds-takers-store-in_default-request c = store_inside (goal.at.bounds-takers-store-in_default-request c).In-Ok

pub overflow_shl-takers : goal.overflow_shl-takers
overflow_shl-takers c = process_inside (goal.at.overflow_shl-takers c).In-Ok

pub bounds-takers-store-in_default-request-2 : goal.bounds-takers-store-in_default-request-2
bounds-takers-store-in_default-request-2 c = store_inside (goal.at.bounds-takers-store-in_default-request-2 c).In-Ok

pub bounds-latest-process-in_default-request : goal.bounds-latest-process-in_default-request
bounds-latest-process-in_default-request c = process_inside (goal.at.bounds-latest-process-in_default-request c).In-Ok

pub loop-record-preserved-in_default-request : goal.loop-record-preserved-in_default-request
loop-record-preserved-in_default-request c =
    let turn = (goal.at.loop-record-preserved-in_default-request c).In-Ok in
    let asks = c.in_default-request.is in
    let ok = err_accepted c.take_refusal-refused.result (sym c.is_err.ensures.value ∙ c.if-is_err.false) in
    record {
      accepted_so_far = c.loop-record.invariant.accepted_so_far;
      same_whole = taken_so turn (take_stored (log turn) (entry turn) (takes turn asks) (process_inside turn) (sym (take_so turn asks c.take_refusal-refused.ensures) ∙ ok));
      all_rows = c.loop-record.invariant.all_rows;
      running_kept = c.loop-record.invariant.running_kept;
      summaries_kept = c.loop-record.invariant.summaries_kept;
      all_groups = c.loop-record.invariant.all_groups;
      last_kept = c.loop-record.invariant.last_kept;
    }

-- ---- a vote

pub bounds-summaries-place : goal.bounds-summaries-place
bounds-summaries-place c = tx_inside (goal.at.bounds-summaries-place c).In-Ok c.in-Vote.is

pub bounds-holders-holding : goal.bounds-holders-holding
bounds-holders-holding c = by_inside (goal.at.bounds-holders-holding c).In-Ok c.in-Vote.is

pub bounds-turns-holding : goal.bounds-turns-holding
bounds-turns-holding c = by_inside (goal.at.bounds-turns-holding c).In-Ok c.in-Vote.is

pub bounds-summaries-place-in-loop-record : goal.bounds-summaries-place-in-loop-record
bounds-summaries-place-in-loop-record c = tx_inside (goal.at.bounds-summaries-place-in-loop-record c).In-Ok c.in-Vote.is

pub bounds-rows-place : goal.bounds-rows-place
bounds-rows-place c = tx_inside (goal.at.bounds-rows-place c).In-Ok c.in-Vote.is

pub noted-after-requires-clause-tx_bound : goal.noted-after-requires-clause-tx_bound
noted-after-requires-clause-tx_bound c =
    bit_within c.loop-record.rows c.loop-record.running c.loop-record.invariant.running_kept c.loop-record.invariant.all_rows c.in-Vote.tx
    (tx_inside (goal.at.noted-after-requires-clause-tx_bound c).In-Ok c.in-Vote.is)

pub noted-after-requires-clause-tx_bound_2 : goal.noted-after-requires-clause-tx_bound_2
noted-after-requires-clause-tx_bound_2 c =
    let turn = (goal.at.noted-after-requires-clause-tx_bound_2 c).In-Ok in
    let asks = c.in-Vote.is in
    let is = effect_so turn asks c.parts.ensures c.decide-f.ensures in
    let ok = err_accepted c.decide-f.result.answer (sym c.is_err-in-loop-record.ensures.value ∙ c.if-is_err-2.false) in
    set_fits c.loop-record.rows c.loop-record.running c.loop-record.invariant.running_kept c.loop-record.invariant.all_rows c.in-Vote.tx (tx_inside turn asks)
    (in_group c.keeping-kept.result c.decide-f.result.group) c.decide-f.result.runs
    (runs_so turn asks is ok c.keeping-kept.ensures)

pub overflow_sub-i : goal.overflow_sub-i
overflow_sub-i c =
    let turn = (goal.at.overflow_sub-i c).In-Ok in
    (begun turn c.in-Vote.is (effect_so turn c.in-Vote.is c.parts.ensures c.decide-f.ensures) c.if-f.true).0

pub bounds-remembered-i : goal.bounds-remembered-i
bounds-remembered-i c =
    let turn = (goal.at.bounds-remembered-i c).In-Ok in
    let b = begun turn c.in-Vote.is (effect_so turn c.in-Vote.is c.parts.ensures c.decide-f.ensures) c.if-f.true in
    omega (arith, b.0, b.1)

pub loop-record-preserved : goal.loop-record-preserved
loop-record-preserved c =
    let turn = (goal.at.loop-record-preserved c).In-Ok in
    let asks = c.in-Vote.is in
    let is = effect_so turn asks c.parts.ensures c.decide-f.ensures in
    let ok = err_accepted c.decide-f.result.answer (sym c.is_err-in-loop-record.ensures.value ∙ c.if-is_err-2.false) in
    let row = in_group c.keeping-kept.result c.decide-f.result.group in
    let rows = length-set c.loop-record.rows c.in-Vote.tx row ∙ c.loop-record.invariant.all_rows in
    let runs = c.noted-after.ensures
    ∙ set_after c.loop-record.rows c.loop-record.running c.loop-record.invariant.running_kept c.loop-record.invariant.all_rows c.in-Vote.tx (tx_inside turn asks) row c.decide-f.result.runs
    (runs_so turn asks is ok c.keeping-kept.ensures) in
    let summaries = summaries_so turn asks is ok c.keeping-kept.ensures c.keeping.result c.keeping.ensures in
    elim c.if-f.branch [
      | then-f w ↦
          let b = begun turn asks is w.if-f.true in
          rw (w.groups-is, w.remembered-is, w.last-is, w.running-is)
          (record {
            accepted_so_far = c.loop-record.invariant.accepted_so_far;
            same_whole =
                stored_so turn asks is ok c.keeping-kept.ensures
                (stored_group (log turn) (entry turn) c.decide-f.result (vote turn asks) (on turn asks) c.keeping-kept.ensures w.if-f.true c.loop-record.running c.loop-record.invariant.running_kept);
            all_rows = rows;
            running_kept = runs;
            summaries_kept = summaries;
            all_groups = length-set c.loop-record.remembered (c.decide-f.result.group - 1) c.loop-record.running ∙ c.loop-record.invariant.all_groups;
            last_kept = last_begun c.loop-record.remembered c.loop-record.invariant.all_groups c.decide-f.result.group c.loop-record.running b.0 b.1;
          })
      | else-f w ↦
          rw (w.groups-is, w.remembered-is, w.last-is, w.running-is)
          (record {
            accepted_so_far = c.loop-record.invariant.accepted_so_far;
            same_whole =
                stored_so turn asks is ok c.keeping-kept.ensures
                (stored_row (log turn) (entry turn) c.decide-f.result (vote turn asks) (on turn asks) c.keeping-kept.ensures w.if-f.false);
            all_rows = rows;
            running_kept = runs;
            summaries_kept = summaries;
            all_groups = c.loop-record.invariant.all_groups;
            last_kept = c.loop-record.invariant.last_kept;
          })
    ]

-- ---- the end: no record is left, or one is refused

pub returns-after-loop-record : goal.returns-after-loop-record
returns-after-loop-record c =
    let l = log_of c.args.stores c.loop-record.rows c.loop-record.holders c.loop-record.turns c.loop-record.takers c.loop-record.latest c.loop-record.groups c.loop-record.remembered in
    ap (answered l) c.loop-record.invariant.accepted_so_far
    ∙ none_left l c.args.records.now c.loop-record.record-index c.loop-record-test.false
    ∙ sym c.loop-record.invariant.same_whole

pub returns-in_default : goal.returns-in_default
returns-in_default c =
    let l = log_of c.args.stores c.loop-record.rows c.loop-record.holders c.loop-record.turns c.loop-record.takers c.loop-record.latest c.loop-record.groups c.loop-record.remembered in
    let reads_so : read_record c.args.stores (get_or c.args.records.now c.loop-record.record-index []) ≡ Err c.in_default.field-0 = sym c.read-read.ensures ∙ c.in_default.is in
    let same : c.map-answer.result ≡ Err c.in_default.field-0 = MatchResult-at_err _ _ c.in_default.field-0 c.in_default.is c.map-answer.ensures.cases in
    ap (λ (a : Answer). answered l a) same
    ∙ sym
    (c.loop-record.invariant.same_whole
    ∙ record_refused l c.args.records.now c.loop-record.record-index c.loop-record-test.true (refused l reads_so) err_ok)

pub returns-then-is_err : goal.returns-then-is_err
returns-then-is_err c =
    let turn = (goal.at.returns-then-is_err c).In-Ok in
    let wrong = err_refused c.take_refusal-refused.result (sym c.is_err.ensures.value ∙ c.if-is_err.true) in
    refused_so turn (enter_answered (log turn) (entry turn) (take_so turn c.in_default-request.is c.take_refusal-refused.ensures) wrong) wrong

pub returns-then-is_err-2 : goal.returns-then-is_err-2
returns-then-is_err-2 c =
    let turn = (goal.at.returns-then-is_err-2 c).In-Ok in
    let asks = c.in-Vote.is in
    let wrong = err_refused c.decide-f.result.answer (sym c.is_err-in-loop-record.ensures.value ∙ c.if-is_err-2.true) in
    refused_so turn (vote_refused (log turn) (entry turn) (vote turn asks) c.decide-f.result (effect_so turn asks c.parts.ensures c.decide-f.ensures) wrong) wrong
