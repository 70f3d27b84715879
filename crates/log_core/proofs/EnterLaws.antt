-- The log after an entry, by its effect.
use Rattle.log_entry.specs.Entry.{is_take, tx_of}
use Prim.Native.Nat.{ℕ, ◌%◌, ◌*◌, ◌-◌, ◌<◌, ◌^◌}
use mathlib.Core.Bool.{Bool, cond, false, true}
use mathlib.Core.Path.{◌≡◌, ap, ap₂, refl, sym, ◌∙◌}
use native.Mathlib.Omega.{arith}
use lib.Bits.{bit_or}
use lib.Dec.{eqb}
use lib.ListN.{get_or, set}
use Rattle.log_entry.specs.declared.Entry.{Entry}
use Rattle.log_entry.specs.Entry.{outside}
use Rattle.log_entry.specs.Limits.{transactions}
use Rattle.log_entry.specs.Refusal.{accepted, first_refusal, outside_limits}
use Rattle.log_entry.specs.Number.{Answer}
use Rattle.log_entry.proofs.AnswerLaws.{err_ok, not_ok}
use Rattle.log_entry.proofs.InsideLaws.{inside_vote}
use Rattle.log_entry.proofs.SetLaws.{one_shifted}
use Rattle.log_votes.specs.declared.Row.{Row}
use Rattle.log_votes.specs.Row.{in_group, keeping}
use Rattle.log_core.specs.declared.Effect.{Effect}
use Rattle.log_core.specs.declared.Log.{Log}
use Rattle.log_core.specs.declared.Parts.{Parts}
use Rattle.log_core.specs.Decide.{effect_of, parts_of, refusal}
use Rattle.log_core.specs.Enter.{answered, enter, entered, stored}
use Rattle.log_core.specs.Group.{remembered, running_set}
use Rattle.log_core.specs.Log.{latest_of, row_of, with_group, with_holder, with_row}
use Rattle.log_core.proofs.DecideLaws.{answer_outside}

-- the answer to an entry
abbrev pub refusal_of : Log → Entry → Answer
refusal_of l e = refusal (parts_of l e) e

pub answer_is : (l : Log) (e : Entry) → (enter l e).answer ≡ refusal_of l e
unfolding enter entered effect_of
answer_is l e = refl

pub outside_refused : (l : Log) (e : Entry) → outside l.stores e ≡ true → refusal_of l e ≡ outside_limits
outside_refused l e h = sym (answer_outside (parts_of l e) e h)

pub accepted_inside : (l : Log) (e : Entry) → refusal_of l e ≡ accepted → outside l.stores e ≡ false
accepted_inside l e h = split (outside l.stores e) refl
  where
    split : (t : Bool) → outside l.stores e ≡ t → outside l.stores e ≡ false
    split true k = absurd (err_ok (sym (outside_refused l e k) ∙ h))
    split false k = k

-- what is stored
module _ (l : Log) (e : Entry) (f : Effect) where
  pub stored_holder : is_take e ≡ true → with_holder l e.process e.turn e.store ≡ stored l e f
  unfolding stored
  stored_holder take = rw take

  -- r is the row with the vote kept
  module _ (vote : is_take e ≡ false) {tx : ℕ} (on : tx_of e ≡ tx) {r : Row} (is : r ≡ keeping (row_of l tx) e) where
    pub stored_row : f.begins ≡ false → with_row l tx (in_group r f.group) ≡ stored l e f
    unfolding stored
    stored_row h = ap (λ (r : Row). with_row l tx (in_group r f.group)) is ∙ rw (vote, h, on)

    pub stored_group : f.begins ≡ true → (running : ℕ) → running ≡ running_set l.rows
        → with_group (with_row l tx (in_group r f.group)) f.group running ≡ stored l e f
    unfolding stored
    stored_group h running runs =
        ap₂ (λ (r : Row) (n : ℕ). with_group (with_row l tx (in_group r f.group)) f.group n) is runs ∙ rw (vote, h, on)

  entered_accepted : f.answer ≡ accepted → answered (stored l e f) accepted ≡ entered l e f
  unfolding entered
  entered_accepted ok = rw ok

  entered_refused : (f.answer ≡ accepted → ⊥) → answered l f.answer ≡ entered l e f
  unfolding entered
  entered_refused wrong = rw (not_ok f.answer wrong)

-- a new holder, who is past holder by a shifted one
pub holder_stored : (l : Log) (e : Entry) (f : Effect) → is_take e ≡ true → e.process < 16
    → record {
      rows = l.rows;
      holders = set l.holders e.store e.process;
      turns = set l.turns e.store e.turn;
      takers = set l.takers e.store (bit_or (get_or l.takers e.store 0) (1 * 2 ^ e.process % 65536));
      latest = set l.latest e.process e.turn;
      groups = l.groups;
      remembered = l.remembered;
      stores = l.stores;
    }
    ≡ stored l e f
holder_stored l e f take h = rw (one_shifted 16 e.process h) (stored_holder l e f take)

-- what the last group remembers
pub remembered_last : (l : Log) {k : ℕ} → k ≡ cond (eqb l.groups 0) 0 (get_or l.remembered (l.groups - 1) 0) → k ≡ remembered l l.groups
unfolding remembered
remembered_last l h = h

-- the place of the row that an entry is decided on is within the rows
pub place_inside : (n : ℕ) (e : Entry) → outside n e ≡ false → {at : ℕ} → at ≡ cond (is_take e) 0 (tx_of e) → at < transactions
place_inside n e inside h = split (is_take e) refl h
  where
    split : (t : Bool) → is_take e ≡ t → {at : ℕ} → at ≡ cond t 0 (tx_of e) → at < transactions
    split true k h = omega arith
    split false k h = omega (arith, h, (inside_vote n e inside k).tx)

-- the parts with the row at a place and what the last group remembers, as the code finds them
abbrev pub parts_at : Log → Entry → ℕ → ℕ → Parts
parts_at l e at last = record {
  row = row_of l at;
  holders = l.holders;
  turns = l.turns;
  takers = get_or l.takers e.store 0;
  latest = latest_of l e.process;
  groups = l.groups;
  remembered = last;
  stores = l.stores;
}

effect_answer : (p : Parts) (e : Entry) → (effect_of p e).answer ≡ refusal p e
unfolding effect_of
effect_answer p e = refl

-- a take is answered whatever the row
take_answer : (p q : Parts) (e : Entry) → is_take e ≡ true → p.stores ≡ q.stores → p.holders ≡ q.holders → p.takers ≡ q.takers → p.latest ≡ q.latest → refusal p e ≡ refusal q e
unfolding refusal first_refusal
take_answer p q e take n h k m = rw (take, n, h, k, m)

-- an effect that was decided on those parts
module _ (l : Log) (e : Entry) (at last : ℕ) (place : at ≡ cond (is_take e) 0 (tx_of e)) (remembers : last ≡ remembered l l.groups) (f : Effect) (is : f ≡ effect_of (parts_at l e at last) e) where
  whole : Effect
  whole = effect_of (parts_of l e) e

  -- for a vote all parts are those of the entry
  vote_same : is_take e ≡ false → f ≡ whole
  unfolding whole
  vote_same vote =
      is
      ∙ ap₂ (λ (t m : ℕ). effect_of (parts_at l e t m) e) (place ∙ ap (λ (b : Bool). cond b 0 (tx_of e)) vote) remembers

  answer_same : f.answer ≡ whole.answer
  unfolding whole
  answer_same = by_kind (is_take e) refl
    where
      by_kind : (t : Bool) → is_take e ≡ t → f.answer ≡ (effect_of (parts_of l e) e).answer
      by_kind true take =
          ap (λ (f : Effect). f.answer) is
          ∙ effect_answer (parts_at l e at last) e
          ∙ take_answer (parts_at l e at last) (parts_of l e) e take refl refl refl refl
          ∙ sym (effect_answer (parts_of l e) e)
      by_kind false vote = ap (λ (f : Effect). f.answer) (vote_same vote)

  stored_same : stored l e f ≡ stored l e whole
  unfolding whole
  stored_same = by_kind (is_take e) refl
    where
      by_kind : (t : Bool) → is_take e ≡ t → stored l e f ≡ stored l e (effect_of (parts_of l e) e)
      by_kind true take = sym (stored_holder l e f take) ∙ stored_holder l e (effect_of (parts_of l e) e) take
      by_kind false vote = ap (λ (f : Effect). stored l e f) (vote_same vote)

  pub enter_refused : (f.answer ≡ accepted → ⊥) → answered l f.answer ≡ enter l e
  unfolding enter whole
  enter_refused wrong = ap (λ (n : Answer). answered l n) answer_same ∙ entered_refused l e whole (λ k. wrong (answer_same ∙ k))

  pub enter_stored : f.answer ≡ accepted → {m : Log} → m ≡ stored l e f → answered m accepted ≡ enter l e
  unfolding enter whole
  enter_stored ok h = ap (λ (m : Log). answered m accepted) (h ∙ stored_same) ∙ entered_accepted l e whole (sym answer_same ∙ ok)

-- a refused entry
pub enter_answered : (l : Log) (e : Entry) {n : Answer} → n ≡ refusal_of l e → (n ≡ accepted → ⊥) → answered l n ≡ enter l e
unfolding enter
enter_answered l e is wrong =
    let said = is ∙ sym (effect_answer (parts_of l e) e) in
    ap (λ (n : Answer). answered l n) said ∙ entered_refused l e (effect_of (parts_of l e) e) (λ k. wrong (said ∙ k))

-- refused 2 whatever the log
pub enter_outside : (l : Log) (e : Entry) → outside l.stores e ≡ true → answered l outside_limits ≡ enter l e
enter_outside l e h = enter_answered l e (sym (outside_refused l e h)) err_ok

-- an accepted entry
pub enter_accepted : (l : Log) (e : Entry) → refusal_of l e ≡ accepted → answered (stored l e (effect_of (parts_of l e) e)) accepted ≡ enter l e
unfolding enter
enter_accepted l e ok = entered_accepted l e (effect_of (parts_of l e) e) (effect_answer (parts_of l e) e ∙ ok)

pub take_entered : (l : Log) (e : Entry) → is_take e ≡ true → refusal_of l e ≡ accepted → answered (with_holder l e.process e.turn e.store) accepted ≡ enter l e
take_entered l e take ok =
    ap (λ (m : Log). answered m accepted) (stored_holder l e (effect_of (parts_of l e) e) take) ∙ enter_accepted l e ok

-- the answer, by the parts that it depends on
abbrev pub answer_parts : Log → Entry → ℕ → Parts
answer_parts l e at = record {
  row = row_of l at;
  holders = l.holders;
  turns = l.turns;
  takers = get_or l.takers e.store 0;
  latest = latest_of l e.process;
  groups = 0;
  remembered = 0;
  stores = l.stores;
}

same_answer : (l : Log) (e : Entry) → refusal (answer_parts l e (tx_of e)) e ≡ refusal_of l e
unfolding refusal
same_answer l e = refl

pub answer_at : (l : Log) (e : Entry) {at : ℕ} → at ≡ cond (is_take e) 0 (tx_of e) → refusal (answer_parts l e at) e ≡ (enter l e).answer
answer_at l e {at} place = by_kind (is_take e) refl ∙ sym (answer_is l e)
  where
    by_kind : (t : Bool) → is_take e ≡ t → refusal (answer_parts l e at) e ≡ refusal_of l e
    by_kind true take = take_answer (answer_parts l e at) (parts_of l e) e take refl refl refl refl
    by_kind false vote =
        ap (λ (t : ℕ). refusal (answer_parts l e t) e) (place ∙ ap (λ (b : Bool). cond b 0 (tx_of e)) vote) ∙ same_answer l e
