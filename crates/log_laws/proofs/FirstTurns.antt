-- An entry of turn 1, to a log that has no later turn: it is answered as in document 01, but that
-- 11 may be 12.
use Prim.Native.Nat.{ℕ, ◌≤◌, ◌<◌}
use mathlib.Core.Path.{◌≡◌, refl, sym, ap, ap₂, subst, subst₂, ◌∙◌}
use mathlib.Core.Bool.{Bool, true, false, true≢false, ◌&&◌, ◌||◌, not, cond}
use mathlib.Core.List.{List, [], ◌∷◌, ◌++◌}
use mathlib.Core.Logic.{◌↔◌, ◌≢◌, inl, inr, ⊎_elim}
use native.Mathlib.Omega.{arith}
use lib.Dec.{eqb, leb, ltb}
use lib.ListN.{get_or, length}
use borrow.Author.Tests.{eq-eqb, eqb-true, le-ltb, ne_eqb, not-false}
use Rattle.log_entry.specs.declared.Entry.{Entry}
use Rattle.log_entry.specs.Entry.{by_of, ill_formed, is_take, no_process, no_turn, outside, tx_of}
use Rattle.log_entry.specs.Limits.{stores}
use Rattle.log_entry.specs.Number.{Answer}
use Rattle.log_entry.specs.Refusal.{Check, accepted, check, first_refusal, holds_another, ill_formed_vote, kept_already, not_holder, other_list, outside_limits, wrong_turn}
use Rattle.log_core.specs.declared.Log.{Log}
use Rattle.log_core.proofs.EnterLaws.{refusal_of}
use Rattle.log_core.specs.Log.{held_before, holder_of, latest_of, row_of, turn_of}
use Rattle.log_core.specs.Refusal as take-refusals
use Rattle.log_laws.specs.Answers.{None, another, clash, holds_not, kept, other_turn, stale}
use Rattle.log_laws.specs.Base.{base_answer, base_outside, base_refusal, base_take_checks, base_vote_checks, holds_some, is_holder}
use Rattle.log_laws.specs.WithoutTurns.{TakeAgrees}
use Rattle.log_laws.proofs.Accepted.{process_from_1, take_refusal, vote_refusal_lem}
use Rattle.log_laws.proofs.Answers.{conditions}
use Rattle.log_laws.proofs.Scans.{any_here, found}
use Rattle.log_entry.proofs.Tests.{and_left, and_right, both, opposed, or_cases, or_left, or_right, same_number}
use Rattle.log_laws.proofs.WellFormed.{Wf}

-- ---- tests

pub same_test : (a b : Bool) → (a ≡ true → b ≡ true) → (b ≡ true → a ≡ true) → a ≡ b
same_test true b f g = sym (f refl)
same_test false true f g = g refl
same_test false false f g = refl

without_false : (a b c d : Bool) → b ≡ false → (a || b || c || d) ≡ (a || c || d)
without_false true b c d h = refl
without_false false true c d h = absurd (true≢false h)
without_false false false c d h = refl

-- a last check that never applies where none before it does
last_idle : (cs : List Check) (c : Check) → (None (conditions cs) → c.applies ≡ false) → first_refusal (cs ++ c ∷ []) ≡ first_refusal cs
unfolding first_refusal
last_idle [] c h = rw (h tt)
last_idle (b ∷ cs) c h = go b.applies refl (last_idle cs c)
  where
    go : (t : Bool) → b.applies ≡ t → ((None (conditions cs) → c.applies ≡ false) → first_refusal (cs ++ c ∷ []) ≡ first_refusal cs)
        → cond t b.answer (first_refusal (cs ++ c ∷ [])) ≡ cond t b.answer (first_refusal cs)
    go true k rest = refl
    go false k rest = rest (λ n. h (k, n))

-- 11 of the base is 11 or 12
agrees_same : (n : Answer) → n ≢ wrong_turn → TakeAgrees n n
agrees_same n h = record { is_0 = (λ k. k, λ k. k); is_2 = (λ k. k, λ k. k); is_11 = (⊎_elim (λ k. k) (λ k. absurd (h k)), λ k. inl k) }

take_agrees : (o a s : Bool) → TakeAgrees (cond o outside_limits (cond a holds_another (cond s wrong_turn accepted))) (cond o outside_limits (cond (a || s) holds_another accepted))
take_agrees true a s = agrees_same outside_limits (grind arith)
take_agrees false true s = agrees_same holds_another (grind arith)
take_agrees false false true = record {
  is_0 = (λ h. absurd (grind (arith, h)), λ h. absurd (grind (arith, h)));
  is_2 = (λ h. absurd (grind (arith, h)), λ h. absurd (grind (arith, h)));
  is_11 = (λ h. refl, λ h. inr refl);
}
take_agrees false false false = agrees_same accepted (grind arith)

-- ---- an entry of turn 1, to a log whose last turns are 1

-- no process has a turn above 1
abbrev pub Early : Log → Type 0
Early l = (p : ℕ) → latest_of l p ≤ 1

outside_same : (e : Entry) → e.turn ≡ 1 → outside stores e ≡ base_outside e
unfolding outside base_outside
outside_same e t = without_false (no_process e.process) (no_turn e.turn) (leb stores e.store) _ (ap no_turn t)

by_kind : Log → Entry → Bool → Bool → Answer
by_kind l e o t =
    first_refusal (check outside_limits o ∷ cond t (base_take_checks l.holders (get_or l.takers e.store 0) e) (base_vote_checks l.holders (row_of l (tx_of e)) e))

-- the base's answer, by the kind of entry
base_answer_lem : (l : Log) (e : Entry) (t : Bool) → l.stores ≡ stores → e.turn ≡ 1 → is_take e ≡ t → base_answer l e ≡ by_kind l e (outside l.stores e) t
unfolding base_refusal by_kind
base_answer_lem l e t full first k = ap₂ (by_kind l e) (sym (ap (λ (n : ℕ). outside n e) full ∙ outside_same e first)) k

module _ (l : Log) (e : Entry) (full : l.stores ≡ stores) (w : Wf l) (early : Early l) (first : e.turn ≡ 1) where
  -- who took a store has the last turn 1
  took_first : (p s : ℕ) → held_before l p s ≡ true → latest_of l p ≡ 1
  took_first p s h = omega (arith, early p, w.holding.some_turn p s h)

  -- who holds a store holds it in turn 1, so a vote of the holder has the holder's turn
  pub in_turn : outside l.stores e ≡ false → holds_not l e ≡ false → other_turn l e ≡ false
  in_turn o h =
      let holds : holder_of l (by_of e) ≡ e.process = eqb-true (holder_of l (by_of e)) e.process (not-false _ h) in
      let n = process_from_1 l.stores e o in
      ap not (eq-eqb (turn_of l (by_of e)) e.turn
      (w.holding.last_turn e.process (by_of e) n holds ∙ took_first e.process (by_of e) (w.holding.in_past e.process (by_of e) n holds) ∙ sym first))

  pub votes_same : is_take e ≡ false → refusal_of l e ≡ base_answer l e
  unfolding by_kind
  votes_same k =
      vote_refusal_lem l e k
      ∙ last_idle (check outside_limits (outside l.stores e) ∷ check ill_formed_vote (ill_formed e) ∷ check not_holder (holds_not l e) ∷ check other_list (clash l e) ∷ check kept_already (kept l e) ∷ [])
      (check wrong_turn (other_turn l e)) (λ n. in_turn n.0 n.1.1.0)
      ∙ sym (base_answer_lem l e false full first k)

  -- 12 of a take: it took the store before
  pub stale_same : stale l e ≡ held_before l e.process e.store
  unfolding take-refusals.wrong_turn
  stale_same =
      same_test (stale l e) took
      (λ h. ⊎_elim
      (λ (b : ltb e.turn last ≡ true). absurd (opposed b not_below))
      (λ b. and_right (eqb e.turn last) took b)
      (or_cases (ltb e.turn last) (eqb e.turn last && took) h))
      (λ h. or_right (ltb e.turn last) (eqb e.turn last && took)
      (both (eqb e.turn last) took (eq-eqb e.turn last (first ∙ sym (took_first e.process e.store h))) h))
    where
      last : ℕ
      last = latest_of l e.process

      took : Bool
      took = held_before l e.process e.store

      not_below : ltb e.turn (latest_of l e.process) ≡ false
      not_below = le-ltb e.turn (latest_of l e.process) (omega (arith, early e.process))

  -- 11 of the base: it holds another store, or took this one before, as its holder did too
  held_same : outside l.stores e ≡ false → (holds_some l.holders e.process || held_before l e.process e.store) ≡ (another l e || stale l e)
  held_same o =
      same_test (some || took) (another l e || stale l e)
      (λ h. ⊎_elim (λ (k : some ≡ true). at (found (is_holder p) 0 l.holders k)) (λ k. by_took k) (or_cases some took h))
      (λ h. ⊎_elim
      (λ (k : another l e ≡ true).
      let r = found (take-refusals.is_other p e.store) 0 l.holders k in
      or_left some took (any_here (is_holder p) 0 l.holders r.0 r.1 (and_left (eqb (holder_of l r.0) p) (not (eqb r.0 e.store)) r.2)))
      (λ k. or_right some took (sym stale_same ∙ k))
      (or_cases (another l e) (stale l e) h))
    where
      p : ℕ
      p = e.process

      some : Bool
      some = holds_some l.holders e.process

      took : Bool
      took = held_before l e.process e.store

      by_took : held_before l e.process e.store ≡ true → (another l e || stale l e) ≡ true
      by_took k = or_right (another l e) (stale l e) (stale_same ∙ k)

      at : (s : ℕ) × (s < length l.holders) × (eqb (holder_of l s) e.process ≡ true) → (another l e || stale l e) ≡ true
      at r =
          ⊎_elim
          (λ (k : r.0 ≡ e.store). by_took (w.holding.in_past e.process e.store (process_from_1 l.stores e o)
          (ap (holder_of l) (sym k) ∙ eqb-true (holder_of l r.0) e.process r.2)))
          (λ k. or_left (another l e) (stale l e)
          (any_here (take-refusals.is_other e.process e.store) 0 l.holders r.0 r.1
          (both (eqb (holder_of l r.0) e.process) (not (eqb r.0 e.store)) r.2 (ap not (ne_eqb r.0 e.store k)))))
          (same_number r.0 e.store)

  pub takes_agree : is_take e ≡ true → TakeAgrees (refusal_of l e) (base_answer l e)
  unfolding by_kind first_refusal
  takes_agree k =
      subst₂ TakeAgrees (sym (take_refusal l e k)) (sym (base_answer_lem l e true full first k)) (go (outside l.stores e) refl)
    where
      go : (o : Bool) → outside l.stores e ≡ o
          → TakeAgrees (cond o outside_limits (cond (another l e) holds_another (cond (stale l e) wrong_turn accepted)))
          (cond o outside_limits (cond (holds_some l.holders e.process || held_before l e.process e.store) holds_another accepted))
      go true o = take_agrees true (another l e) (stale l e)
      go false o =
          subst (λ (b : Bool). TakeAgrees (cond (another l e) holds_another (cond (stale l e) wrong_turn accepted)) (cond b holds_another accepted)) (sym (held_same o))
          (take_agrees false (another l e) (stale l e))

  pub accepts_same : (refusal_of l e ≡ accepted) ↔ (base_answer l e ≡ accepted)
  accepts_same = go (is_take e) refl
    where
      go : (t : Bool) → is_take e ≡ t → (refusal_of l e ≡ accepted) ↔ (base_answer l e ≡ accepted)
      go true k = (takes_agree k).is_0
      go false k = (λ h. sym (votes_same k) ∙ h, λ h. votes_same k ∙ h)
