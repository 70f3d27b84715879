-- What the tests of the refusals say.
use Prim.Native.Nat.{ℕ, ◌<◌}
use mathlib.Core.Path.{◌≡◌, refl, sym, ap, ◌∙◌}
use mathlib.Core.Bool.{Bool, true, false, not, ◌&&◌, ◌||◌, cond}
use mathlib.Core.Logic.{◌↔◌, inl, inr, ⊎_elim}
use native.Mathlib.Omega.{arith}
use lib.Dec.{eqb, ltb}
use borrow.Author.Tests.{eq-eqb, eqb-true, lt-ltb, ltb-true, not-false, not-true}
use Rattle.log_entry.specs.declared.Entry.{Entry}
use Rattle.log_entry.specs.Bits.{has, within}
use Rattle.log_entry.specs.Entry.{by_of, ill_formed, list_of, says_commit, tx_of, update_in}
use Rattle.log_votes.specs.Outcome.{is_commit}
use Rattle.log_votes.specs.Refusal.{clashes, is_clash}
use Rattle.log_votes.specs.Row.{no_vote}
use Rattle.log_votes.specs.Vote.{vote_list}
use Rattle.log_core.specs.declared.Log.{Log}
use Rattle.log_core.specs.Log.{held_before, holder_of, latest_of, row_of, turn_of, vote_at}
use Rattle.log_core.specs.Refusal.{is_other, wrong_turn}
use Rattle.log_laws.specs.Conditions.{Behind, ClashExactly, Fits, HoldsAnotherExactly, HoldsNotExactly, IllFormedExactly, LastTake, OtherTurnExactly, StaleExactly, WellFormed}
use Rattle.log_laws.specs.Reached.{reached}
use Rattle.log_laws.proofs.Feed.{wf_reached}
use Rattle.log_laws.proofs.Holding.{holds_only}
use Rattle.log_laws.proofs.LastTakes.{latest_exactly}
use Rattle.log_laws.proofs.Outcomes.{commit_from, commit_parts, kept_in}
use Rattle.log_laws.proofs.Scans.{none_found, none_here}
use Rattle.log_laws.proofs.Sets.{within_by, within_has}
use Rattle.log_laws.proofs.TakenBefore.{held_exactly}
use Rattle.log_entry.proofs.Tests.{and_false, and_left, and_right, both, neither, neither_left, neither_right, opposed, or_cases, or_left, or_right}

-- ---- 7

pub ill_formed_by_values : IllFormedExactly
unfolding ill_formed
ill_formed_by_values e = (well, ill_not)
  where
    a : Bool
    a = not (has (list_of e) e.store)

    b : Bool
    b = not (has (list_of e) (by_of e))

    own : says_commit e ≡ true → cond (says_commit e) (not (eqb (by_of e) e.store)) (not (eqb (update_in e) 0)) ≡ false → by_of e ≡ e.store
    own c h =
        eqb-true (by_of e) e.store
        (not-false _ (ap (λ (x : Bool). cond x (not (eqb (by_of e) e.store)) (not (eqb (update_in e) 0))) (sym c) ∙ h))

    zero : says_commit e ≡ false → cond (says_commit e) (not (eqb (by_of e) e.store)) (not (eqb (update_in e) 0)) ≡ false → update_in e ≡ 0
    zero c h =
        eqb-true (update_in e) 0
        (not-false _ (ap (λ (x : Bool). cond x (not (eqb (by_of e) e.store)) (not (eqb (update_in e) 0))) (sym c) ∙ h))

    well : ill_formed e ≡ false → WellFormed e
    well h =
        let ab : (a || b) ≡ false = neither_left (a || b) _ h in
        record {
          lists_store = not-false _ (neither_left a b ab);
          lists_by = not-false _ (neither_right a b ab);
          commit_own = λ c. own c (neither_right (a || b) _ h);
          abort_zero = λ c. zero c (neither_right (a || b) _ h);
        }

    last : (t : Bool) → says_commit e ≡ t → WellFormed e → cond t (not (eqb (by_of e) e.store)) (not (eqb (update_in e) 0)) ≡ false
    last true c w = ap not (eq-eqb (by_of e) e.store (w.commit_own c))
    last false c w = ap not (eq-eqb (update_in e) 0 (w.abort_zero c))

    ill_not : WellFormed e → ill_formed e ≡ false
    ill_not w = neither (a || b) _ (neither a b (ap not w.lists_store) (ap not w.lists_by)) (last (says_commit e) refl w)

-- ---- 8

-- the two do not differ exactly if they are equal
differs_exactly : (m n : ℕ) → (not (eqb m n) ≡ false) ↔ (m ≡ n)
differs_exactly m n = (λ h. eqb-true m n (not-false (eqb m n) h), λ h. ap not (eq-eqb m n h))

pub holds_not_by_holder : HoldsNotExactly
holds_not_by_holder l e = differs_exactly (holder_of l (by_of e)) e.process

-- ---- 9

fits : (e : Entry) (list : ℕ) → clashes e list ≡ false → Fits e list
fits e list h = record {
  same_list = λ c. sym (eqb-true list (list_of e) (not-false _ (at true c)));
  within_list = λ c t m. within_has (list_of e) list t (not-false _ (at false c)) m;
}
  where
    at : (t : Bool) → says_commit e ≡ t → cond t (not (eqb list (list_of e))) (not (within (list_of e) list)) ≡ false
    at t c = ap (λ (x : Bool). cond x (not (eqb list (list_of e))) (not (within (list_of e) list))) (sym c) ∙ h

fits_not : (e : Entry) (list : ℕ) → Fits e list → clashes e list ≡ false
fits_not e list f = go (says_commit e) refl
  where
    go : (t : Bool) → says_commit e ≡ t → cond t (not (eqb list (list_of e))) (not (within (list_of e) list)) ≡ false
    go true c = ap not (eq-eqb list (list_of e) (sym (f.same_list c)))
    go false c = ap not (within_by (list_of e) list (f.within_list c))

pub clash_by_lists : ClashExactly
clash_by_lists l e = (
  λ h s k.
      let v = vote_at l (tx_of e) s in
      fits e (vote_list v)
      (and_false (is_commit s v) (clashes e (vote_list v))
      (none_here (is_clash e) no_vote (row_of l (tx_of e)).votes h s (kept_in (row_of l (tx_of e)).votes s k.0))
      (commit_from v k)),
  λ f. none_found (is_clash e) no_vote (row_of l (tx_of e)).votes (λ s b m.
      let v = vote_at l (tx_of e) s in
      let c = and_left (is_commit s v) (clashes e (vote_list v)) m in
      opposed (and_right (is_commit s v) (clashes e (vote_list v)) m)
      (fits_not e (vote_list v) (f s (commit_parts v c)))),
)

-- ---- 11

pub another_by_holders : HoldsAnotherExactly
another_by_holders l e n = (
  λ h s q. holds_only l.holders e.process e.store s (omega arith) h q,
  λ f. none_found (is_other e.process e.store) 0 l.holders (λ s b m.
      let holds = and_left (eqb (holder_of l s) e.process) (not (eqb s e.store)) m in
      let elsewhere = and_right (eqb (holder_of l s) e.process) (not (eqb s e.store)) m in
      opposed (eq-eqb s e.store (f s (eqb-true (holder_of l s) e.process holds))) (not-true (eqb s e.store) elsewhere)),
)

-- ---- 12

pub stale_by_takes : StaleExactly
unfolding wrong_turn
stale_by_takes es e = (
  λ h. ⊎_elim below same (or_cases (ltb e.turn last) (eqb e.turn last && took) h),
  λ k.
      let is : latest_of l e.process ≡ k.0 = ((latest_exactly es e.process k.0).1 k.1).1 in
      ⊎_elim
      (λ (b : e.turn < k.0). or_left (ltb e.turn last) (eqb e.turn last && took) (lt-ltb e.turn last (omega (arith, b, is))))
      (λ b. or_right (ltb e.turn last) (eqb e.turn last && took)
      (both (eqb e.turn last) took (eq-eqb e.turn last (b.0 ∙ sym is)) ((held_exactly es e.process e.store).1 b.1)))
      k.2,
)
  where
    l : Log
    l = reached es

    last : ℕ
    last = latest_of (reached es) e.process

    took : Bool
    took = held_before (reached es) e.process e.store

    below : ltb e.turn last ≡ true → (t : ℕ) × LastTake es e.process t × Behind es e t
    below h =
        let b : e.turn < last = ltb-true e.turn last h in
        (last, (latest_exactly es e.process last).0 (omega arith, refl), inl b)

    same : (eqb e.turn last && took) ≡ true → (t : ℕ) × LastTake es e.process t × Behind es e t
    same h =
        let was = and_right (eqb e.turn last) took h in (
          last,
          (latest_exactly es e.process last).0 ((wf_reached es).holding.some_turn e.process e.store was, refl),
          inr (eqb-true e.turn last (and_left (eqb e.turn last) took h), (held_exactly es e.process e.store).0 was),
        )

pub other_turn_by_turn : OtherTurnExactly
other_turn_by_turn l e = differs_exactly (turn_of l (by_of e)) e.turn
