-- A follow is refused 5 exactly if one of the three conditions holds.
use Prim.Native.Nat.{ℕ, zero, suc, ◌+◌, ◌-◌, ◌%◌, ◌≤◌, ◌<◌}
use mathlib.Core.Path.{◌≡◌, refl, sym, ap, subst, ◌∙◌}
use mathlib.Core.Bool.{Bool, true, false, ◌||◌, cond}
use mathlib.Core.List.{List, [], ◌∷◌}
use mathlib.Core.Logic.{⊎_elim}
use native.Mathlib.Nat.{mod-eq_of_lt}
use native.Mathlib.Omega.{arith}
use borrow.Author.Tests.{eq-eqb, eqb-false, le-ltb, leb-false, lt-leb, ne_eqb}
use lib.Dec.{eqb, leb, ltb}
use lib.ListN.{get_or-eq_default, get_or, length, take}
use Rattle.log_entry.specs.declared.Entry.{Entry}
use Rattle.log_entry.specs.Entry.{no_process}
use Rattle.log_entry.specs.Limits.{processes, stores, transactions}
use Rattle.log_entry.specs.Refusal.{accepted, check, first_refusal, no_place, not_met, outside_limits, party_down}
use Rattle.log_entry.proofs.Tests.{and_left, and_right, below_or_not, both, is_false, neither, neither_left, neither_right, opposed}
use Rattle.log_core.specs.declared.Log.{Log}
use Rattle.log_votes.specs.Vote.{vote_commit, vote_kept}
use Rattle.log_votes.specs.Outcome.{is_commit, is_kept, is_open, running}
use Rattle.log_votes.specs.Scan.{any_from}
use Rattle.log_core.specs.Log.{outcome_of, row_of, vote_at}
use Rattle.log_laws.specs.Reached.{reached}
use Rattle.log_laws.proofs.OutcomeClaims.{is_open_lem}
use Rattle.log_laws.proofs.Replicated.{holders_length}
use Rattle.log_laws.proofs.Theorems.{holds_at_most_one_store, running_exactly}
use Rattle.model_steps.specs.declared.Step.TheVariants.{Follow}
use Rattle.model_steps.specs.Limits.{coordinators, messages, no_coordinator, outside_step}
use Rattle.model_protocol.specs.declared.World.{World}
use Rattle.model_protocol.specs.Places.{places_of}
use Rattle.model_protocol.specs.Step.{held_from, held_store, message_for, parts_of, run, step_checks, step_of, step_refusal, voting_store}
use Rattle.model_protocol.specs.World.{coordinator_of, fresh_world, log_of}
use Rattle.model_protocol.proofs.Unchanged.{answer_is_refusal}
use Rattle.model_agreement.specs.FollowRefused.{FollowRefusedExactly, Followable, OtherwiseFine}
use Rattle.model_agreement.specs.Plain.{all_entries, plain_log}
use Rattle.model_agreement.proofs.Barred.{barred_exactly}
use Rattle.model_agreement.proofs.Plain.{held_holder}
use Rattle.model_agreement.proofs.Theorem.{demand_3}

-- ---- by the log

-- a store that the process holds is found, or one before it
held_first : (p s : ℕ) (hs : List ℕ) (j : ℕ) → j < length hs → get_or hs j 0 ≡ p → held_from p s hs ≤ s + j
unfolding held_from
held_first p s [] j l e = absurd (omega arith)
held_first p s (h ∷ hs) zero l e = rw (eq-eqb h p e) (omega arith)
held_first p s (h ∷ hs) (suc j) l e = go (eqb h p) (held_first p (suc s) hs j (omega arith) e)
  where
    go : (b : Bool) → held_from p (suc s) hs ≤ suc s + j → cond b s (held_from p (suc s) hs) ≤ s + suc j
    go true r = omega arith
    go false r = omega arith

module _ (es : List Entry) (p tx : ℕ) (from : 1 ≤ p) where
  abbrev l : Log
  l = reached es

  -- the tests of the step
  abbrev pub barred : Bool
  barred = is_open (outcome_of l tx) || leb stores (voting_store l p tx)

  followable : barred ≡ false → Followable l p tx
  unfolding running
  followable b = go (is_commit s (vote_at l tx s)) refl (leb-false stores (voting_store l p tx) (neither_right (is_open (outcome_of l tx)) _ b))
    where
      s : ℕ
      s = held_store l p

      go : (t : Bool) → is_commit s (vote_at l tx s) ≡ t → cond t s stores < stores → Followable l p tx
      go true e h = record {
        store = s;
        holder = held_holder l p (subst (λ n. s < n) (sym (holders_length es)) h);
        kept_commit = (and_left (vote_kept (vote_at l tx s)) (vote_commit (vote_at l tx s)) e, and_right (vote_kept (vote_at l tx s)) (vote_commit (vote_at l tx s)) e);
        ended = is_false _ (λ r. opposed (and_right (any_from is_kept 0 (row_of l tx).votes) (is_open (outcome_of l tx)) r) (neither_left (is_open (outcome_of l tx)) _ b));
      }
      go false e h = absurd (omega arith)

  not_barred : Followable l p tx → barred ≡ false
  not_barred f = neither (is_open (outcome_of l tx)) (leb stores (voting_store l p tx)) decided found
    where
      decided : is_open (outcome_of l tx) ≡ false
      decided = is_false _ (λ o. opposed ((running_exactly l tx).1 ((f.store, f.kept_commit.0), is_open_lem (outcome_of l tx) o)) f.ended)

      in_row : f.store < length l.holders
      in_row =
          ⊎_elim (λ (h : f.store < length l.holders). h)
          (λ h. absurd (let z : 0 ≡ p = sym (get_or-eq_default l.holders 0 {n = f.store} h) ∙ f.holder in omega arith))
          (below_or_not f.store (length l.holders))

      first : held_store l p ≤ f.store
      first = let h = held_first p 0 l.holders f.store in_row f.holder in omega arith

      same : held_store l p ≡ f.store
      same = holds_at_most_one_store es p (held_store l p) f.store from (held_holder l p (omega (arith, first, in_row))) f.holder

      voted : is_commit (held_store l p) (vote_at l tx (held_store l p)) ≡ true
      voted =
          subst (λ s. is_commit s (vote_at l tx s) ≡ true) (sym same)
          (both (vote_kept (vote_at l tx f.store)) (vote_commit (vote_at l tx f.store)) f.kept_commit.0 f.kept_commit.1)

      found : leb stores (voting_store l p tx) ≡ false
      found = rw voted (lt-leb stores (held_store l p) (omega (arith, same, in_row, holders_length es)))

-- ---- the answer

-- the refusals of a follow by their tests
refused_by : (outside down down' unset runs far lacks : Bool) → outside ≡ false → down ≡ false → down' ≡ false → unset ≡ false → lacks ≡ false
    → first_refusal
    (check outside_limits outside
    ∷ check party_down (down || down')
    ∷ check not_met (unset || runs || far)
    ∷ check no_place lacks
    ∷ [])
    ≡ cond (runs || far) not_met accepted
unfolding first_refusal
refused_by outside down down' unset runs far lacks a b c d e = rw (a, b, c, d, e)

module _ (w : World) (c p tx : ℕ) (o : OtherwiseFine w c p tx) where
  in_limits : (no_coordinator c || no_process p || leb transactions tx) ≡ false
  unfolding outside_step
  in_limits = o.within

  place : c % coordinators ≡ c
  place =
      mod-eq_of_lt
      (leb-false coordinators c (neither_left (no_coordinator c) (no_process p) (neither_left (no_coordinator c || no_process p) (leb transactions tx) in_limits)))

  pub process_from : 1 ≤ p
  process_from =
      let t = neither_right (no_coordinator c) (no_process p) (neither_left (no_coordinator c || no_process p) (leb transactions tx) in_limits) in
      let z = eqb-false p 0 (neither_left (eqb p 0) (ltb processes p) t) in
      omega arith

  pub refusal_is : step_refusal (parts_of w (Follow c p tx)) (Follow c p tx)
      ≡ cond (is_open (outcome_of (log_of w c) tx) || leb stores (voting_store (log_of w c) p tx)) not_met accepted
  unfolding step_refusal step_checks places_of message_for outside_step
  refusal_is =
      refused_by _ _ _ (eqb w.acceptors 0) _ _ _ in_limits o.coordinator_up o.process_up (ne_eqb w.acceptors 0 o.set_up)
      (le-ltb (messages - w.sent) 1 (omega (arith, o.number_left)))
      ∙ ap (λ (k : ℕ). cond (is_open (outcome_of (log_of w k) tx) || leb stores (voting_store (log_of w k) p tx)) not_met accepted) place

pub follow_refused_exactly : FollowRefusedExactly
unfolding plain_log
follow_refused_exactly steps c p tx o = let r = barred_exactly barred' _ answer can cannot in record { is_0 = r.0; is_5 = r.1 }
  where
    w : World
    w = run fresh_world steps

    es : List Entry
    es = all_entries (take (coordinator_of w c).applied (demand_3 steps).sequence)

    is : log_of w c ≡ reached es
    is = unfold plain_log in (demand_3 steps).logs c

    barred' : Bool
    barred' = is_open (outcome_of (log_of w c) tx) || leb stores (voting_store (log_of w c) p tx)

    same : barred' ≡ barred es p tx (process_from w c p tx o)
    same = ap (λ (l : Log). is_open (outcome_of l tx) || leb stores (voting_store l p tx)) is

    can : barred' ≡ false → Followable (log_of w c) p tx
    can e = subst (λ (l : Log). Followable l p tx) (sym is) (followable es p tx (process_from w c p tx o) (sym same ∙ e))

    cannot : Followable (log_of w c) p tx → barred' ≡ false
    cannot f = same ∙ not_barred es p tx (process_from w c p tx o) (subst (λ (l : Log). Followable l p tx) is f)

    answer : (step_of w (Follow c p tx)).answer ≡ cond barred' not_met accepted
    answer = answer_is_refusal w (Follow c p tx) ∙ refusal_is w c p tx o
