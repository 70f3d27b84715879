-- What is known of an entry that is accepted.
use Prim.Native.Nat.{ℕ}
use mathlib.Core.Path.{◌≡◌, refl, sym, ap, ◌∙◌}
use mathlib.Core.Bool.{Bool, true, false, not, cond}
use mathlib.Core.List.{List, ◌∷◌}
use mathlib.Core.Logic.{◌≢◌}
use native.Mathlib.Omega.{arith}
use lib.Dec.{eqb}
use lib.ListN.{get_or}
use borrow.Author.Tests.{eqb-true, not-false}
use Rattle.log_entry.proofs.InsideLaws.{inside_process}
use Rattle.log_entry.specs.declared.Entry.{Entry}
use Rattle.log_entry.specs.Bits.{has}
use Rattle.log_entry.specs.Entry.{by_of, ill_formed, is_take, list_of, outside, tx_of}
use Rattle.log_entry.specs.Number.{Answer}
use Rattle.log_entry.specs.Refusal.{Check, accepted, check, first_refusal, outside_limits}
use Rattle.log_core.specs.declared.Log.{Log}
use Rattle.log_votes.specs.declared.Row.{Row}
use Rattle.log_core.proofs.EnterLaws.{refusal_of}
use Rattle.log_core.specs.Decide.{refusal}
use Rattle.log_core.specs.Log.{holder_of, latest_of, row_of, turn_of}
use Rattle.log_votes.specs.Row.{no_vote}
use Rattle.log_votes.specs.Refusal.{any_clash, vote_checks}
use Rattle.log_votes.specs.Vote.{vote_kept}
use Rattle.log_core.specs.Refusal.{take_checks}
use Rattle.log_laws.specs.Answers.{None, another, holds_not, other_turn, stale}
use Rattle.log_laws.proofs.Answers.{conditions, no_refusal, none_applies}
use Rattle.log_entry.proofs.Tests.{neither_left}

-- no condition against the take holds
pub record TakeOk (l : Log) (e : Entry) : Type 0 where
  pub is_take : is_take e ≡ true
  pub in_limits : outside l.stores e ≡ false
  pub no_other : another l e ≡ false
  pub fresh_turn : stale l e ≡ false

-- no condition against the vote holds; r is the row of its transaction
pub record VoteOk (r : Row) (l : Log) (e : Entry) : Type 0 where
  pub is_vote : is_take e ≡ false
  pub in_limits : outside l.stores e ≡ false
  pub well_formed : ill_formed e ≡ false
  pub holds : holds_not l e ≡ false
  pub no_clash : any_clash e r.votes ≡ false
  pub free : vote_kept (get_or r.votes e.store no_vote) ≡ false
  pub in_turn : other_turn l e ≡ false

-- the checks of a take and of a vote, in the order in which they are tried
abbrev take_tried : Log → Entry → List Check
take_tried l e = take_checks l.holders (get_or l.takers e.store 0) (latest_of l e.process) e

abbrev vote_tried : Log → Entry → List Check
vote_tried l e = vote_checks (row_of l (tx_of e)) (holder_of l (by_of e)) (turn_of l (by_of e)) e

abbrev pub take_list : Log → Entry → List Check
take_list l e = check outside_limits (outside l.stores e) ∷ take_tried l e

abbrev pub vote_list : Log → Entry → List Check
vote_list l e = check outside_limits (outside l.stores e) ∷ vote_tried l e

by_kind : Log → Entry → Bool → Answer
by_kind l e t = first_refusal (check outside_limits (outside l.stores e) ∷ cond t (take_tried l e) (vote_tried l e))

pub take_refusal : (l : Log) (e : Entry) → is_take e ≡ true → refusal_of l e ≡ first_refusal (take_list l e)
unfolding refusal by_kind
take_refusal l e t = ap (by_kind l e) t

pub vote_refusal_lem : (l : Log) (e : Entry) → is_take e ≡ false → refusal_of l e ≡ first_refusal (vote_list l e)
unfolding refusal by_kind
vote_refusal_lem l e t = ap (by_kind l e) t

pub take_ok : (l : Log) (e : Entry) → is_take e ≡ true → refusal_of l e ≡ accepted → TakeOk l e
take_ok l e t h = record { is_take = t; in_limits = n.0; no_other = n.1.0; fresh_turn = n.1.1.0 }
  where
    n : None (conditions (take_list l e))
    n = none_applies (take_list l e) refl (sym (take_refusal l e t) ∙ h)

-- and so it is accepted
pub ok_accepted : (l : Log) (e : Entry) → TakeOk l e → refusal_of l e ≡ accepted
ok_accepted l e ok = take_refusal l e ok.is_take ∙ no_refusal (take_list l e) (ok.in_limits, (ok.no_other, (ok.fresh_turn, tt)))

pub vote_ok : (l : Log) (e : Entry) → is_take e ≡ false → refusal_of l e ≡ accepted → VoteOk (row_of l (tx_of e)) l e
vote_ok l e t h = record {
  is_vote = t;
  in_limits = n.0;
  well_formed = n.1.0;
  holds = n.1.1.0;
  no_clash = n.1.1.1.0;
  free = n.1.1.1.1.0;
  in_turn = n.1.1.1.1.1.0;
}
  where
    n : None (conditions (vote_list l e))
    n = none_applies (vote_list l e) refl (sym (vote_refusal_lem l e t) ∙ h)

pub process_from_1 : (n : ℕ) (e : Entry) → outside n e ≡ false → e.process ≢ 0
process_from_1 n e h = omega (arith, (inside_process n e h).0)

-- a test that fails says that the two are equal
same_by : (m n : ℕ) → not (eqb m n) ≡ false → m ≡ n
same_by m n h = eqb-true m n (not-false (eqb m n) h)

-- the process of an accepted vote holds `by`, in the vote's turn
pub voter_holds : (r : Row) (l : Log) (e : Entry) → VoteOk r l e → holder_of l (by_of e) ≡ e.process
voter_holds r l e ok = same_by (holder_of l (by_of e)) e.process ok.holds

pub voter_turn : (r : Row) (l : Log) (e : Entry) → VoteOk r l e → turn_of l (by_of e) ≡ e.turn
voter_turn r l e ok = same_by (turn_of l (by_of e)) e.turn ok.in_turn

-- the vote's list has its store
pub lists_store : (e : Entry) → ill_formed e ≡ false → has (list_of e) e.store ≡ true
unfolding ill_formed
lists_store e h =
    not-false (has (list_of e) e.store)
    (neither_left (not (has (list_of e) e.store)) (not (has (list_of e) (by_of e))) (neither_left _ _ h))
