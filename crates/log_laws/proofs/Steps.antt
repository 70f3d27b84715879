-- An entry leaves the log as it was, or it is an accepted take or an accepted vote: what stands
-- where after each.
use Prim.Native.Nat.{ℕ, ◌-◌}
use mathlib.Core.Path.{◌≡◌, ap, refl, sym, subst, ◌∙◌}
use mathlib.Core.Bool.{Bool, true, false, ◌&&◌, not, cond}
use mathlib.Core.List.{List}
use lib.ListN.{get_or, set}
use Rattle.std.specs.Result.{is_ok}
use Rattle.log_entry.specs.declared.Entry.{Entry}
use Rattle.log_entry.specs.Bits.{has}
use Rattle.log_entry.specs.Entry.{is_take, tx_of}
use Rattle.log_entry.specs.Refusal.{accepted}
use Rattle.log_core.specs.declared.Entered.{Entered}
use Rattle.log_core.specs.declared.Log.{Log}
use Rattle.log_votes.specs.declared.Row.{Row}
use Rattle.log_core.specs.Decide.{effect_of, parts_of}
use Rattle.log_core.specs.Enter.{enter, entered, stored}
use Rattle.log_core.specs.Group.{next_group, remembered, running_set}
use Rattle.log_core.specs.Log.{row_of, with_group, with_holder, with_row}
use Rattle.log_core.proofs.EnterLaws.{enter_accepted, refusal_of, stored_holder}
use Rattle.log_votes.specs.Row.{in_group, keeping, no_row}
use Rattle.log_laws.proofs.Accepted.{TakeOk, VoteOk, take_ok, vote_ok}
use Rattle.log_laws.proofs.Places.{set_either}
use Rattle.log_laws.proofs.Rows.{committed}
use Rattle.log_entry.proofs.AnswerLaws.{ok_accepted}
use Rattle.log_entry.proofs.Tests.{by_test}

-- a part of a choice is a choice of the parts
in_arms : {A : Type 0} (f : Log → A) (b : Bool) (x y : Log) → f (cond b x y) ≡ cond b (f x) (f y)
in_arms f true x y = refl
in_arms f false x y = refl

-- c: it commits; j: it joins the last of g groups, and else begins group n
begun : {A : Type 0} (f : ℕ → A) (old : A) (c j : Bool) (g n r : ℕ)
    → cond (c && not j) (f (cond c (cond j g n) r)) old ≡ cond c (cond j old (f n)) old
begun f old true true g n r = refl
begun f old true false g n r = refl
begun f old false j g n r = refl

-- who holds and held what, and in which turns: the part of a log that a take changes
pub record Holders : Type 0 where
  pub holders : List ℕ
  pub turns : List ℕ
  pub takers : List ℕ
  pub latest : List ℕ

abbrev pub holders_of : Log → Holders
holders_of l = record { holders = l.holders; turns = l.turns; takers = l.takers; latest = l.latest }

-- the parts of a log after a vote: r is the row with the vote
module _ (l : Log) (tx : ℕ) (r : Row) where
  -- the transaction was running when the last group was begun
  abbrev pub joins : Bool
  joins = has (remembered l l.groups) tx

  abbrev pub group_after : ℕ
  group_after = cond (committed r) (cond joins l.groups (next_group l.groups)) r.group

  abbrev pub groups_after : ℕ
  groups_after = cond (committed r) (cond joins l.groups (next_group l.groups)) l.groups

  unfoldable pub voted : Log
  voted =
      cond (committed r && not joins)
      (with_group (with_row l tx (in_group r group_after)) group_after (running_set l.rows))
      (with_row l tx (in_group r group_after))

  pub voted_rows : voted.rows ≡ set l.rows tx (in_group r group_after)
  unfolding voted
  voted_rows = by_test (λ (x : Log). x.rows ≡ set l.rows tx (in_group r group_after)) (committed r && not joins) _ _ (λ h. refl) (λ h. refl)

  pub voted_groups : voted.groups ≡ groups_after
  unfolding voted
  voted_groups =
      in_arms (λ (x : Log). x.groups) (committed r && not joins) _ _
      ∙ begun (λ (g : ℕ). g) l.groups (committed r) joins l.groups (next_group l.groups) r.group

  pub voted_remembered : voted.remembered
      ≡ cond (committed r) (cond joins l.remembered (set l.remembered (next_group l.groups - 1) (running_set l.rows))) l.remembered
  unfolding voted
  voted_remembered =
      in_arms (λ (x : Log). x.remembered) (committed r && not joins) _ _
      ∙ begun (λ (g : ℕ). set l.remembered (g - 1) (running_set l.rows)) l.remembered (committed r) joins l.groups (next_group l.groups) r.group

  pub voted_holders : holders_of voted ≡ holders_of l
  unfolding voted
  voted_holders = by_test (λ (x : Log). holders_of x ≡ holders_of l) (committed r && not joins) _ _ (λ h. refl) (λ h. refl)

  pub voted_limit : voted.stores ≡ l.stores
  unfolding voted
  voted_limit = by_test (λ (x : Log). x.stores ≡ l.stores) (committed r && not joins) _ _ (λ h. refl) (λ h. refl)

-- the row of the entry's transaction with the entry's vote
abbrev pub row_with : Log → Entry → Row
row_with l e = keeping (row_of l (tx_of e)) e

-- the effect of an accepted vote
vote_stored : (l : Log) (e : Entry) → is_take e ≡ false → refusal_of l e ≡ accepted
    → stored l e (effect_of (parts_of l e) e) ≡ voted l (tx_of e) (row_with l e)
unfolding stored effect_of voted
vote_stored l e t ok = rw (ok, t)

-- refused, an accepted take, an accepted vote
pub answer_cases : (P : Log → Type 0) (l : Log) (e : Entry) → P l
    → (refusal_of l e ≡ accepted → is_take e ≡ true → P (with_holder l e.process e.turn e.store))
    → (refusal_of l e ≡ accepted → is_take e ≡ false → P (voted l (tx_of e) (row_with l e)))
    → P (enter l e).log
unfolding enter entered effect_of
answer_cases P l e old take vote =
    by_test P (is_ok (refusal_of l e)) _ _ (λ h. by_kind (is_take e) refl (ok_accepted (refusal_of l e) h)) (λ h. old)
  where
    by_kind : (t : Bool) → is_take e ≡ t → refusal_of l e ≡ accepted → P (stored l e (effect_of (parts_of l e) e))
    by_kind true k ok = subst P (stored_holder l e (effect_of (parts_of l e) e) k) (take ok k)
    by_kind false k ok = subst P (sym (vote_stored l e k ok)) (vote ok k)

pub enter_cases : (P : Log → Type 0) (l : Log) (e : Entry) → P l → (TakeOk l e → P (with_holder l e.process e.turn e.store))
    → (VoteOk (row_of l (tx_of e)) l e → P (voted l (tx_of e) (row_with l e))) → P (enter l e).log
enter_cases P l e old take vote = answer_cases P l e old (λ ok t. take (take_ok l e t ok)) (λ ok t. vote (vote_ok l e t ok))

-- the holders after an entry: as they were, or with the taker
pub holder_cases : (P : Holders → Type 0) (l : Log) (e : Entry) → P (holders_of l)
    → (TakeOk l e → P (holders_of (with_holder l e.process e.turn e.store)))
    → P (holders_of (enter l e).log)
holder_cases P l e old new =
    enter_cases (λ (x : Log). P (holders_of x)) l e old new
    (λ ok. subst P (sym (voted_holders l (tx_of e) (row_with l e))) old)

-- the log after an accepted vote
pub vote_entered : (l : Log) (e : Entry) → refusal_of l e ≡ accepted → is_take e ≡ false → (enter l e).log ≡ voted l (tx_of e) (row_with l e)
vote_entered l e ok t = ap (λ (x : Entered). x.log) (sym (enter_accepted l e ok)) ∙ vote_stored l e t ok

-- a row of the log after an entry: as it was, or with the entry's vote
pub row_cases : (P : Row → Type 0) (l : Log) (e : Entry) (tx : ℕ) → P (row_of l tx)
    → (VoteOk (row_of l tx) l e → tx ≡ tx_of e → P (in_group (keeping (row_of l tx) e) (group_after l tx (keeping (row_of l tx) e))))
    → P (row_of (enter l e).log tx)
row_cases P l e tx old new =
    enter_cases (λ (x : Log). P (row_of x tx)) l e old (λ ok. old)
    (λ ok. subst (λ (rows : List Row). P (get_or rows tx no_row)) (sym (voted_rows l (tx_of e) (row_with l e))) (at_row ok))
  where
    R : ℕ → Row
    R t = in_group (keeping (row_of l t) e) (group_after l t (keeping (row_of l t) e))

    at_row : VoteOk (row_of l (tx_of e)) l e → P (get_or (set l.rows (tx_of e) (R (tx_of e))) tx no_row)
    at_row ok =
        set_either P l.rows (tx_of e) tx (R (tx_of e)) no_row
        (λ k. subst (λ (t : ℕ). P (R t)) k (new (subst (λ (t : ℕ). VoteOk (row_of l t) l e) (sym k) ok) k))
        old
