-- A process held a store before exactly if a take of it stands among the entries, and was accepted.
use Prim.Native.Nat.{ℕ, ◌≤◌}
use native.Mathlib.Omega.{arith}
use mathlib.Core.Path.{◌≡◌, refl, sym, ap, subst, subst₂, ◌∙◌}
use mathlib.Core.Bool.{true, false}
use mathlib.Core.List.{List, [], ◌∷◌}
use mathlib.Core.Logic.{◌⊎◌, inl, inr, ⊎_elim}
use lib.ListN.{get_or}
use Rattle.log_entry.proofs.InsideLaws.{inside_turn}
use Rattle.log_entry.specs.declared.Entry.{Entry}
use Rattle.log_entry.specs.Bits.{has}
use Rattle.log_entry.specs.Entry.{is_take}
use Rattle.log_entry.specs.Limits.{stores}
use Rattle.log_entry.specs.Refusal.{accepted}
use Rattle.log_core.proofs.EnterLaws.{accepted_inside, answer_is}
use Rattle.log_core.specs.declared.Log.{Log}
use Rattle.log_core.specs.Enter.{enter, feed}
use Rattle.log_core.specs.Log.{empty_log, held_before, latest_of, opened}
use Rattle.log_laws.specs.Conditions.{HeldBeforeExactly, Took, TookFrom}
use Rattle.log_laws.specs.Reached.{reached}
use Rattle.log_laws.proofs.Accepted.{ok_accepted}
use Rattle.log_laws.proofs.EmptyRows.{replicate_cases}
use Rattle.log_laws.proofs.Feed.{feed_append, wf_reached}
use Rattle.log_laws.proofs.Holding.{held_by, held_enter, latest_enter, taker_held}
use Rattle.log_laws.proofs.Places.{set_either}
use Rattle.log_laws.proofs.Sets.{empty_has, in_with}
use Rattle.log_laws.proofs.Steps.{Holders, holder_cases}
use Rattle.log_entry.proofs.Tests.{opposed}
use Rattle.log_laws.proofs.WellFormed.{Wf, feed_keeps, wf_enter}

-- the entry is an accepted take of s by p, in turn t
pub record Takes (l : Log) (e : Entry) (p t s : ℕ) : Type 0 where
  pub is_take : is_take e ≡ true
  pub taker : e.process ≡ p
  pub in_turn : e.turn ≡ t
  pub taken : e.store ≡ s
  pub is_accepted : (enter l e).answer ≡ accepted

-- ---- a take stands first in the list, or in the rest

module _ (l : Log) (e : Entry) (es : List Entry) (p t s : ℕ) where
  unfoldable pub here : Takes l e p t s → TookFrom l (e ∷ es) p t s
  unfolding feed
  here k = record {
    before = [];
    entry = e;
    after = es;
    split = refl;
    is_take = k.is_take;
    taker = k.taker;
    in_turn = k.in_turn;
    taken = k.taken;
    is_accepted = k.is_accepted;
  }

  unfoldable pub there : TookFrom (enter l e).log es p t s → TookFrom l (e ∷ es) p t s
  unfolding feed
  there k = record {
    before = e ∷ k.before;
    entry = k.entry;
    after = k.after;
    split = ap (λ (x : List Entry). e ∷ x) k.split;
    is_take = k.is_take;
    taker = k.taker;
    in_turn = k.in_turn;
    taken = k.taken;
    is_accepted = k.is_accepted;
  }

-- ---- who held it before an entry or took it by that

by_entry : (l : Log) (e : Entry) (p s : ℕ) → held_before (enter l e).log p s ≡ true → (held_before l p s ≡ true) ⊎ Takes l e p e.turn s
by_entry l e p s =
    holder_cases (λ (x : Holders). has (get_or x.takers s 0) p ≡ true → (held_before l p s ≡ true) ⊎ Takes l e p e.turn s) l e
    (λ h. inl h)
    (λ ok. set_either (λ (x : ℕ). has x p ≡ true → (held_before l p s ≡ true) ⊎ Takes l e p e.turn s) l.takers e.store s _ 0
    (λ k h. ⊎_elim
    (λ (i : p ≡ e.process). inr (record { is_take = ok.is_take; taker = sym i; in_turn = refl; taken = sym k; is_accepted = answer_is l e ∙ ok_accepted l e ok }))
    (λ i. inl (subst (λ (n : ℕ). held_before l p n ≡ true) (sym k) i))
    (in_with (get_or l.takers e.store 0) e.process p h))
    (λ h. inl h))

took_or_before : (l : Log) (es : List Entry) (p s : ℕ) → held_before (feed l es) p s ≡ true → (held_before l p s ≡ true) ⊎ ((t : ℕ) × TookFrom l es p t s)
unfolding feed
took_or_before l [] p s h = inl h
took_or_before l (e ∷ es) p s h = go (took_or_before (enter l e).log es p s h)
  where
    go : (held_before (enter l e).log p s ≡ true) ⊎ ((t : ℕ) × TookFrom (enter l e).log es p t s)
        → (held_before l p s ≡ true) ⊎ ((t : ℕ) × TookFrom l (e ∷ es) p t s)
    go (inl k) = ⊎_elim (λ (b : held_before l p s ≡ true). inl b) (λ t. inr (e.turn, here l e es p e.turn s t)) (by_entry l e p s k)
    go (inr k) = inr (k.0, there l e es p k.0 s k.1)

-- ---- what an accepted take leaves, and every entry keeps, holds after it

pub took_since : (P : Log → Type 0) (es : List Entry) (p t s : ℕ) → Took es p t s
    → ((l : Log) (e : Entry) → Wf l → Takes l e p t s → P (enter l e).log)
    → ((l : Log) (e : Entry) → Wf l → P l → P (enter l e).log)
    → P (reached es)
unfolding feed
took_since P es p t s k at keeps =
    subst (λ (x : List Entry). P (reached x)) (sym k.split)
    (subst P (sym (feed_append empty_log k.before (k.entry ∷ k.after)))
    (feed_keeps P keeps (enter (reached k.before) k.entry).log k.after (wf_enter (reached k.before) k.entry w)
    (at (reached k.before) k.entry w
    (record { is_take = k.is_take; taker = k.taker; in_turn = k.in_turn; taken = k.taken; is_accepted = k.is_accepted }))))
  where
    w : Wf (reached k.before)
    w = wf_reached k.before

held_since : (es : List Entry) (p t s : ℕ) → Took es p t s → held_before (reached es) p s ≡ true
held_since es p t s k =
    took_since (λ (l : Log). held_before l p s ≡ true) es p t s k
    (λ l e w h. subst₂ (λ (q r : ℕ). held_before (enter l e).log q r ≡ true) h.taker h.taken
    (taker_held l e w.sized h.is_take (sym (answer_is l e) ∙ h.is_accepted)))
    (λ l e w h. held_enter l e p s w.sized h)

none_at_first : (p s : ℕ) → held_before empty_log p s ≡ false
unfolding opened
none_at_first p s = replicate_cases (λ (x : ℕ). has x p ≡ false) stores s 0 0 (empty_has p) (empty_has p)

pub held_exactly : HeldBeforeExactly
held_exactly es p s = (
  λ h. ⊎_elim (λ (b : held_before empty_log p s ≡ true). absurd (opposed b (none_at_first p s))) (λ t. t) (took_or_before empty_log es p s h),
  λ k. held_since es p k.0 s k.1,
)

-- the turn of an accepted take is not above the last one
pub took_turn : (es : List Entry) (p t s : ℕ) → Took es p t s → (1 ≤ t) × (t ≤ latest_of (reached es) p)
took_turn es p t s k =
    took_since (λ (l : Log). (1 ≤ t) × (t ≤ latest_of l p)) es p t s k
    (λ l e w h.
    let ok = sym (answer_is l e) ∙ h.is_accepted in
    let from = (inside_turn l.stores e (accepted_inside l e ok)).0 in
    let last = ap (latest_of (enter l e).log) (sym h.taker) ∙ (held_by l e w.sized h.is_take ok).latest in
    (omega (arith, from, h.in_turn), omega (arith, last, h.in_turn)))
    (λ l e w h. (h.0, omega (arith, h.1, latest_enter l e p w.sized)))
