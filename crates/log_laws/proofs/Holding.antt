-- Holders present and past, and their turns: a process holds one store, in its last turn, and a
-- store that it took before it takes again in a later turn only.
use Prim.Native.Nat.{ℕ, ◌≤◌, ◌<◌}
use mathlib.Core.Path.{◌≡◌, refl, sym, ap, subst, ◌∙◌}
use mathlib.Core.Bool.{true, false, not, ◌&&◌}
use mathlib.Core.List.{List}
use mathlib.Core.Logic.{◌≢◌, ⊎_elim}
use native.Mathlib.Omega.{arith}
use lib.Dec.{eqb, ltb}
use lib.ListN.{get_or, length, get_or-eq_default, replicate}
use borrow.Author.Tests.{eq-eqb, eqb-true, eqb-false, ltb-false, not-false}
use Rattle.log_entry.proofs.InsideLaws.{inside_process, inside_store, inside_turn}
use Rattle.log_entry.specs.declared.Entry.{Entry}
use Rattle.log_entry.specs.Bits.{has, with}
use Rattle.log_entry.specs.Entry.{is_take}
use Rattle.log_entry.specs.Limits.{stores}
use Rattle.log_entry.specs.Refusal.{accepted}
use Rattle.log_core.proofs.EnterLaws.{refusal_of, take_entered}
use Rattle.log_core.specs.declared.Entered.{Entered}
use Rattle.log_core.specs.declared.Log.{Log}
use Rattle.log_core.specs.Enter.{enter}
use Rattle.log_core.specs.Log.{empty_log, held_before, holder_of, latest_of, opened, turn_of, with_holder}
use Rattle.log_core.specs.Refusal.{holds_another, is_other, wrong_turn}
use Rattle.log_laws.specs.Holders.{HeldBy, HoldsIn}
use Rattle.log_laws.proofs.Accepted.{TakeOk, process_from_1, take_ok}
use Rattle.log_laws.proofs.EmptyRows.{replicate_cases}
use Rattle.log_laws.proofs.Places.{set_cases}
use Rattle.log_laws.proofs.Scans.{none_here}
use Rattle.log_laws.proofs.Sets.{empty_has, in_with, with_has, with_keeps}
use Rattle.log_laws.proofs.Sizes.{Sized}
use Rattle.log_laws.proofs.Steps.{Holders, holder_cases, holders_of}
use Rattle.log_entry.proofs.Tests.{and_false, below_or_not, both, is_false, neither_left, neither_right, opposed}

pub record Holding (h : Holders) : Type 0 where
  pub one_store : (p s t : ℕ) → p ≢ 0 → get_or h.holders s 0 ≡ p → get_or h.holders t 0 ≡ p → s ≡ t
  pub in_past : (p s : ℕ) → p ≢ 0 → get_or h.holders s 0 ≡ p → has (get_or h.takers s 0) p ≡ true
  pub last_turn : (p s : ℕ) → p ≢ 0 → get_or h.holders s 0 ≡ p → get_or h.turns s 0 ≡ get_or h.latest p 0
  -- who took a store has a last turn
  pub some_turn : (p s : ℕ) → has (get_or h.takers s 0) p ≡ true → 1 ≤ get_or h.latest p 0

-- a process that holds no other store: what it holds is this one
pub holds_only : (holders : List ℕ) (p store s : ℕ) → p ≢ 0 → holds_another holders p store ≡ false → get_or holders s 0 ≡ p → s ≡ store
holds_only holders p store s n none e =
    ⊎_elim
    (λ (h : s < length holders). eqb-true s store
    (not-false (eqb s store) (and_false (eqb (get_or holders s 0) p) (not (eqb s store)) (none_here (is_other p store) 0 holders none s h) (eq-eqb (get_or holders s 0) p e))))
    (λ h. absurd (n (sym e ∙ get_or-eq_default holders 0 {n = s} h)))
    (below_or_not s (length holders))

-- an accepted take, and the holders after it
module _ (l : Log) (e : Entry) (z : Sized l) (ok : TakeOk l e) where
  abbrev taken : Log
  taken = with_holder l e.process e.turn e.store

  in_stores : (xs : List ℕ) → length xs ≡ stores → e.store < length xs
  in_stores xs h = omega (arith, inside_store l.stores e ok.in_limits)

  holder_after : (P : ℕ → Type 0) (s : ℕ) → (s ≡ e.store → P e.process) → (s ≢ e.store → P (holder_of l s)) → P (holder_of taken s)
  holder_after P s = set_cases P l.holders e.store s _ 0 (in_stores l.holders z.holders_size)

  turn_after : (P : ℕ → Type 0) (s : ℕ) → (s ≡ e.store → P e.turn) → (s ≢ e.store → P (turn_of l s)) → P (turn_of taken s)
  turn_after P s = set_cases P l.turns e.store s _ 0 (in_stores l.turns z.turns_size)

  takers_after : (P : ℕ → Type 0) (s : ℕ) → (s ≡ e.store → P (with (get_or l.takers e.store 0) e.process)) → (s ≢ e.store → P (get_or l.takers s 0))
      → P (get_or taken.takers s 0)
  takers_after P s = set_cases P l.takers e.store s _ 0 (in_stores l.takers z.takers_size)

  latest_after : (P : ℕ → Type 0) (p : ℕ) → (p ≡ e.process → P e.turn) → (p ≢ e.process → P (latest_of l p)) → P (latest_of taken p)
  latest_after P p = set_cases P l.latest e.process p _ 0 (omega (arith, z.latest_size, (inside_process l.stores e ok.in_limits).1))

  taker_holds_only : (s : ℕ) → holder_of l s ≡ e.process → s ≡ e.store
  taker_holds_only s = holds_only l.holders e.process e.store s (process_from_1 l.stores e ok.in_limits) ok.no_other

  -- its turn is not below the last one, and above it where it held the store
  turn_not_below : latest_of l e.process ≤ e.turn
  unfolding wrong_turn
  turn_not_below = ltb-false e.turn (latest_of l e.process) (neither_left (ltb e.turn (latest_of l e.process)) _ ok.fresh_turn)

  turn_above : held_before l e.process e.store ≡ true → latest_of l e.process < e.turn
  unfolding wrong_turn
  turn_above h =
      let same = eqb e.turn (latest_of l e.process) in
      let took = held_before l e.process e.store in
      let not_same : e.turn ≢ latest_of l e.process =
      eqb-false e.turn (latest_of l e.process)
      (is_false same (λ k. opposed (both same took k h) (neither_right (ltb e.turn (latest_of l e.process)) (same && took) ok.fresh_turn))) in
      omega (arith, turn_not_below, not_same)

  -- the last turns never fall
  latest_grows : (p : ℕ) → latest_of l p ≤ latest_of taken p
  latest_grows p = latest_after (λ (x : ℕ). latest_of l p ≤ x) p (λ k. subst (λ (q : ℕ). latest_of l q ≤ e.turn) (sym k) turn_not_below) (λ k. omega arith)

  pub taken_by : HeldBy taken e
  taken_by = record {
    holder = holder_after (λ (x : ℕ). x ≡ e.process) e.store (λ k. refl) (λ k. absurd (k refl));
    turn = turn_after (λ (x : ℕ). x ≡ e.turn) e.store (λ k. refl) (λ k. absurd (k refl));
    latest = latest_after (λ (x : ℕ). x ≡ e.turn) e.process (λ k. refl) (λ k. absurd (k refl));
  }

  taker_in_past : held_before taken e.process e.store ≡ true
  taker_in_past =
      takers_after (λ (x : ℕ). has x e.process ≡ true) e.store (λ k. with_has (get_or l.takers e.store 0) e.process) (λ k. absurd (k refl))

  -- what was held before stays so
  past_kept : (p s : ℕ) → held_before l p s ≡ true → held_before taken p s ≡ true
  past_kept p s h =
      takers_after (λ (x : ℕ). has x p ≡ true) s
      (λ k. with_keeps (get_or l.takers e.store 0) e.process p (subst (λ (n : ℕ). held_before l p n ≡ true) k h))
      (λ k. h)

  holding_take : Holding (holders_of l) → Holding (holders_of taken)
  holding_take w = record {
    one_store = λ p s t n.
        holder_after (λ (x : ℕ). x ≡ p → holder_of taken t ≡ p → s ≡ t) s
        (λ k q. holder_after (λ (x : ℕ). x ≡ p → s ≡ t) t (λ k' q'. k ∙ sym k') (λ k' q'. absurd (k' (taker_holds_only t (q' ∙ sym q)))))
        (λ k q. holder_after (λ (x : ℕ). x ≡ p → s ≡ t) t
        (λ k' q'. absurd (k (taker_holds_only s (q ∙ sym q'))))
        (λ k' q'. w.one_store p s t n q q'));
    in_past = λ p s n.
        holder_after (λ (x : ℕ). x ≡ p → held_before taken p s ≡ true) s
        (λ k q. subst (λ (r : ℕ). held_before taken p r ≡ true) (sym k) (subst (λ (r : ℕ). held_before taken r e.store ≡ true) q taker_in_past))
        (λ k q. past_kept p s (w.in_past p s n q));
    last_turn = λ p s n.
        holder_after (λ (x : ℕ). x ≡ p → turn_of taken s ≡ latest_of taken p) s
        (λ k q. ap (turn_of taken) k ∙ taken_by.turn ∙ sym taken_by.latest ∙ ap (latest_of taken) q)
        (λ k q. turn_after (λ (x : ℕ). x ≡ latest_of taken p) s
        (λ k'. absurd (k k'))
        (λ k'. latest_after (λ (x : ℕ). turn_of l s ≡ x) p (λ i. absurd (k (taker_holds_only s (q ∙ i)))) (λ i. w.last_turn p s n q)));
    some_turn = λ p s.
        takers_after (λ (x : ℕ). has x p ≡ true → 1 ≤ latest_of taken p) s
        (λ k h. ⊎_elim
        (λ (i : p ≡ e.process). omega (arith, ap (latest_of taken) i, taken_by.latest, (inside_turn l.stores e ok.in_limits).0))
        (λ i. omega (arith, w.some_turn p e.store i, latest_grows p))
        (in_with (get_or l.takers e.store 0) e.process p h))
        (λ k h. omega (arith, w.some_turn p s h, latest_grows p));
  }

pub holding_enter : (l : Log) (e : Entry) → Sized l → Holding (holders_of l) → Holding (holders_of (enter l e).log)
holding_enter l e z w = holder_cases Holding l e w (λ ok. holding_take l e z ok w)

pub holding_empty : Holding (holders_of empty_log)
unfolding opened
holding_empty = record {
  one_store = λ p s t n q q'. absurd (n (sym q ∙ no_holder s));
  in_past = λ p s n q. absurd (n (sym q ∙ no_holder s));
  last_turn = λ p s n q. absurd (n (sym q ∙ no_holder s));
  some_turn = λ p s h. absurd (opposed h (replicate_cases (λ (x : ℕ). has x p ≡ false) stores s 0 0 (empty_has p) (empty_has p)));
}
  where
    no_holder : (s : ℕ) → get_or {A = ℕ} (replicate stores 0) s 0 ≡ 0
    no_holder s = replicate_cases (λ (x : ℕ). x ≡ 0) stores s 0 0 refl refl

-- ---- what an accepted take leaves, and what every entry keeps

-- the process took the store, in this turn or one before its last
abbrev pub HadIn : ℕ → ℕ → ℕ → Log → Type 0
HadIn p t s l = (held_before l p s ≡ true) × (t ≤ latest_of l p)

-- and does not hold it in this turn
abbrev pub LostIn : ℕ → ℕ → ℕ → Log → Type 0
LostIn p t s l = HadIn p t s l × (HoldsIn l p t s → ⊥)

pub held_by : (l : Log) (e : Entry) → Sized l → is_take e ≡ true → refusal_of l e ≡ accepted → HeldBy (enter l e).log e
held_by l e z t ok = subst (λ (x : Entered). HeldBy x.log e) (take_entered l e t ok) (taken_by l e z (take_ok l e t ok))

pub taker_held : (l : Log) (e : Entry) → Sized l → is_take e ≡ true → refusal_of l e ≡ accepted → held_before (enter l e).log e.process e.store ≡ true
taker_held l e z t ok =
    subst (λ (x : Entered). held_before x.log e.process e.store ≡ true) (take_entered l e t ok) (taker_in_past l e z (take_ok l e t ok))

pub held_enter : (l : Log) (e : Entry) (p s : ℕ) → Sized l → held_before l p s ≡ true → held_before (enter l e).log p s ≡ true
held_enter l e p s z h = holder_cases (λ (x : Holders). has (get_or x.takers s 0) p ≡ true) l e h (λ ok. past_kept l e z ok p s h)

pub latest_enter : (l : Log) (e : Entry) (p : ℕ) → Sized l → latest_of l p ≤ latest_of (enter l e).log p
latest_enter l e p z = holder_cases (λ (x : Holders). latest_of l p ≤ get_or x.latest p 0) l e (omega arith) (λ ok. latest_grows l e z ok p)

pub had_enter : (l : Log) (e : Entry) (p t s : ℕ) → Sized l → HadIn p t s l → HadIn p t s (enter l e).log
had_enter l e p t s z h = (held_enter l e p s z h.0, omega (arith, h.1, latest_enter l e p z))

pub lost_enter : (l : Log) (e : Entry) (p t s : ℕ) → Sized l → LostIn p t s l → LostIn p t s (enter l e).log
lost_enter l e p t s z h = (
  had_enter l e p t s z h.0,
  holder_cases (λ (x : Holders). (get_or x.holders s 0 ≡ p) × (get_or x.turns s 0 ≡ t) → ⊥) l e h.1 not_again,
)
  where
    -- if it takes the store again, then in a later turn
    later_turn : TakeOk l e → s ≡ e.store → e.process ≡ p → t < e.turn
    later_turn ok k q =
        let was : held_before l e.process e.store ≡ true =
        subst (λ (r : ℕ). held_before l r e.store ≡ true) (sym q) (subst (λ (r : ℕ). held_before l p r ≡ true) k h.0.0) in
        omega (arith, h.0.1, ap (latest_of l) q, turn_above l e z ok was)

    not_again : TakeOk l e → HoldsIn (with_holder l e.process e.turn e.store) p t s → ⊥
    not_again ok =
        holder_after l e z ok (λ (x : ℕ). (x ≡ p) × (turn_of (with_holder l e.process e.turn e.store) s ≡ t) → ⊥) s
        (λ k q. let r : e.turn ≡ t = sym (ap (turn_of (with_holder l e.process e.turn e.store)) k ∙ (taken_by l e z ok).turn) ∙ q.1 in
        omega (arith, r, later_turn ok k q.0))
        (λ k q. h.1 (q.0, turn_after l e z ok (λ (x : ℕ). x ≡ t → turn_of l s ≡ t) s (λ i. absurd (k i)) (λ i r. r) q.1))
