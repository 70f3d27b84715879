-- A process's last turn is that of its last accepted take among the entries.
use Prim.Native.Nat.{ℕ, ◌≤◌}
use mathlib.Core.Path.{◌≡◌, refl, sym, ap, subst, ◌∙◌}
use mathlib.Core.Bool.{true, false}
use mathlib.Core.List.{List, [], ◌∷◌, ◌++◌}
use mathlib.Core.Logic.{◌≢◌, ◌⊎◌, inl, inr, ⊎_elim}
use native.Mathlib.Omega.{arith}
use lib.ListN.{get_or}
use Rattle.log_entry.proofs.InsideLaws.{inside_turn}
use Rattle.log_entry.specs.declared.Entry.{Entry}
use Rattle.log_entry.specs.Entry.{is_take}
use Rattle.log_entry.specs.Limits.{process_places}
use Rattle.log_entry.specs.Refusal.{accepted}
use Rattle.log_core.proofs.EnterLaws.{accepted_inside, answer_is}
use Rattle.log_core.specs.declared.Log.{Log}
use Rattle.log_core.specs.Enter.{enter, feed}
use Rattle.log_core.specs.Log.{empty_log, latest_of, opened}
use Rattle.log_laws.specs.Conditions.{LastTake, LastTakeFrom, LatestExactly, TookFrom}
use Rattle.log_laws.specs.Reached.{reached}
use Rattle.log_laws.proofs.Accepted.{ok_accepted}
use Rattle.log_laws.proofs.Answers.{accepts_or_not}
use Rattle.log_laws.proofs.EmptyRows.{replicate_cases}
use Rattle.log_laws.proofs.Feed.{feed_append, wf_reached}
use Rattle.log_laws.proofs.Holding.{held_by}
use Rattle.log_laws.proofs.Places.{set_either}
use Rattle.log_laws.proofs.Steps.{Holders, holder_cases}
use Rattle.log_laws.proofs.TakenBefore.{Takes, here, there}
use Rattle.log_entry.proofs.Tests.{either, opposed, same_number}
use Rattle.log_laws.proofs.WellFormed.{Wf, wf_empty, wf_enter}

-- the entry is no accepted take of the process
abbrev TakesNone : Log → Entry → ℕ → Type 0
TakesNone l e p = (t s : ℕ) → Takes l e p t s → ⊥

-- no accepted take of the process stands in the list
abbrev TookNone : Log → List Entry → ℕ → Type 0
TookNone l es p = (t s : ℕ) → TookFrom l es p t s → ⊥

takes_or_none : (l : Log) (e : Entry) (p : ℕ) → Takes l e p e.turn e.store ⊎ TakesNone l e p
takes_or_none l e p =
    ⊎_elim
    (λ (t : is_take e ≡ true). ⊎_elim
    (λ (q : e.process ≡ p). ⊎_elim
    (λ (a : (enter l e).answer ≡ accepted). inl (record { is_take = t; taker = q; in_turn = refl; taken = refl; is_accepted = a }))
    (λ (a : (enter l e).answer ≢ accepted). inr (λ _ _ k. a k.is_accepted))
    (accepts_or_not (enter l e).answer))
    (λ (q : e.process ≢ p). inr (λ _ _ k. q k.taker))
    (same_number e.process p))
    (λ (t : is_take e ≡ false). inr (λ _ _ k. opposed k.is_take t))
    (either (is_take e))

-- ---- the last turn after an entry

latest_taken : (l : Log) (e : Entry) (p t s : ℕ) → Wf l → Takes l e p t s → latest_of (enter l e).log p ≡ t
latest_taken l e p t s w k =
    ap (latest_of (enter l e).log) (sym k.taker) ∙ (held_by l e w.sized k.is_take (sym (answer_is l e) ∙ k.is_accepted)).latest ∙ k.in_turn

latest_same : (l : Log) (e : Entry) (p : ℕ) → TakesNone l e p → latest_of (enter l e).log p ≡ latest_of l p
latest_same l e p none =
    holder_cases (λ (x : Holders). get_or x.latest p 0 ≡ latest_of l p) l e refl
    (λ ok. set_either (λ (x : ℕ). x ≡ latest_of l p) l.latest e.process p e.turn 0
    (λ k. absurd (none e.turn e.store
    (record { is_take = ok.is_take; taker = sym k; in_turn = refl; taken = refl; is_accepted = answer_is l e ∙ ok_accepted l e ok })))
    refl)

-- and after entries without a take of the process
latest_since : (l : Log) (es : List Entry) (p : ℕ) → TookNone l es p → latest_of (feed l es) p ≡ latest_of l p
unfolding feed
latest_since l [] p none = refl
latest_since l (e ∷ es) p none =
    latest_since (enter l e).log es p (λ t s k. none t s (there l e es p t s k)) ∙ latest_same l e p (λ t s k. none t s (here l e es p t s k))

-- ---- a take in a list stands first, or in the rest

nothing_taken : (l : Log) (p : ℕ) → TookNone l [] p
nothing_taken l p t s k = go k.before k.split
  where
    go : (before : List Entry) → [] ≡ before ++ k.entry ∷ k.after → ⊥
    go [] h = let z : ◌≡◌ {A = ℕ} 0 1 = cc in omega arith
    go (b ∷ bs) h = let z : ◌≡◌ {A = ℕ} 0 1 = cc in omega arith

none_taken_lem : (l : Log) (e : Entry) (es : List Entry) (p : ℕ) → TakesNone l e p → TookNone (enter l e).log es p → TookNone l (e ∷ es) p
unfolding feed
none_taken_lem l e es p first rest t s k = go k.before k.split k.is_accepted
  where
    go : (before : List Entry) → e ∷ es ≡ before ++ k.entry ∷ k.after → (enter (feed l before) k.entry).answer ≡ accepted → ⊥
    go [] h a =
        let same : k.entry ≡ e = cc in
        first t s (subst (λ (x : Entry). Takes l x p t s) same
        (record { is_take = k.is_take; taker = k.taker; in_turn = k.in_turn; taken = k.taken; is_accepted = a }))
    go (b ∷ bs) h a =
        let same : b ≡ e = cc in
        let tail : es ≡ bs ++ k.entry ∷ k.after = cc in
        rest t s (record {
          before = bs;
          entry = k.entry;
          after = k.after;
          split = tail;
          is_take = k.is_take;
          taker = k.taker;
          in_turn = k.in_turn;
          taken = k.taken;
          is_accepted = subst (λ (x : Entry). (enter (feed (enter l x).log bs) k.entry).answer ≡ accepted) same a;
        })

-- ---- the last one is found

found_last : (l : Log) (es : List Entry) (p : ℕ) → Wf l → LastTakeFrom l es p (latest_of (feed l es) p) ⊎ TookNone l es p
unfolding feed here there
found_last l [] p w = inr (nothing_taken l p)
found_last l (e ∷ es) p w = go (found_last (enter l e).log es p (wf_enter l e w))
  where
    go : LastTakeFrom (enter l e).log es p (latest_of (feed (enter l e).log es) p) ⊎ TookNone (enter l e).log es p
        → LastTakeFrom l (e ∷ es) p (latest_of (feed (enter l e).log es) p) ⊎ TookNone l (e ∷ es) p
    go (inl k) = inl (record { store = k.store; took = there l e es p _ k.store k.took; none_since = k.none_since })
    go (inr none) =
        ⊎_elim
        (λ (k : Takes l e p e.turn e.store). inl
        (subst (λ (t : ℕ). LastTakeFrom l (e ∷ es) p t) (sym (latest_since (enter l e).log es p none ∙ latest_taken l e p e.turn e.store w k))
        (record { store = e.store; took = here l e es p e.turn e.store k; none_since = none })))
        (λ k. inr (none_taken_lem l e es p k none))
        (takes_or_none l e p)

no_turn_at_first : (p : ℕ) → latest_of empty_log p ≡ 0
unfolding opened
no_turn_at_first p = replicate_cases (λ (x : ℕ). x ≡ 0) process_places p 0 0 refl refl

turn_of_last : (es : List Entry) (p t : ℕ) → LastTake es p t → (1 ≤ t) × (latest_of (reached es) p ≡ t)
unfolding feed
turn_of_last es p t k = (
  omega (arith, (inside_turn before.stores entry (accepted_inside before entry (sym (answer_is before entry) ∙ k.took.is_accepted))).0, k.took.in_turn),
  ap (λ (x : List Entry). latest_of (reached x) p) k.took.split
      ∙ ap (λ (l : Log). latest_of l p) (feed_append empty_log k.took.before (entry ∷ k.took.after))
      ∙ latest_since (enter before entry).log k.took.after p
      (subst (λ (l : Log). TookNone l k.took.after p) (feed_append empty_log k.took.before (entry ∷ [])) k.none_since)
      ∙ latest_taken before entry p t k.store (wf_reached k.took.before)
      (record { is_take = k.took.is_take; taker = k.took.taker; in_turn = k.took.in_turn; taken = k.took.taken; is_accepted = k.took.is_accepted }),
)
  where
    entry : Entry
    entry = k.took.entry

    before : Log
    before = reached k.took.before

pub latest_exactly : LatestExactly
latest_exactly es p t = (
  λ h. ⊎_elim
      (λ (k : LastTake es p (latest_of (reached es) p)). subst (λ (n : ℕ). LastTake es p n) h.1 k)
      (λ none. let z : latest_of (reached es) p ≡ 0 = latest_since empty_log es p none ∙ no_turn_at_first p in
      absurd (omega (arith, h.0, h.1, z)))
      (found_last empty_log es p wf_empty),
  turn_of_last es p t,
)
