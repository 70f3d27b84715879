-- Entries of turn 1 alone: the log is that of document 01.
use Prim.Native.Nat.{ℕ, ◌≤◌}
use mathlib.Core.Path.{◌≡◌, refl, sym, ap, ap₂, subst, subst₂, ◌∙◌}
use mathlib.Core.Bool.{Bool, true, false, cond}
use mathlib.Core.List.{List, [], ◌∷◌}
use mathlib.Core.Logic.{◌↔◌}
use native.Mathlib.Omega.{arith}
use lib.ListN.{get_or}
use Rattle.std.specs.Result.{is_ok}
use Rattle.log_entry.specs.declared.Entry.{Entry}
use Rattle.log_entry.specs.Entry.{ill_formed, is_take, outside}
use Rattle.log_entry.specs.Limits.{process_places, stores}
use Rattle.log_entry.specs.Number.{Answer}
use Rattle.log_entry.specs.Refusal.{accepted}
use Rattle.log_core.specs.declared.Log.{Log}
use Rattle.log_entry.proofs.Theorems.{outside_exactly}
use Rattle.log_core.proofs.Limit.{enter_limit, opened_limit}
use Rattle.log_core.proofs.EnterLaws.{answer_is, refusal_of, stored_holder}
use Rattle.log_core.specs.Decide.{effect_of, parts_of}
use Rattle.log_core.specs.Enter.{enter, entered, feed, stored}
use Rattle.log_core.specs.Log.{empty_log, group_of, held_before, holder_of, involvement_of, opened, outcome_of}
use Rattle.log_core.specs.Replay.{replay_of}
use Rattle.log_laws.specs.Answers.{stale}
use Rattle.log_laws.specs.Base.{BaseReadsNoTurn, OnlyRefusalsDiffer, base_answer, base_enter, base_feed, base_involvement_of, base_outside, base_reached, base_refusal, effect_by}
use Rattle.log_laws.specs.Conditions.{Took}
use Rattle.log_laws.specs.Involvement.{ChangesExactly}
use Rattle.log_laws.specs.Reached.{reached}
use Rattle.log_laws.specs.WithoutTurns.{AllFirst, TakeAgrees, TakesWithoutTurns, VotesWithoutTurns, WithoutTurns}
use Rattle.log_laws.proofs.Accepted.{process_from_1}
use Rattle.log_laws.proofs.AnswerClaims.{take_exactly, vote_exactly}
use Rattle.log_laws.proofs.ConditionClaims.{another_by_holders}
use Rattle.log_laws.proofs.EmptyRows.{replicate_cases}
use Rattle.log_laws.proofs.Feed.{wf_reached}
use Rattle.log_laws.proofs.FirstTurns.{Early, accepts_same, in_turn, same_test, stale_same, takes_agree, votes_same}
use Rattle.log_laws.proofs.InvolvementChanges.{changes_exactly}
use Rattle.log_laws.proofs.Limited.{full_reached}
use Rattle.log_laws.proofs.Places.{set_either}
use Rattle.log_laws.proofs.Steps.{Holders, holder_cases}
use Rattle.log_laws.proofs.TakenBefore.{held_exactly}
use Rattle.log_entry.proofs.AnswerLaws.{ok_accepted}
use Rattle.log_entry.proofs.Tests.{is_false, opposed}
use Rattle.log_laws.proofs.WellFormed.{Wf, wf_empty, wf_enter}

-- ---- the log after an entry

pub only_refusals_differ : OnlyRefusalsDiffer
unfolding effect_of
only_refusals_differ p e = refl

pub base_reads_no_turn : BaseReadsNoTurn
unfolding base_refusal base_outside ill_formed
base_reads_no_turn l e turn = refl

-- the log after an entry with this answer
after : Log → Entry → Answer → Log
after l e n = cond (is_ok n) (stored l e (effect_by n (parts_of l e) e)) l

enter_after : (l : Log) (e : Entry) → (enter l e).log ≡ after l e (refusal_of l e)
unfolding enter entered effect_of after
enter_after l e = refl

base_after : (l : Log) (e : Entry) → (base_enter l e).log ≡ after l e (base_answer l e)
unfolding base_enter entered after
base_after l e = refl

-- of a take only this counts, whether it is accepted
take_after : (l : Log) (e : Entry) → is_take e ≡ true → (m n : Answer) → (m ≡ accepted) ↔ (n ≡ accepted) → after l e m ≡ after l e n
unfolding after
take_after l e k m n h =
    ap₂ (λ (b : Bool) (x : Log). cond b x l)
    (same_test (is_ok m) (is_ok n) (λ a. ap is_ok (h.0 (ok_accepted m a))) (λ a. ap is_ok (h.1 (ok_accepted n a))))
    (sym (stored_holder l e (effect_by m (parts_of l e) e) k) ∙ stored_holder l e (effect_by n (parts_of l e) e) k)

log_same : (l : Log) (e : Entry) → l.stores ≡ stores → Wf l → Early l → e.turn ≡ 1 → (enter l e).log ≡ (base_enter l e).log
log_same l e full w early first = enter_after l e ∙ go (is_take e) refl ∙ sym (base_after l e)
  where
    go : (t : Bool) → is_take e ≡ t → after l e (refusal_of l e) ≡ after l e (base_answer l e)
    go true k = take_after l e k (refusal_of l e) (base_answer l e) (takes_agree l e full w early first k).is_0
    go false k = ap (after l e) (votes_same l e full w early first k)

early_enter : (l : Log) (e : Entry) → Early l → e.turn ≡ 1 → Early (enter l e).log
early_enter l e early first p =
    holder_cases (λ (x : Holders). get_or x.latest p 0 ≤ 1) l e (early p)
    (λ ok. set_either (λ (x : ℕ). x ≤ 1) l.latest e.process p e.turn 0 (λ k. omega (arith, first)) (early p))

early_empty : Early empty_log
unfolding opened
early_empty p = replicate_cases (λ (x : ℕ). x ≤ 1) process_places p 0 0 (omega arith) (omega arith)

early_feed : (l : Log) (es : List Entry) → Early l → AllFirst es → Early (feed l es)
unfolding feed
early_feed l [] early first = early
early_feed l (e ∷ es) early first = early_feed (enter l e).log es (early_enter l e early first.0) first.1

early_reached : (es : List Entry) → AllFirst es → Early (reached es)
early_reached es = early_feed empty_log es early_empty

feed_same : (l : Log) (es : List Entry) → l.stores ≡ stores → Wf l → Early l → AllFirst es → feed l es ≡ base_feed l es
unfolding feed base_feed
feed_same l [] full w early first = refl
feed_same l (e ∷ es) full w early first =
    feed_same (enter l e).log es (enter_limit l e ∙ full) (wf_enter l e w) (early_enter l e early first.0) first.1
    ∙ ap (λ (m : Log). base_feed m es) (log_same l e full w early first.0)

-- ---- the claims

base_answer_is : (l : Log) (e : Entry) → (base_enter l e).answer ≡ base_answer l e
unfolding base_enter entered
base_answer_is l e = refl

pub without_turns_lem : WithoutTurns
without_turns_lem es first = record {
  same = same;
  outcome = λ tx. ap (λ (l : Log). outcome_of l tx) same;
  group = λ tx. ap (λ (l : Log). group_of l tx) same;
  involvement = λ tx store. subst (λ (l : Log). ChangesExactly (reached es) tx store (base_involvement_of l tx store) (involvement_of (reached es) tx store)) same (changes_exactly es tx store);
  holder = λ store. ap (λ (l : Log). holder_of l store) same;
  replay = λ store. ap (λ (l : Log). replay_of l store) same;
  accepts = λ e t. subst₂ (λ (m n : Answer). (m ≡ accepted) ↔ (n ≡ accepted)) (now e) (base e) (accepts_same (reached es) e (full_reached es) (wf_reached es) early t);
  votes = λ e t k. subst₂ (λ (m n : Answer). m ≡ n) (now e) (base e) (votes_same (reached es) e (full_reached es) (wf_reached es) early t k);
  takes = λ e t k. subst₂ TakeAgrees (now e) (base e) (takes_agree (reached es) e (full_reached es) (wf_reached es) early t k);
}
  where
    early : Early (reached es)
    early = early_reached es first

    same : reached es ≡ base_reached es
    same = feed_same empty_log es (opened_limit stores) wf_empty early_empty first

    now : (e : Entry) → refusal_of (reached es) e ≡ (enter (reached es) e).answer
    now e = sym (answer_is (reached es) e)

    base : (e : Entry) → base_answer (reached es) e ≡ (base_enter (base_reached es) e).answer
    base e = ap (λ (l : Log). base_answer l e) same ∙ sym (base_answer_is (base_reached es) e)

pub takes_without_turns : TakesWithoutTurns
takes_without_turns es e first take t limits = (
  λ h.
      let n = (take_exactly l e take).is_0.0 h in
      let not-took : (u : ℕ) → Took es e.process u e.store → ⊥ = λ u k. opposed ((held_exactly es e.process e.store).1 (u, k)) (sym was ∙ n.1.1.0) in (
        λ s q.
            let own : s ≡ e.store = (another_by_holders l e limits.process_from).0 n.1.0 s q in
            let k = (held_exactly es e.process e.store).0 ((wf_reached es).holding.in_past e.process e.store (process_from_1 l.stores e n.0) (ap (holder_of l) (sym own) ∙ q)) in
            not-took k.0 k.1,
        not-took,
      ),
  λ f. (take_exactly l e take).is_0.1 (
    subst (λ (m : ℕ). outside m e ≡ false) (sym (full_reached es)) ((outside_exactly.full e).1 limits),
    (
      (another_by_holders l e limits.process_from).1 (λ s q. absurd (f.0 s q)),
      (was ∙ is_false (held_before l e.process e.store) (λ k. let r = (held_exactly es e.process e.store).0 k in f.1 r.0 r.1), tt),
    ),
  ),
)
  where
    l : Log
    l = reached es

    was : stale (reached es) e ≡ held_before (reached es) e.process e.store
    was = stale_same (reached es) e (full_reached es) (wf_reached es) (early_reached es first) t

pub votes_without_turns : VotesWithoutTurns
votes_without_turns es e first vote t = (
  λ h. let n = (vote_exactly l e vote).is_0.0 h in (subst (λ (m : ℕ). outside m e ≡ false) (full_reached es) n.0, (n.1.0, (n.1.1.0, (n.1.1.1.0, (n.1.1.1.1.0, tt))))),
  λ n. (vote_exactly l e vote).is_0.1 (
    inside n.0,
    (n.1.0, (n.1.1.0, (n.1.1.1.0, (n.1.1.1.1.0, (in_turn l e (full_reached es) (wf_reached es) (early_reached es first) t (inside n.0) n.1.1.0, tt))))),
  ),
)
  where
    l : Log
    l = reached es

    inside : outside stores e ≡ false → outside (reached es).stores e ≡ false
    inside = subst (λ (m : ℕ). outside m e ≡ false) (sym (full_reached es))
