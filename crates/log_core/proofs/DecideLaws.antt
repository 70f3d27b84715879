-- An entry's answer and effect, by the tests that lead to them.
use Rattle.log_votes.specs.Vote.{vote_kept}
use Rattle.log_entry.specs.Entry.{by_of, is_take, tx_of}
use Prim.Native.Nat.{ℕ, ◌<◌, ◌≤◌}
use mathlib.Core.Bool.{Bool, cond, false, false≢true, not, true, true≢false, ◌&&◌}
use mathlib.Core.Path.{◌≡◌, ap, refl, sym, ◌∙◌}
use native.Mathlib.Omega.{arith}
use Rattle.std.proofs.Common.{is_ok}
use lib.ListN.{get_or}
use Rattle.log_entry.specs.declared.Entry.{Entry}
use Rattle.log_entry.specs.Bits.{has}
use Rattle.log_entry.specs.Entry.{outside}
use Rattle.log_entry.specs.Limits.{transactions}
use Rattle.log_entry.specs.Number.{Answer}
use Rattle.log_entry.specs.Refusal.{accepted, first_refusal, outside_limits}
use Rattle.log_votes.specs.declared.Outcome.{Outcome}
use Rattle.log_votes.specs.declared.Outcome.TheVariants.{Abort, Commit, Open}
use Rattle.log_votes.specs.Outcome.{is_committed, is_open, outcome_of_votes}
use Rattle.log_votes.specs.Refusal.{any_clash, vote_refusal}
use Rattle.log_votes.specs.Row.{keeping, vote_of_store}
use Rattle.log_entry.proofs.AnswerLaws.{not_ok}
use Rattle.log_votes.proofs.RefusalLaws.{accepted_vote}
use Rattle.log_core.specs.declared.Effect.{Effect}
use Rattle.log_core.specs.declared.Parts.{Parts}
use Rattle.log_core.specs.declared.VoteParts.{VoteParts}
use Rattle.log_core.specs.Decide.{commits, effect_of, group_after, joins, keeps, refusal, runs_on, vote_parts_of}
use Rattle.log_core.specs.Group.{next_group}
use Rattle.log_core.specs.Refusal.{take_checks}

-- the answer
module _ (p : Parts) (e : Entry) where
  pub answer_outside : outside p.stores e ≡ true → outside_limits ≡ refusal p e
  unfolding refusal first_refusal
  answer_outside h = rw h

  module _ (inside : outside p.stores e ≡ false) where
    pub answer_take : is_take e ≡ true → first_refusal (take_checks p.holders p.takers p.latest e) ≡ refusal p e
    unfolding refusal first_refusal
    answer_take take = rw (inside, take)

    pub answer_vote : is_take e ≡ false → {by : ℕ} → by_of e ≡ by → vote_refusal p.row (get_or p.holders by 0) (get_or p.turns by 0) e ≡ refusal p e
    unfolding refusal vote_refusal first_refusal
    answer_vote vote by = rw (inside, vote, by)

-- what is committed does not run
committed_rests : (o : Outcome) → is_committed o ≡ true → is_open o ≡ false
committed_rests Open h = absurd (false≢true h)
committed_rests Commit h = refl
committed_rests Abort h = refl

-- the effect
abbrev pub effect : Answer → ℕ → Bool → Bool → Effect
effect answer group begins runs = record { answer = answer; group = group; begins = begins; runs = runs }

module _ (p : Parts) (e : Entry) where
  pub effect_refused : (n : Answer) → n ≡ refusal p e → (n ≡ accepted → ⊥) → effect n p.row.group false false ≡ effect_of p e
  unfolding effect_of
  effect_refused n is wrong = rw (is, not_ok (refusal p e) (λ k. wrong (is ∙ k)))

  pub effect_take : (n : Answer) → n ≡ refusal p e → is_take e ≡ true → effect n p.row.group false false ≡ effect_of p e
  unfolding effect_of
  effect_take n is take =
      ap (λ (m : Answer). effect m p.row.group false false) is
      ∙ split (keeps p e) (keeps_none (is_ok (refusal p e)) refl)
    where
      keeps_none : (ok : Bool) → is_ok (refusal p e) ≡ ok → keeps p e ≡ false
      keeps_none true h = rw (h, take)
      keeps_none false h = rw h

      split : (k : Bool) → k ≡ false
          → effect (refusal p e) p.row.group false false
          ≡ effect (refusal p e) (cond k (group_after p e) p.row.group) (k && commits p e && not (joins p e)) (k && runs_on p e)
      split true h = absurd (true≢false h)
      split false h = refl

  -- of a vote, by what of the parts it is decided on
  module _ (vote : is_take e ≡ false) {v : VoteParts} (so : v ≡ vote_parts_of p e) where
    pub vote_answer : outside p.stores e ≡ false → (n : Answer) → n ≡ vote_refusal p.row v.holder v.turn e → n ≡ refusal p e
    vote_answer inside n is = is ∙ ap (λ (v : VoteParts). vote_refusal p.row v.holder v.turn e) so ∙ answer_vote p e inside vote refl

    -- and the vote is accepted
    pub vote_fits : {n : Answer} → n ≡ vote_refusal p.row v.holder v.turn e → n ≡ accepted → (any_clash e p.row.votes ≡ false) × (vote_kept (vote_of_store e.store p.row) ≡ false)
    vote_fits is ok = accepted_vote p.row v.holder v.turn e (sym is ∙ ok)

    in_group : (n : Answer) (begins runs : Bool) → effect n v.group begins runs ≡ effect n p.row.group begins runs
    in_group n begins runs = ap (λ (v : VoteParts). effect n v.group begins runs) so

    pub vote_refused : (n : Answer) → n ≡ refusal p e → (n ≡ accepted → ⊥) → effect n v.group false false ≡ effect_of p e
    vote_refused n is wrong = in_group n false false ∙ effect_refused n is wrong

    module _ (ok : refusal p e ≡ accepted) where
      effect_kept : (o : Bool) → commits p e ≡ false → o ≡ runs_on p e → effect accepted p.row.group false o ≡ effect_of p e
      unfolding effect_of
      effect_kept o h k = rw (ok, vote, h, k)

      pub vote_keeps : (o : Bool) → commits p e ≡ false → o ≡ runs_on p e → effect accepted v.group false o ≡ effect_of p e
      vote_keeps o h k = in_group accepted false o ∙ effect_kept o h k

      effect_committed : (g : ℕ) (j : Bool) → commits p e ≡ true → j ≡ joins p e
          → g ≡ cond j p.groups (next_group p.groups) → effect accepted g (not j) false ≡ effect_of p e
      unfolding effect_of
      effect_committed g j h k m = rw (ok, vote, h, m, k, committed_rests (outcome_of_votes (keeping p.row e).votes) h)

      pub vote_committed : (g : ℕ) (j : Bool) → commits p e ≡ true → j ≡ has v.remembered (tx_of e)
          → g ≡ cond j v.groups (next_group v.groups) → effect accepted g (not j) false ≡ effect_of p e
      vote_committed g j h k m =
          effect_committed g j h (k ∙ ap (λ (v : VoteParts). has v.remembered (tx_of e)) so) (m ∙ ap (λ (v : VoteParts). cond j v.groups (next_group v.groups)) so)

-- whether the transaction of a kept vote runs
pub effect_runs : (p : Parts) (e : Entry) (f : Effect) → f ≡ effect_of p e → f.answer ≡ accepted → is_take e ≡ false → f.runs ≡ runs_on p e
unfolding effect_of
effect_runs p e f is ok vote =
    ap (λ (f : Effect). f.runs) is
    ∙ rw (sym (ap (λ (f : Effect). f.answer) is) ∙ ok, vote)

-- the number of a group that is begun
begun_group : (k c j : Bool) (groups old : ℕ) → (k && c && not j) ≡ true
    → let g = cond k (cond c (cond j groups (next_group groups)) old) old in (0 < g) × (g ≤ transactions)
begun_group true true true groups old h = absurd (false≢true h)
begun_group true true false groups old h = (omega arith, omega arith)
begun_group true false j groups old h = absurd (false≢true h)
begun_group false c j groups old h = absurd (false≢true h)

pub begins_group : (p : Parts) (e : Entry) (f : Effect) → f ≡ effect_of p e → f.begins ≡ true → (0 < f.group) × (f.group ≤ transactions)
unfolding effect_of
begins_group p e f is h =
    let g =
    begun_group (is_ok (refusal p e) && not (is_take e)) (commits p e) (joins p e) p.groups p.row.group
    (sym (ap (λ (f : Effect). f.begins) is) ∙ h) in
    let same : f.group ≡ (effect_of p e).group = ap (λ (f : Effect). f.group) is in
    (omega (arith, g.0, same), omega (arith, g.1, same))
