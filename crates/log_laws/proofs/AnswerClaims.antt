-- The answers to votes and takes, each under its condition.
use mathlib.Core.Path.{◌≡◌, refl, sym, ap, subst, ◌∙◌}
use mathlib.Core.Bool.{Bool, true}
use mathlib.Core.List.{List, [], ◌∷◌, ◌++◌}
use mathlib.Core.Logic.{◌↔◌, ◌≢◌}
use Rattle.std.specs.Result.{is_ok}
use Rattle.log_entry.specs.declared.Entry.{Entry}
use Rattle.log_entry.specs.Entry.{ill_formed, outside}
use Rattle.log_entry.specs.Number.{Answer}
use Rattle.log_entry.specs.Refusal.{Check, accepted, check, first_refusal, holds_another, ill_formed_vote, kept_already, not_holder, other_list, outside_limits, wrong_turn}
use Rattle.log_core.specs.declared.Log.{Log}
use Rattle.log_core.specs.Decide.{effect_of}
use Rattle.log_core.specs.Enter.{enter, entered}
use Rattle.log_core.proofs.EnterLaws.{answer_is, refusal_of}
use Rattle.log_laws.specs.Answers.{First, None, RefusedEntryChangesNothing, TakeAnswerExactly, VoteAnswerExactly, another, clash, holds_not, kept, other_turn, stale}
use Rattle.log_laws.proofs.Accepted.{take_refusal, take_list, vote_refusal_lem, vote_list}
use Rattle.log_laws.proofs.Answers.{conditions, fresh, given_exactly, no_refusal, none_applies}
use Rattle.log_entry.proofs.AnswerLaws.{err_ok, ok_accepted}
use Rattle.log_entry.proofs.Tests.{by_test}

pub refused_same : RefusedEntryChangesNothing
unfolding enter entered effect_of
refused_same l e =
    by_test (λ (x : Log). refusal_of l e ≢ accepted → x ≡ l) (is_ok (refusal_of l e)) _ _
    (λ h n. absurd (n (ok_accepted (refusal_of l e) h)))
    (λ h n. refl)

-- the entry's answer is by this list of checks
module _ (l : Log) (e : Entry) (cs : List Check) (is : refusal_of l e ≡ first_refusal cs) where
  exactly : (before after : List Check) (n : Answer) (t : Bool) → n ≢ accepted → fresh n (before ++ after) ≡ true → before ++ check n t ∷ after ≡ cs
      → ((enter l e).answer ≡ n) ↔ First (conditions before) t
  exactly before after n t z f k =
      subst (λ (a : Answer). (a ≡ n) ↔ First (conditions before) t)
      (sym (answer_is l e ∙ is ∙ sym (ap first_refusal k))) (given_exactly before after n t z f)

  zero_exactly : fresh accepted cs ≡ true → ((enter l e).answer ≡ accepted) ↔ None (conditions cs)
  zero_exactly f =
      subst (λ (a : Answer). (a ≡ accepted) ↔ None (conditions cs)) (sym (answer_is l e ∙ is)) (none_applies cs f, no_refusal cs)

pub vote_exactly : VoteAnswerExactly
vote_exactly l e v = record {
  is_2 = by [] (c7 ∷ c8 ∷ c9 ∷ c10 ∷ c12 ∷ []) outside_limits (outside l.stores e) err_ok refl refl;
  is_7 = by (c2 ∷ []) (c8 ∷ c9 ∷ c10 ∷ c12 ∷ []) ill_formed_vote (ill_formed e) err_ok refl refl;
  is_8 = by (c2 ∷ c7 ∷ []) (c9 ∷ c10 ∷ c12 ∷ []) not_holder (holds_not l e) err_ok refl refl;
  is_9 = by (c2 ∷ c7 ∷ c8 ∷ []) (c10 ∷ c12 ∷ []) other_list (clash l e) err_ok refl refl;
  is_10 = by (c2 ∷ c7 ∷ c8 ∷ c9 ∷ []) (c12 ∷ []) kept_already (kept l e) err_ok refl refl;
  is_12 = by (c2 ∷ c7 ∷ c8 ∷ c9 ∷ c10 ∷ []) [] wrong_turn (other_turn l e) err_ok refl refl;
  is_0 = zero_exactly l e cs (vote_refusal_lem l e v) refl;
}
  where
    c2 : Check
    c2 = check outside_limits (outside l.stores e)

    c7 : Check
    c7 = check ill_formed_vote (ill_formed e)

    c8 : Check
    c8 = check not_holder (holds_not l e)

    c9 : Check
    c9 = check other_list (clash l e)

    c10 : Check
    c10 = check kept_already (kept l e)

    c12 : Check
    c12 = check wrong_turn (other_turn l e)

    cs : List Check
    cs = vote_list l e

    by : (before after : List Check) (n : Answer) (t : Bool) → n ≢ accepted → fresh n (before ++ after) ≡ true → before ++ check n t ∷ after ≡ cs
        → ((enter l e).answer ≡ n) ↔ First (conditions before) t
    by = exactly l e cs (vote_refusal_lem l e v)

pub take_exactly : TakeAnswerExactly
take_exactly l e v = record {
  is_2 = exactly l e cs is [] (c11 ∷ c12 ∷ []) outside_limits (outside l.stores e) err_ok refl refl;
  is_11 = exactly l e cs is (c2 ∷ []) (c12 ∷ []) holds_another (another l e) err_ok refl refl;
  is_12 = exactly l e cs is (c2 ∷ c11 ∷ []) [] wrong_turn (stale l e) err_ok refl refl;
  is_0 = zero_exactly l e cs is refl;
}
  where
    c2 : Check
    c2 = check outside_limits (outside l.stores e)

    c11 : Check
    c11 = check holds_another (another l e)

    c12 : Check
    c12 = check wrong_turn (stale l e)

    cs : List Check
    cs = take_list l e

    is : refusal_of l e ≡ first_refusal cs
    is = take_refusal l e v
