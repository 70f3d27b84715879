-- The log of limit n beside the full one: they differ in what is refused 2, and in nothing else.
use Prim.Native.Nat.{ℕ}
use mathlib.Core.Path.{◌≡◌, refl, sym, ap, ◌∙◌}
use mathlib.Core.Bool.{Bool, true, false, cond}
use mathlib.Core.List.{List, [], ◌∷◌}
use mathlib.Core.Logic.{◌↔◌}
use Rattle.log_entry.specs.declared.Entry.{Entry}
use Rattle.log_entry.specs.Entry.{is_take, outside}
use Rattle.log_entry.specs.Limits.{stores}
use Rattle.log_entry.specs.Number.{answer_number}
use Rattle.log_entry.specs.Refusal.{outside_limits}
use Rattle.log_entry.proofs.Tests.{by_test}
use Rattle.log_core.specs.declared.Entered.{Entered}
use Rattle.log_core.specs.declared.Log.{Log}
use Rattle.log_core.specs.Enter.{answers_to, enter, feed}
use Rattle.log_core.specs.Follow.{awaited_of}
use Rattle.log_core.specs.Log.{empty_log, group_of, holder_of, involvement_of, latest_of, opened, outcome_of, turn_of, vote_at, with_limit}
use Rattle.log_core.specs.Replay.{replay_rows}
use Rattle.log_core.specs.Group.{running_set}
use Rattle.log_core.specs.Limit.{AllInside}
use Rattle.log_core.proofs.Limit.{keeps_limit, opened_limit}
use Rattle.log_core.proofs.TwoLimits.{full_after, inside_same, outside_same}
use Rattle.log_laws.specs.Limited.{EveryLimitAsFull, LimitedIsFull, OutsideIsRefused, inside, limited}
use Rattle.log_laws.specs.Reached.{reached}
use Rattle.log_laws.proofs.AnswerClaims.{take_exactly, vote_exactly}

-- ---- a list of entries

fed_same : (n : ℕ) (l : Log) (es : List Entry) → l.stores ≡ stores → feed (with_limit n l) es ≡ with_limit n (feed l (inside n es))
unfolding feed inside
fed_same n l [] full = refl
fed_same n l (e ∷ es) full =
    by_test (λ (fs : List Entry). feed (enter (with_limit n l) e).log es ≡ with_limit n (feed l fs)) (outside n e) _ _
    (λ h. ap (λ (m : Log). feed m es) (outside_same n (with_limit n l) e refl h) ∙ fed_same n l es full)
    (λ h. ap (λ (x : Entered). feed x.log es) (inside_same n l e full h) ∙ fed_same n (enter l e).log es (full_after n l e full))

answers_same : (n : ℕ) (l : Log) (es : List Entry) → l.stores ≡ stores → AllInside n es → answers_to (with_limit n l) es ≡ answers_to l es
unfolding answers_to
answers_same n l [] full h = refl
answers_same n l (e ∷ es) full h =
    ap (λ (x : Entered). answer_number x.answer ∷ answers_to x.log es) (inside_same n l e full h.0)
    ∙ ap (λ (answers : List ℕ). answer_number (enter l e).answer ∷ answers) (answers_same n (enter l e).log es (full_after n l e full) h.1)

all_inside : (n : ℕ) (es : List Entry) → AllInside n es → inside n es ≡ es
unfolding inside
all_inside n [] h = refl
all_inside n (e ∷ es) h =
    ap (λ (b : Bool). cond b (inside n es) (e ∷ inside n es)) h.0
    ∙ ap (λ (fs : List Entry). e ∷ fs) (all_inside n es h.1)

-- ---- the claims

pub limited_is_full : LimitedIsFull
unfolding opened
limited_is_full n es = fed_same n empty_log es (opened_limit stores)

pub full_reached : (es : List Entry) → (reached es).stores ≡ stores
full_reached es = keeps_limit stores es

pub every_limit_as_full : EveryLimitAsFull
unfolding opened awaited_of
every_limit_as_full n es h = record {
  entries = answers_same n empty_log es (opened_limit stores) h;
  next = λ e k. ap (λ (l : Log). (enter l e).answer) same ∙ ap (λ (x : Entered). x.answer) (inside_same n (reached es) e (full_reached es) k);
  outcome = λ tx k. ap (λ (l : Log). outcome_of l tx) same;
  group = λ tx k. ap (λ (l : Log). group_of l tx) same;
  involvement = λ tx store k m. ap (λ (l : Log). involvement_of l tx store) same;
  vote = λ tx store k m. ap (λ (l : Log). vote_at l tx store) same;
  holder = λ store k. ap (λ (l : Log). holder_of l store) same;
  turn = λ store k. ap (λ (l : Log). turn_of l store) same;
  latest = λ process. ap (λ (l : Log). latest_of l process) same;
  replay = λ store k. ap (λ (l : Log). replay_rows l store) same;
  running = ap (λ (l : Log). running_set l.rows) same;
  awaited = λ store k. ap (λ (l : Log). awaited_of l store) same;
}
  where
    same : limited n es ≡ with_limit n (reached es)
    same = limited_is_full n es ∙ ap (λ (fs : List Entry). with_limit n (reached fs)) (all_inside n es h)

pub outside_is_refused : OutsideIsRefused
outside_is_refused n es e = record {
  is_2 = (λ h. sym kept_limit ∙ exactly.0 h, λ h. exactly.1 (kept_limit ∙ h));
  unchanged = λ h. outside_same n (limited n es) e (keeps_limit n es) h;
  other = λ h. ap (λ (l : Log). (enter l e).answer) (limited_is_full n es) ∙ ap (λ (x : Entered). x.answer) (inside_same n (reached (inside n es)) e (full_reached (inside n es)) h);
}
  where
    kept_limit : outside (limited n es).stores e ≡ outside n e
    kept_limit = ap (λ (m : ℕ). outside m e) (keeps_limit n es)

    exactly : ((enter (limited n es) e).answer ≡ outside_limits) ↔ (outside (limited n es).stores e ≡ true)
    exactly = go (is_take e) refl
      where
        go : (t : Bool) → is_take e ≡ t → ((enter (limited n es) e).answer ≡ outside_limits) ↔ (outside (limited n es).stores e ≡ true)
        go true k = (take_exactly (limited n es) e k).is_2
        go false k = (vote_exactly (limited n es) e k).is_2
