-- The entry that began the last group of a log.
use mathlib.Core.Path.{◌≡◌, refl, ap, ◌∙◌}
use mathlib.Core.List.{List, [], ◌∷◌, ◌++◌}
use mathlib.Core.Logic.{◌⊎◌, inl, inr, ⊎_elim}
use Rattle.log_entry.specs.declared.Entry.{Entry}
use Rattle.log_core.specs.declared.Log.{Log}
use Rattle.log_core.specs.Enter.{enter, feed}
use Rattle.log_core.specs.Log.{empty_log, opened}
use Rattle.log_laws.specs.Groups.{Begins, LastGroupWasBegun}
use Rattle.log_laws.specs.Reached.{reached}
use Rattle.log_laws.proofs.GroupSteps.{one_group}
use Rattle.log_laws.proofs.WellFormed.{Wf, wf_empty, wf_enter}

-- the same from any log
record Begun (l : Log) (es : List Entry) : Type 0 where
  before : List Entry
  first : Entry
  more : List Entry
  split : es ≡ before ++ first ∷ more
  begins : Begins (feed l before) first
  none_since : (feed l (before ++ first ∷ more)).groups ≡ (feed l (before ++ first ∷ [])).groups

sooner : (l : Log) (e : Entry) (es : List Entry) → Begun (enter l e).log es → Begun l (e ∷ es)
unfolding feed
sooner l e es b = record {
  before = e ∷ b.before;
  first = b.first;
  more = b.more;
  split = ap (λ (xs : List Entry). e ∷ xs) b.split;
  begins = b.begins;
  none_since = b.none_since;
}

begun_from : (l : Log) (es : List Entry) → Wf l → ((feed l es).groups ≡ l.groups) ⊎ Begun l es
unfolding feed
begun_from l [] w = inl refl
begun_from l (e ∷ es) w =
    ⊎_elim
    (λ (same : (feed (enter l e).log es).groups ≡ (enter l e).log.groups). ⊎_elim
    (λ (k : (enter l e).log.groups ≡ l.groups). inl (same ∙ k))
    (λ k. inr (record { before = []; first = e; more = es; split = refl; begins = k; none_since = same }))
    (one_group l e w.sized w.row w.grouping))
    (λ b. inr (sooner l e es b))
    (begun_from (enter l e).log es (wf_enter l e w))

no_groups : empty_log.groups ≡ 0
unfolding opened
no_groups = refl

pub was_begun : LastGroupWasBegun
was_begun es =
    ⊎_elim
    (λ (k : (reached es).groups ≡ empty_log.groups). inl (k ∙ no_groups))
    (λ (b : Begun empty_log es).
    inr (record { before = b.before; first = b.first; more = b.more; split = b.split; begins = b.begins; none_since = b.none_since }))
    (begun_from empty_log es wf_empty)
