-- What a group remembers: who ran just before it was begun, for good.
use Prim.Native.Nat.{ℕ, ◌+◌, ◌≤◌}
use mathlib.Core.Path.{◌≡◌, refl, ap, ◌∙◌}
use native.Mathlib.Omega.{arith}
use native.Mathlib.Nat.{le_trans}
use Rattle.log_entry.specs.declared.Entry.{Entry}
use Rattle.log_entry.specs.Bits.{has}
use Rattle.log_core.specs.declared.Log.{Log}
use Rattle.log_core.specs.Enter.{enter}
use Rattle.log_core.specs.Group.{remembered, running_set}
use Rattle.log_laws.specs.Groups.{Begins, RememberedNeverChanges, GroupRemembersRunning}
use Rattle.log_laws.specs.Reached.{reached}
use Rattle.log_laws.proofs.Feed.{later, wf_reached}
use Rattle.log_laws.proofs.GroupSteps.{groups_grow, remembered_begun, remembered_vote}
use Rattle.log_laws.proofs.Running.{running_has}
use Rattle.log_laws.proofs.Steps.{enter_cases}
use Rattle.log_laws.proofs.WellFormed.{Wf}

begun_set : (l : Log) (e : Entry) → Wf l → Begins l e → remembered (enter l e).log (enter l e).log.groups ≡ running_set l.rows
begun_set l e w =
    enter_cases (λ (x : Log). x.groups ≡ l.groups + 1 → remembered x x.groups ≡ running_set l.rows) l e
    (λ h. absurd (none h))
    (λ ok h. absurd (none h))
    (λ ok. remembered_begun l e w.sized w.row w.grouping ok)
  where
    none : l.groups ≡ l.groups + 1 → ⊥
    none h = omega arith

pub remembers_running : GroupRemembersRunning
remembers_running es e b tx = ap (λ (set : ℕ). has set tx) (begun_set (reached es) e (wf_reached es) b) ∙ running_has (reached es).rows tx

-- group g was begun, and remembers the set
abbrev Remembers : ℕ → ℕ → Log → Type 0
Remembers g set l = (g ≤ l.groups) × (remembered l g ≡ set)

remembers_enter : (g set : ℕ) (l : Log) (e : Entry) → Wf l → Remembers g set l → Remembers g set (enter l e).log
unfolding remembered
remembers_enter g set l e w h =
    enter_cases (Remembers g set) l e h (λ ok. h)
    (λ ok. (
      le_trans h.0 (groups_grow l e w.sized w.row w.grouping ok),
      remembered_vote l e w.sized w.row w.grouping ok g h.0 ∙ h.1,
    ))

pub remembered_stays : RememberedNeverChanges
remembered_stays es more g h = (later (Remembers g (remembered (reached es) g)) (remembers_enter g (remembered (reached es) g)) es more (h, refl)).1
