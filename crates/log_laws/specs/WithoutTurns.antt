-- Document 02: "A log without turns accepts just what it did." It is compared with the log of
-- document 01, which stands in `Base`.
use Rattle.std.specs.Prelude.{ℕ, ◌≡◌, true, false, List, [], ◌∷◌, ◌↔◌, ◌⊎◌, ◌≢◌}
use Rattle.log_entry.specs.declared.Entry.{Entry}
use Rattle.log_entry.specs.Claims.{InLimits}
use Rattle.log_entry.specs.Entry.{ill_formed, is_take, outside}
use Rattle.log_entry.specs.Limits.{stores}
use Rattle.log_entry.specs.Number.{Answer}
use Rattle.log_entry.specs.Refusal.{accepted, holds_another, outside_limits, wrong_turn}
use Rattle.log_core.specs.Enter.{enter}
use Rattle.log_core.specs.Log.{group_of, holder_of, involvement_of, outcome_of}
use Rattle.log_core.specs.Replay.{replay_of}
use Rattle.log_laws.specs.Answers.{None, clash, holds_not, kept}
use Rattle.log_laws.specs.Base.{base_enter, base_involvement_of, base_reached}
use Rattle.log_laws.specs.Conditions.{Took}
use Rattle.log_laws.specs.Involvement.{ChangesExactly}
use Rattle.log_laws.specs.Reached.{reached}

-- "A line without it means turn 1"
abbrev pub AllFirst : List Entry → Type 0
AllFirst [] = Unit {0}
AllFirst (e ∷ es) = (e.turn ≡ 1) × AllFirst es

-- a take is accepted by both, or refused 2 by both, or refused 11 by the base and 11 or 12 now
pub record TakeAgrees (now base : Answer) : Type 0 where
  pub is_0 : (now ≡ accepted) ↔ (base ≡ accepted)
  pub is_2 : (now ≡ outside_limits) ↔ (base ≡ outside_limits)
  pub is_11 : ((now ≡ holds_another) ⊎ (now ≡ wrong_turn)) ↔ (base ≡ holds_another)

-- After these entries the log is that of the base. So is all that it says, but for who is involved
-- where an abort and a commit vote say otherwise. A further entry is accepted by both or by
-- neither.
pub record AsInBase (es : List Entry) : Type 0 where
  pub same : reached es ≡ base_reached es
  pub outcome : (tx : ℕ) → outcome_of (reached es) tx ≡ outcome_of (base_reached es) tx
  pub group : (tx : ℕ) → group_of (reached es) tx ≡ group_of (base_reached es) tx
  pub involvement : (tx store : ℕ) → ChangesExactly (reached es) tx store (base_involvement_of (base_reached es) tx store) (involvement_of (reached es) tx store)
  pub holder : (store : ℕ) → holder_of (reached es) store ≡ holder_of (base_reached es) store
  pub replay : (store : ℕ) → replay_of (reached es) store ≡ replay_of (base_reached es) store
  pub accepts : (e : Entry) → e.turn ≡ 1 → ((enter (reached es) e).answer ≡ accepted) ↔ ((base_enter (base_reached es) e).answer ≡ accepted)
  pub votes : (e : Entry) → e.turn ≡ 1 → is_take e ≡ false → (enter (reached es) e).answer ≡ (base_enter (base_reached es) e).answer
  pub takes : (e : Entry) → e.turn ≡ 1 → is_take e ≡ true → TakeAgrees (enter (reached es) e).answer (base_enter (base_reached es) e).answer

-- "A log without turns accepts just what it did."
abbrev pub WithoutTurns : Type 0
WithoutTurns = (es : List Entry) → AllFirst es → AsInBase es

-- The same of a take from the history alone: it is accepted exactly if its process holds no store,
-- and never took this one.
abbrev pub TakesWithoutTurns : Type 0
TakesWithoutTurns =
    (es : List Entry) (e : Entry) → AllFirst es → is_take e ≡ true → e.turn ≡ 1 → InLimits 8 32 e
    → ((enter (reached es) e).answer ≡ accepted)
    ↔ (((s : ℕ) → holder_of (reached es) s ≢ e.process) × ((t : ℕ) → Took es e.process t e.store → ⊥))

-- And of a vote: it is accepted exactly if 2 and 7 to 10 do not apply. So 12 refuses none.
abbrev pub VotesWithoutTurns : Type 0
VotesWithoutTurns =
    (es : List Entry) (e : Entry) → AllFirst es → is_take e ≡ false → e.turn ≡ 1
    → let l = reached es in ((enter l e).answer ≡ accepted) ↔ None (outside stores e ∷ ill_formed e ∷ holds_not l e ∷ clash l e ∷ kept l e ∷ [])
