-- Document 02: "In the world a new step `back proc turn` starts a process again, down or up (3 does
-- not stop it), with nothing heard and nothing held; the turn must be above its present one, 1 at
-- setup, else 5. A take or vote with another turn than the process's present one is refused 5". Said
-- of the history, after every list of steps.
use Rattle.std.specs.Prelude.{ℕ, ◌<◌, ◌≡◌, Bool, true, false, ◌||◌, List, ◌↔◌, ◌⊎◌, ◌≢◌}
use Rattle.log_entry.specs.declared.Entry.{Entry}
use Rattle.log_entry.specs.Entry.{no_process, no_turn, outside}
use Rattle.log_entry.specs.Limits.{stores}
use Rattle.log_entry.specs.Refusal.{accepted, not_met, outside_limits}
use Rattle.model_steps.specs.declared.Role.TheVariants.{Coord, Proc}
use Rattle.model_steps.specs.declared.Step.{Step}
use Rattle.model_steps.specs.declared.Step.TheVariants.{Back, Request}
use Rattle.model_steps.specs.Limits.{no_coordinator}
use Rattle.model_protocol.specs.declared.World.{World}
use Rattle.model_protocol.specs.Step.{run, step_of}
use Rattle.model_protocol.specs.Unchanged.{OthersUnchanged, StartedAnew}
use Rattle.model_protocol.specs.World.{fresh_world, is_down}
use Rattle.model_agreement.specs.History.{Event, acceptors, history, turn_now}

-- there was a setup, and the turn is above the one that the process came back with last
abbrev pub MayComeBack : List Event → ℕ → ℕ → Type 0
MayComeBack h process turn = (acceptors h ≢ 0) × (turn_now process h < turn)

-- 2: the process or the turn is outside its limits
abbrev pub outside_back : ℕ → ℕ → Bool
outside_back process turn = no_process process || no_turn turn

-- the answer is 2, 5 or 0, whoever is down, and however many numbers are left: never 3 or 6
pub record BackAnswers (w : World) (h : List Event) (process turn : ℕ) : Type 0 where
  pub no_other : let a = (step_of w (Back process turn)).answer in (a ≡ outside_limits) ⊎ ((a ≡ not_met) ⊎ (a ≡ accepted))
  pub is_2 : ((step_of w (Back process turn)).answer ≡ outside_limits) ↔ (outside_back process turn ≡ true)
  pub is_5 : ((step_of w (Back process turn)).answer ≡ not_met) ↔ ((outside_back process turn ≡ false) × (MayComeBack h process turn → ⊥))
  pub is_0 : ((step_of w (Back process turn)).answer ≡ accepted) ↔ ((outside_back process turn ≡ false) × MayComeBack h process turn)

abbrev pub BackRefusedExactly : Type 0
BackRefusedExactly = (steps : List Step) (process turn : ℕ) → BackAnswers (run fresh_world steps) (history steps) process turn

-- an accepted one starts the process anew, and changes nothing else
abbrev pub ComesBackAnew : Type 0
ComesBackAnew =
    (steps : List Step) (process turn : ℕ) → let w = run fresh_world steps in (step_of w (Back process turn)).answer ≡ accepted
    → StartedAnew w (step_of w (Back process turn)).world process turn × OthersUnchanged w (step_of w (Back process turn)).world process

-- "A take or vote with another turn than the process's present one is refused 5": neither 2 nor 3
-- comes first
pub record Sendable (w : World) (e : Entry) (to : ℕ) : Type 0 where
  pub within : (outside stores e || no_coordinator to) ≡ false
  pub process_up : is_down w.down Proc e.process ≡ false
  pub coordinator_up : is_down w.down Coord to ≡ false

-- That one which was sent was of the present turn is `entries_in_turn` of `Claim`.
abbrev pub OtherTurnRefused : Type 0
OtherTurnRefused =
    (steps : List Step) (e : Entry) (to : ℕ) → let w = run fresh_world steps in Sendable w e to
    → turn_now e.process (history steps) ≢ e.turn
    → (step_of w (Request e to)).answer ≡ not_met
