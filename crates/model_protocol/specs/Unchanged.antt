-- The claims on what a step leaves as it was, of every world and step.
use Rattle.std.specs.Prelude.{ℕ, ◌≡◌, true, false, ◌≢◌, length}
use Rattle.log_entry.specs.Limits.{process_places}
use Rattle.log_entry.specs.Refusal.{accepted}
use Rattle.log_core.specs.Replay.{no_replay}
use Rattle.model_steps.specs.declared.Role.{Role}
use Rattle.model_steps.specs.declared.Role.TheVariants.{Acceptor, Coord, Proc}
use Rattle.model_steps.specs.declared.Step.{Step}
use Rattle.model_steps.specs.declared.Step.TheVariants.{Back, Crash}
use Rattle.model_protocol.specs.declared.World.{World}
use Rattle.model_protocol.specs.Step.{step_of}
use Rattle.model_protocol.specs.World.{follows_of, is_down, no_follows, process_of, restored_to, started_in}

-- "State and buffers stay unchanged."
abbrev pub RefusedStepChangesNothing : Type 0
RefusedStepChangesNothing = (w : World) (s : Step) → (step_of w s).answer ≢ accepted → (step_of w s).world ≡ w

-- all but who is down is as it was
pub record OnlyDownChanges (w v : World) : Type 0 where
  pub acceptors : v.acceptors ≡ w.acceptors
  pub slots : v.slots ≡ w.slots
  pub coordinators : v.coordinators ≡ w.coordinators
  pub logs : v.logs ≡ w.logs
  pub processes : v.processes ≡ w.processes
  pub restored : v.restored ≡ w.restored
  pub follows : v.follows ≡ w.follows
  pub messages : v.messages ≡ w.messages
  pub replays : v.replays ≡ w.replays
  pub sent : v.sent ≡ w.sent

-- a crash takes nothing from what the party keeps
abbrev pub CrashChangesOnlyDown : Type 0
CrashChangesOnlyDown = (w : World) (role : Role) (id : ℕ) → OnlyDownChanges w (step_of w (Crash role id)).world

-- the step starts this party again; "Acceptors and coordinators still crash for good."
abbrev pub StartsAgain : Step → Role → ℕ → Type 0
StartsAgain s role id = (role ≡ Proc) × ((turn : ℕ) × (s ≡ Back id turn))

-- "A crashed party stays down", until it is started again
abbrev pub CrashedStaysDown : Type 0
CrashedStaysDown = (w : World) (s : Step) (role : Role) (id : ℕ) → (StartsAgain s role id → ⊥) → is_down w.down role id ≡ true → is_down (step_of w s).world.down role id ≡ true

-- after a `back` the process is as in a fresh world, at that turn, up
pub record StartedAnew (w v : World) (process turn : ℕ) : Type 0 where
  pub fresh : process_of v process ≡ started_in turn
  pub nothing_restored : restored_to v process ≡ no_replay
  pub nothing_followed : follows_of v process ≡ no_follows
  pub up : is_down v.down Proc process ≡ false

-- and all else is as it was
pub record OthersUnchanged (w v : World) (process : ℕ) : Type 0 where
  pub acceptors : v.acceptors ≡ w.acceptors
  pub slots : v.slots ≡ w.slots
  pub coordinators : v.coordinators ≡ w.coordinators
  pub logs : v.logs ≡ w.logs
  pub processes : (p : ℕ) → p ≢ process → process_of v p ≡ process_of w p
  pub restored : (p : ℕ) → p ≢ process → restored_to v p ≡ restored_to w p
  pub follows : (p : ℕ) → p ≢ process → follows_of v p ≡ follows_of w p
  pub acceptors_down : (id : ℕ) → is_down v.down Acceptor id ≡ is_down w.down Acceptor id
  pub coordinators_down : (id : ℕ) → is_down v.down Coord id ≡ is_down w.down Coord id
  pub processes_down : (p : ℕ) → p ≢ process → is_down v.down Proc p ≡ is_down w.down Proc p
  pub messages : v.messages ≡ w.messages
  pub replays : v.replays ≡ w.replays
  pub sent : v.sent ≡ w.sent

-- the world has a place for each process
pub record HasProcesses (w : World) : Type 0 where
  pub processes : length w.processes ≡ process_places
  pub restored : length w.restored ≡ process_places
  pub follows : length w.follows ≡ process_places

-- "starts a process again, down or up (3 does not stop it), with nothing heard and nothing held"
abbrev pub BackStartsAnew : Type 0
BackStartsAnew =
    (w : World) (process turn : ℕ) → HasProcesses w → (step_of w (Back process turn)).answer ≡ accepted
    → StartedAnew w (step_of w (Back process turn)).world process turn × OthersUnchanged w (step_of w (Back process turn)).world process
