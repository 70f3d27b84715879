-- The claims on holders and their turns. Processes and turns are numbered from 1; 0 means none.
use Rattle.std.specs.Prelude.{ℕ, ◌≤◌, ◌<◌, ◌≡◌, true, false, List, ◌∷◌, ◌++◌, ◌≢◌}
use Rattle.log_entry.specs.declared.Entry.{Entry}
use Rattle.log_entry.specs.Entry.{is_take}
use Rattle.log_entry.specs.Refusal.{accepted}
use Rattle.log_core.specs.declared.Log.{Log}
use Rattle.log_core.specs.Enter.{enter}
use Rattle.log_core.specs.Log.{holder_of, latest_of, turn_of}
use Rattle.log_laws.specs.Reached.{reached}

-- the process holds the store, in this turn
abbrev pub HoldsIn : Log → ℕ → ℕ → ℕ → Type 0
HoldsIn l process turn s = (holder_of l s ≡ process) × (turn_of l s ≡ turn)

-- "An accepted take makes the process the store's holder", "and the log records each holder's
-- turn": which is the last accepted one of that process.
pub record HeldBy (l : Log) (e : Entry) : Type 0 where
  pub holder : holder_of l e.store ≡ e.process
  pub turn : turn_of l e.store ≡ e.turn
  pub latest : latest_of l e.process ≡ e.turn

abbrev pub AcceptedTakeHolds : Type 0
AcceptedTakeHolds =
    (es : List Entry) (e : Entry) → is_take e ≡ true → (enter (reached es) e).answer ≡ accepted → HeldBy (enter (reached es) e).log e

-- a process holds at most one store
abbrev pub HoldsAtMostOneStore : Type 0
HoldsAtMostOneStore =
    (es : List Entry) (process s t : ℕ) → 1 ≤ process → holder_of (reached es) s ≡ process → holder_of (reached es) t ≡ process → s ≡ t

-- in its last accepted turn
abbrev pub HoldsInLastTurn : Type 0
HoldsInLastTurn =
    (es : List Entry) (process s : ℕ) → 1 ≤ process → holder_of (reached es) s ≡ process → turn_of (reached es) s ≡ latest_of (reached es) process

-- the turns of a process's accepted takes never fall
abbrev pub LastTurnNeverFalls : Type 0
LastTurnNeverFalls = (es more : List Entry) (process : ℕ) → latest_of (reached es) process ≤ latest_of (reached (es ++ more)) process

-- a process that held a store in a turn, and by a later log does not hold it in that turn, never
-- holds it in that turn after that
abbrev pub LostStoreNeverAgain : Type 0
LostStoreNeverAgain =
    (es more later : List Entry) (process turn s : ℕ) → 1 ≤ process
    → HoldsIn (reached es) process turn s
    → (HoldsIn (reached (es ++ more)) process turn s → ⊥)
    → HoldsIn (reached (es ++ more ++ later)) process turn s
    → ⊥

-- "Once a take of a later turn is accepted, no vote from an earlier turn of that process is kept."
-- `t` is the take, `v` the vote, and `more` any entries between the two.
abbrev pub NoEarlierTurnKept : Type 0
NoEarlierTurnKept =
    (es more : List Entry) (t v : Entry)
    → is_take t ≡ true
    → (enter (reached es) t).answer ≡ accepted
    → is_take v ≡ false
    → v.process ≡ t.process
    → v.turn < t.turn
    → (enter (reached (es ++ t ∷ more)) v).answer ≢ accepted
