-- Document 02: "Follow is refused 5 while the transaction runs, where the process is not the holder,
-- or where the store has no kept commit vote on it." Said of the log, after every list of steps.
use Rattle.std.specs.Prelude.{ℕ, ◌<◌, ◌≡◌, false, List, ◌↔◌, ◌≢◌}
use Rattle.log_entry.specs.Refusal.{accepted, not_met}
use Rattle.log_core.specs.declared.Log.{Log}
use Rattle.log_votes.specs.Outcome.{running}
use Rattle.log_core.specs.Log.{holder_of, row_of}
use Rattle.log_laws.specs.Votes.{KeptCommit}
use Rattle.model_steps.specs.declared.Role.TheVariants.{Coord, Proc}
use Rattle.model_steps.specs.declared.Step.{Step}
use Rattle.model_steps.specs.declared.Step.TheVariants.{Follow}
use Rattle.model_steps.specs.Limits.{messages, outside_step}
use Rattle.model_protocol.specs.declared.World.{World}
use Rattle.model_protocol.specs.Step.{run, step_of}
use Rattle.model_protocol.specs.World.{fresh_world, is_down, log_of}

-- by the log none of the three holds
pub record Followable (l : Log) (process tx : ℕ) : Type 0 where
  pub store : ℕ
  pub holder : holder_of l store ≡ process
  pub kept_commit : KeptCommit l tx store
  pub ended : running (row_of l tx) ≡ false

-- no other refusal is due: there was a setup, the numbers are within their limits, both parties are
-- up, and a message number is left
pub record OtherwiseFine (w : World) (c process tx : ℕ) : Type 0 where
  pub set_up : w.acceptors ≢ 0
  pub within : outside_step w.acceptors (Follow c process tx) ≡ false
  pub coordinator_up : is_down w.down Coord c ≡ false
  pub process_up : is_down w.down Proc process ≡ false
  pub number_left : w.sent < messages

pub record FollowAnswers (w : World) (c process tx : ℕ) : Type 0 where
  pub is_0 : ((step_of w (Follow c process tx)).answer ≡ accepted) ↔ Followable (log_of w c) process tx
  pub is_5 : ((step_of w (Follow c process tx)).answer ≡ not_met) ↔ (Followable (log_of w c) process tx → ⊥)

abbrev pub FollowRefusedExactly : Type 0
FollowRefusedExactly =
    (steps : List Step) (c process tx : ℕ) → OtherwiseFine (run fresh_world steps) c process tx → FollowAnswers (run fresh_world steps) c process tx
