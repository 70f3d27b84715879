-- The claim on what is printed of a world: "No output line of `plain` or `world` shows a turn."
use Rattle.std.specs.Prelude.{ℕ, ◌≡◌}
use Rattle.model_protocol.specs.declared.Process.{Process}
use Rattle.model_protocol.specs.declared.World.{World}
use Rattle.model_protocol.specs.World.{coordinator_of, follows_of, log_of, process_of, restored_to}
use Rattle.text_report.specs.Claims.{without_turns}
use Rattle.world_report.specs.Report.{world_text}

-- a process with its turn taken out
abbrev pub process_without_turn : Process → Process
process_without_turn p = record { turn = 0; heard = p.heard; store = p.store; position = p.position; running = p.running; followed = p.followed }

-- Two worlds are equal, but for turns, in applied counts, logs, processes, and the replays and
-- follows of these. Their messages, queues and acceptors may be any, with any turns in them.
pub record SameButTurns (w v : World) : Type 0 where
  pub applied : (k : ℕ) → (coordinator_of w k).applied ≡ (coordinator_of v k).applied
  pub logs : (k : ℕ) → without_turns (log_of w k) ≡ without_turns (log_of v k)
  pub processes : (p : ℕ) → process_without_turn (process_of w p) ≡ process_without_turn (process_of v p)
  pub restored : (p : ℕ) → restored_to w p ≡ restored_to v p
  pub follows : (p : ℕ) → follows_of w p ≡ follows_of v p

-- they are printed alike
abbrev pub ShowsNoTurn : Type 0
ShowsNoTurn = (w v : World) → SameButTurns w v → world_text w ≡ world_text v
