-- What is printed of a world does not hang on its turns.
use Prim.Native.Nat.{ℕ, suc}
use mathlib.Core.List.{List, ◌++◌}
use mathlib.Core.Path.{◌≡◌, ap, ap₂, sym, ◌∙◌}
use Rattle.log_core.specs.declared.Replay.{Replay}
use Rattle.log_entry.specs.Limits.{processes}
use Rattle.model_protocol.specs.declared.Process.{Process}
use Rattle.model_protocol.specs.declared.World.{World}
use Rattle.model_protocol.specs.World.{coordinator_of, follows_of, log_of, process_of, restored_to}
use Rattle.model_steps.specs.Limits.{coordinators}
use Rattle.text_report.proofs.WithoutTurns as log
use Rattle.text_report.proofs.WithoutTurns.{each_same}
use Rattle.text_report.specs.Report.{log_text}
use Rattle.world_report.specs.Claims.{SameButTurns, ShowsNoTurn}
use Rattle.world_report.specs.Coordinators.{coordinator_line, coordinator_text}
use Rattle.world_report.specs.Processes.{heard_text, restore_text}
use Rattle.world_report.specs.Report.{world_text}

module _ (w v : World) (same : SameButTurns w v) where
  coordinator_same : (k : ℕ) → coordinator_text k (coordinator_of w k) (log_of w k) ≡ coordinator_text k (coordinator_of v k) (log_of v k)
  coordinator_same k =
      ap₂ (λ (applied : ℕ) (text : List ℕ). coordinator_line k applied ++ text) (same.applied k)
      (sym (log.shows_no_turn (log_of w k)) ∙ ap log_text (same.logs k) ∙ log.shows_no_turn (log_of v k))

  heard_same : (p : ℕ) → heard_text p (process_of w p) ≡ heard_text p (process_of v p)
  heard_same p = ap (heard_text p) (same.processes p)

  restore_same : (p : ℕ) → restore_text p (process_of w p) (restored_to w p) (follows_of w p) ≡ restore_text p (process_of v p) (restored_to v p) (follows_of v p)
  restore_same p =
      ap₂ (λ (x : Process) (r : Replay). restore_text p x r (follows_of w p)) (same.processes p) (same.restored p)
      ∙ ap (restore_text p (process_of v p) (restored_to v p)) (same.follows p)

pub shows_no_turn : ShowsNoTurn
unfolding world_text
shows_no_turn w v same =
    ap₂ ◌++◌
    (ap₂ ◌++◌ (each_same _ _ (coordinator_same w v same) coordinators) (each_same _ _ (λ i. heard_same w v same (suc i)) processes))
    (each_same _ _ (λ i. restore_same w v same (suc i)) processes)
