-- When a process has its lines.
use Prim.Native.Nat.{ℕ, suc, ◌-◌, ◌<◌, ◌≤◌}
use mathlib.Core.List.{List, ◌++◌}
use mathlib.Core.Path.{◌≡◌, ◌∙◌}
use borrow.Author.Tests.{ne_eqb}
use lib.ListN.{get_or, length}
use Rattle.std.proofs.lemmas.List.{get_or_default}
use Rattle.log_core.specs.declared.Replay.{Replay}
use Rattle.model_protocol.specs.declared.Follows.{Follows}
use Rattle.model_protocol.specs.declared.Process.{Process}
use Rattle.log_core.specs.Replay.{no_replay}
use Rattle.model_protocol.specs.World.{fresh_process, no_follows}
use Rattle.text_report.specs.Report.{replay_text, rows_of}
use Rattle.world_report.proofs.Elements.{element_from_1}
use Rattle.world_report.specs.Processes.{follows_text, restore_line, restore_text, running_text}

module _ (proc : ℕ) (p : Process) (replay : Replay) (follows : Follows) where
  pub one_taken : (p.position ≡ 0 → ⊥)
      → restore_line proc p.store p.position ++ replay_text p.store (rows_of replay) ++ running_text p.running ++ follows_text p.followed follows ≡ restore_text proc p replay follows
  one_taken h = rw (ne_eqb p.position 0 h)

-- a process, its replay and its follows, which are numbered from 1
pub restore_from_1 : (ps : List Process) (replays : List Replay) (follows : List Follows) (i : ℕ) (d : Process) (e : Replay) (f : Follows)
    → 1 ≤ i → i < length ps → i < length replays → i < length follows
    → restore_text i (get_or ps i d) (get_or replays i e) (get_or follows i f)
    ≡ restore_text (suc (i - 1)) (get_or ps (suc (i - 1)) fresh_process) (get_or replays (suc (i - 1)) no_replay) (get_or follows (suc (i - 1)) no_follows)
restore_from_1 ps replays follows i d e f g h k m =
    (λ n. restore_text i (get_or ps i d) (get_or_default replays i e no_replay k n) (get_or_default follows i f no_follows m n))
    ∙ element_from_1 (λ proc p. restore_text proc p (get_or replays proc no_replay) (get_or follows proc no_follows)) ps i d fresh_process g h
