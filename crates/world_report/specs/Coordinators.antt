-- "per coordinator `coord=0 applied=0` and its log in that form"
use Rattle.std.specs.Prelude.{ℕ, List, ◌++◌, get_or}
use Rattle.text_ascii.specs.Bytes.{ascii}
use Rattle.log_core.specs.declared.Log.{Log}
use Rattle.log_core.specs.Log.{empty_log}
use Rattle.model_steps.specs.Limits.{coordinators}
use Rattle.model_protocol.specs.declared.Coordinator.{Coordinator}
use Rattle.model_protocol.specs.World.{fresh_coordinator}
use Rattle.text_report.specs.Report.{each, end, field, log_text}

abbrev pub coordinator_line : ℕ → ℕ → List ℕ
coordinator_line coord applied = field (ascii "coord=") coord ++ field (ascii " applied=") applied ++ end

abbrev pub coordinator_text : ℕ → Coordinator → Log → List ℕ
coordinator_text coord c log = coordinator_line coord c.applied ++ log_text log

-- the coordinators, by number
abbrev pub coordinators_text : List Coordinator → List Log → List ℕ
coordinators_text cs logs = each (λ k. coordinator_text k (get_or cs k fresh_coordinator) (get_or logs k empty_log)) coordinators
