-- A step refused or done, its numbers being within their limits.
use Rattle.std.specs.Prelude.{cond, is_ok}
use Rattle.log_entry.specs.Number.{Answer}
use Rattle.log_entry.specs.Refusal.{first_refusal}
use Rattle.model_steps.specs.declared.Step.{Step}
use Rattle.model_protocol.specs.declared.Change.{Change}
use Rattle.model_protocol.specs.declared.Parts.{Parts}
use Rattle.model_protocol.specs.Change.{without_messages}
use Rattle.model_protocol.specs.Step.{change_of, step_checks}

-- a refused step changes nothing
abbrev pub decided : Parts → Answer → Change → Change
decided p refusal change = cond (is_ok refusal) change (without_messages p refusal)

abbrev pub refusal_in : Parts → Step → Answer
refusal_in p s = first_refusal (step_checks p s)

unfoldable pub plan_of : Parts → Step → Change
plan_of p s = decided p (refusal_in p s) (change_of p s)
