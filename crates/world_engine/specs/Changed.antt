-- What a step does to the parts of the world that it touches, whatever its numbers.
use Rattle.model_steps.specs.declared.Step.{Step}
use Rattle.model_protocol.specs.declared.Change.{Change}
use Rattle.model_protocol.specs.declared.Parts.{Parts}
use Rattle.model_protocol.specs.Step.{change_of, step_refusal}
use Rattle.world_parts.specs.Plan.{decided}

-- it is refused or done
unfoldable pub change_in : Step → Parts → Change
change_in s p = decided p (step_refusal p s) (change_of p s)
