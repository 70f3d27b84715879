-- The places of a step that a world has.
use Rattle.std.specs.Prelude.{◌<◌}
use Rattle.log_entry.specs.Limits.{process_places}
use Rattle.model_steps.specs.Limits.{coordinators}
use Rattle.model_protocol.specs.declared.Places.{Places}
use Rattle.model_protocol.specs.Limits.{slot_places}

-- the coordinator, the slot and the process are there
abbrev pub There : Places → Type 0
There at = (at.coordinator < coordinators) × (at.slot < slot_places) × (at.process < process_places)
