-- Where in the world the parts of a step stand. A number beyond the places wraps, so that every
-- step of every world has its places: a step with such a number is refused 2, and no message has
-- one (`InBounds` of model_agreement).
use Rattle.std.specs.Prelude.{ℕ, ◌+◌, ◌*◌, ◌%◌}
use Rattle.log_entry.specs.Limits.{process_places}
use Rattle.model_steps.specs.declared.Step.{Step}
use Rattle.model_steps.specs.declared.Step.TheVariants.{Setup, Request, Open, Propose, Deliver, Tell, Restore, Follow, Crash, Back}
use Rattle.model_steps.specs.Limits.{coordinators, instances, messages}
use Rattle.model_owners.specs.Owners.{owner}
use Rattle.model_protocol.specs.Kind.{Kind}
use Rattle.model_protocol.specs.Kind as kind
use Rattle.model_protocol.specs.declared.Message.{Message}
use Rattle.model_protocol.specs.Limits.{slot_places}
use Rattle.model_protocol.specs.Message.{said_acceptor, said_ballot, said_inst, said_kind, said_to}
use Rattle.model_protocol.specs.declared.Places.{Places}

-- the message that the step delivers; message 0 if it delivers none
abbrev pub message_at : Step → ℕ
message_at (Setup n) = 0
message_at (Request e to) = 0
message_at (Open c i b) = 0
message_at (Propose c i b) = 0
message_at (Deliver m) = m % messages
message_at (Tell c p tx) = 0
message_at (Restore c p) = 0
message_at (Follow c p tx) = 0
message_at (Crash role id) = 0
message_at (Back p t) = 0

abbrev pub only_coordinator : ℕ → Places
only_coordinator k = record { coordinator = k % coordinators; slot = 0; process = 0 }

-- the owner of a ballot is a coordinator, so its number needs no wrapping
abbrev pub only_owner : ℕ → Places
only_owner b = record { coordinator = owner b; slot = 0; process = 0 }

abbrev pub only_slot : ℕ → ℕ → Places
only_slot a i = record { coordinator = 0; slot = (a * instances + i) % slot_places; process = 0 }

abbrev pub only_process : ℕ → Places
only_process k = record { coordinator = 0; slot = 0; process = k % process_places }

-- where the receiver of the message stands
abbrev pub delivery_places : Message → Kind → Places
delivery_places m kind.Request = only_coordinator (said_to m)
delivery_places m kind.Prepare = only_slot (said_acceptor m) (said_inst m)
delivery_places m kind.Accept = only_slot (said_acceptor m) (said_inst m)
delivery_places m kind.Promise = only_owner (said_ballot m)
delivery_places m kind.Accepted = only_owner (said_ballot m)
delivery_places m kind.Tell = only_process (said_to m)
delivery_places m kind.Restore = only_process (said_to m)
delivery_places m kind.Follow = only_process (said_to m)

-- the places of a step; m is the message that it delivers
unfoldable pub places_of : Step → Message → Places
places_of (Setup n) m = only_coordinator 0
places_of (Request e to) m = only_process e.process
places_of (Open c i b) m = only_coordinator c
places_of (Propose c i b) m = only_coordinator c
places_of (Deliver k) m = delivery_places m (said_kind m)
places_of (Tell c p tx) m = only_coordinator c
places_of (Restore c p) m = only_coordinator c
places_of (Follow c p tx) m = only_coordinator c
places_of (Crash role id) m = only_coordinator 0
places_of (Back p t) m = only_process p
