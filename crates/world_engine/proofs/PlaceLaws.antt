-- Where the parts of a step stand: the world has every place of it.
use Prim.Native.Nat.{ℕ, ◌<◌, ◌+◌, ◌*◌, ◌%◌}
use mathlib.Core.Bool.{false, true≢false}
use mathlib.Core.Path.{◌≡◌, ap, refl, ◌∙◌}
use native.Mathlib.Nat.{mod-lt}
use native.Mathlib.Omega.{arith}
use lib.ListN.{get_or, length}
use Rattle.log_entry.specs.Limits.{process_places}
use Rattle.log_votes.proofs.InList.{in_list}
use Rattle.log_core.specs.declared.Log.{Log}
use Rattle.model_steps.specs.declared.Step.{Step}
use Rattle.model_steps.specs.declared.Step.TheVariants.{Setup, Request, Open, Propose, Deliver, Tell, Restore, Follow, Crash, Back}
use Rattle.model_steps.specs.Limits.{coordinators, instances, messages}
use Rattle.model_protocol.specs.declared.Message.{Message}
use Rattle.model_protocol.specs.declared.Places.{Places}
use Rattle.model_protocol.specs.declared.World.{World}
use Rattle.model_owners.proofs.Owners.{owner_is_coordinator}
use Rattle.model_protocol.specs.Kind.{Kind}
use Rattle.model_protocol.specs.Kind as kind
use Rattle.model_protocol.specs.Limits.{slot_places}
use Rattle.model_protocol.specs.Message.{no_message, said_acceptor, said_ballot, said_inst, said_kind, said_to}
use Rattle.model_protocol.specs.Places.{delivery_places, message_at, only_owner, places_of}
use Rattle.model_protocol.specs.Step.{message_for}
use Rattle.model_protocol.specs.World.{message_of}
use Rattle.world_parts.specs.Asks.{asks_log}
use Rattle.world_engine.specs.There.{There}

pub message_inside : (s : Step) → message_at s < messages
message_inside (Setup n) = omega arith
message_inside (Request e to) = omega arith
message_inside (Open c i b) = omega arith
message_inside (Propose c i b) = omega arith
message_inside (Deliver m) = mod-lt m (omega arith)
message_inside (Tell c p tx) = omega arith
message_inside (Restore c p) = omega arith
message_inside (Follow c p tx) = omega arith
message_inside (Crash role id) = omega arith
message_inside (Back p t) = omega arith

there : (c x h : ℕ) → There (record { coordinator = c % coordinators; slot = x % slot_places; process = h % process_places })
there c x h = (mod-lt c (omega arith), mod-lt x (omega arith), mod-lt h (omega arith))

owner_there : (b : ℕ) → There (only_owner b)
owner_there b = (owner_is_coordinator b, omega arith, omega arith)

delivery_there : (m : Message) (k : Kind) → There (delivery_places m k)
delivery_there m kind.Request = there (said_to m) 0 0
delivery_there m kind.Prepare = there 0 ((said_acceptor m) * instances + (said_inst m)) 0
delivery_there m kind.Accept = there 0 ((said_acceptor m) * instances + (said_inst m)) 0
delivery_there m kind.Promise = owner_there (said_ballot m)
delivery_there m kind.Accepted = owner_there (said_ballot m)
delivery_there m kind.Tell = there 0 0 (said_to m)
delivery_there m kind.Restore = there 0 0 (said_to m)
delivery_there m kind.Follow = there 0 0 (said_to m)

pub step_there : (s : Step) (m : Message) → There (places_of s m)
unfolding places_of
step_there (Setup n) m = there 0 0 0
step_there (Request e to) m = there 0 0 e.process
step_there (Open c i b) m = there c 0 0
step_there (Propose c i b) m = there c 0 0
step_there (Deliver k) m = delivery_there m (said_kind m)
step_there (Tell c p tx) m = there c 0 0
step_there (Restore c p) m = there c 0 0
step_there (Follow c p tx) m = there c 0 0
step_there (Crash role id) m = there 0 0 0
step_there (Back p t) m = there 0 0 p

pub places_there : (at : Places) (s : Step) (m : Message) → at ≡ places_of s m → There at
places_there at s m e = rw e (step_there s m)

-- a step that asks no log is about the message delivered
pub not_asked : (s : Step) (d : Message) (l : Log) (n : ℕ) → asks_log s ≡ false → d ≡ message_for s d l n
unfolding message_for
not_asked (Setup k) d l n h = refl
not_asked (Request e to) d l n h = refl
not_asked (Open c i b) d l n h = refl
not_asked (Propose c i b) d l n h = refl
not_asked (Deliver m) d l n h = refl
not_asked (Tell c p tx) d l n h = absurd (true≢false h)
not_asked (Restore c p) d l n h = absurd (true≢false h)
not_asked (Follow c p tx) d l n h = absurd (true≢false h)
not_asked (Crash role id) d l n h = refl
not_asked (Back p t) d l n h = refl

pub message_small : (n : ℕ) (s : Step) → n ≡ message_at s → n < messages
message_small n s e = let h = message_inside s in omega (arith, e, h)

-- the message delivered is there, so it is the same whatever d stands behind the last
module _ (w : World) (s : Step) (from : ℕ) (d : Message) (here : from < length w.messages) where
  pub message_there : get_or w.messages from d ≡ message_of w from
  message_there = in_list w.messages from d no_message here

  pub places_of_it : {at : Places} → at ≡ places_of s (get_or w.messages from d) → at ≡ places_of s (message_of w from)
  places_of_it is = is ∙ ap (places_of s) message_there

  pub message_for_it : (l : Log) (n : ℕ) {m : Message} → m ≡ message_for s (get_or w.messages from d) l n → m ≡ message_for s (message_of w from) l n
  message_for_it l n is = is ∙ ap (λ (x : Message). message_for s x l n) message_there
