-- A step sends no more messages than there are numbers left, and at least the one with which a
-- replay goes.
use Prim.Native.Nat.{ℕ, ◌≤◌, ◌-◌}
use mathlib.Core.Bool.{Bool, cond, false, true, true≢false, not, ◌&&◌, ◌||◌}
use mathlib.Core.Path.{◌≡◌, refl, sym}
use native.Mathlib.Omega.{arith}
use borrow.Author.Tests.{ltb-false}
use lib.Dec.{leb}
use Rattle.std.proofs.Common.{is_ok}
use Rattle.log_entry.specs.Limits.{stores}
use Rattle.log_entry.specs.Refusal.{accepted, first_refusal, outside_limits}
use Rattle.log_entry.specs.Entry.{ill_formed, is_take}
use Rattle.log_entry.proofs.AnswerLaws.{err_ok, ok_accepted}
use Rattle.log_votes.specs.Outcome.{is_open}
use Rattle.model_steps.specs.declared.Role.TheVariants.{Coord, Proc}
use Rattle.model_steps.specs.declared.Step.{Step}
use Rattle.model_steps.specs.declared.Step.TheVariants.{Setup, Request, Open, Propose, Deliver, Tell, Restore, Follow, Crash, Back}
use Rattle.model_steps.specs.Limits.{messages, outside_step}
use Rattle.model_protocol.specs.Kind.{Kind}
use Rattle.model_protocol.specs.Kind as kind
use Rattle.model_protocol.specs.Acceptor.{accepts, promises}
use Rattle.model_paxos.specs.Majority.{majority}
use Rattle.model_protocol.specs.Message.{said_acceptor, said_ballot, said_inst, said_kind, said_outcome, said_position, said_store, said_turn, said_tx}
use Rattle.model_protocol.specs.Coordinator.{counting, is_heard}
use Rattle.model_protocol.specs.declared.Change.{Change}
use Rattle.model_protocol.specs.declared.Parts.{Parts}
use Rattle.model_protocol.specs.Change.{is_given}
use Rattle.model_protocol.specs.Deliver.{delivery_change, no_place_for, receiver_down}
use Rattle.model_protocol.specs.Process.{takes_follow, takes_restore}
use Rattle.model_protocol.specs.Send.{lacks_numbers}
use Rattle.model_protocol.specs.Step.{acceptors_counted, cannot_open, cannot_propose, change_of, not_set_up, other_turn, step_checks, step_refusal, voter_not_holder}
use Rattle.model_protocol.specs.World.{is_down}
use Rattle.world_parts.specs.Plan.{refusal_in}
use Rattle.world_parts.specs.Refusal.{first_of, tests}
use Rattle.world_engine.specs.Changed.{change_in}

first_roomy : (unsent down unmet full ill : Bool) → first_of (tests unsent down unmet full ill) ≡ accepted → full ≡ false
unfolding first_refusal
first_roomy unsent down unmet false ill h = refl
first_roomy true down unmet true ill h = absurd (err_ok h)
first_roomy false true unmet true ill h = absurd (err_ok h)
first_roomy false false true true ill h = absurd (err_ok h)
first_roomy false false false true ill h = absurd (err_ok h)

-- of two changes, neither of which sends too many
either_fits : (t : Bool) (x y : Change) (k : ℕ) → (t ≡ true → x.count ≤ k) → y.count ≤ k → (cond t x y).count ≤ k
either_fits true x y k hx hy = hx refl
either_fits false x y k hx hy = hy

-- an acceptor that answers has a number for it
answer_fits : (t : Bool) (sent : ℕ) → (t && lacks_numbers sent 1) ≡ false → t ≡ true → 1 ≤ messages - sent
answer_fits t sent room answers = ltb-false (messages - sent) 1 (rw answers at room)

delivery_change_fits : (p : Parts) (k : Kind) → no_place_for p k ≡ false → (delivery_change p k).count ≤ messages - p.sent
unfolding delivery_change
delivery_change_fits p kind.Request room = omega arith
delivery_change_fits p kind.Prepare room =
    either_fits (promises p.slot (said_ballot p.message)) _ _ (messages - p.sent) (answer_fits (promises p.slot (said_ballot p.message)) p.sent room) (omega arith)
delivery_change_fits p kind.Accept room =
    either_fits (accepts p.slot (said_ballot p.message)) _ _ (messages - p.sent) (answer_fits (accepts p.slot (said_ballot p.message)) p.sent room) (omega arith)
delivery_change_fits p kind.Promise room =
    either_fits (is_heard p.coordinator (said_inst p.message) (said_ballot p.message) (said_acceptor p.message)) _ _ (messages - p.sent) (λ _. omega arith) (omega arith)
delivery_change_fits p kind.Accepted room =
    either_fits (is_heard p.coordinator (said_inst p.message) (said_ballot p.message) (said_acceptor p.message)) _ _ (messages - p.sent)
    (λ _. either_fits (majority p.acceptors (counting p.coordinator.round (said_acceptor p.message)).acceptances) _ _ (messages - p.sent) (λ _. omega arith) (omega arith))
    (omega arith)
delivery_change_fits p kind.Tell room = omega arith
delivery_change_fits p kind.Restore room =
    either_fits (takes_restore p.process (said_turn p.message) (said_position p.message)) _ _ (messages - p.sent) (λ _. omega arith) (omega arith)
delivery_change_fits p kind.Follow room =
    either_fits (takes_follow p.process (said_store p.message) (said_tx p.message)) _ _ (messages - p.sent) (λ _. omega arith) (omega arith)

change_fits : (p : Parts) (s : Step) → refusal_in p s ≡ accepted → (change_of p s).count ≤ messages - p.sent
unfolding change_of step_checks first_refusal
change_fits p (Setup n) h = omega arith
change_fits p (Request e to) h =
    ltb-false (messages - p.sent) 1
    (first_roomy false (is_down p.down Proc e.process || is_down p.down Coord to) (not_set_up p || other_turn e p.process || voter_not_holder e p.process) (lacks_numbers p.sent 1) (not (is_take e) && ill_formed e) h)
change_fits p (Open c i b) h =
    ltb-false (messages - p.sent) p.acceptors
    (first_roomy false (is_down p.down Coord c) (not_set_up p || cannot_open p.coordinator c i b) (lacks_numbers p.sent p.acceptors) false h)
change_fits p (Propose c i b) h =
    ltb-false (messages - p.sent) p.acceptors
    (first_roomy false (is_down p.down Coord c) (not_set_up p || cannot_propose p.acceptors p.coordinator i b) (lacks_numbers p.sent p.acceptors) false h)
change_fits p (Deliver m) h =
    let k = (said_kind p.message) in
    delivery_change_fits p k (first_roomy (leb p.sent m) (receiver_down p.down p.message k) (not_set_up p) (no_place_for p k) false h)
change_fits p (Tell c process tx) h =
    ltb-false (messages - p.sent) 1
    (first_roomy false (is_down p.down Coord c || is_down p.down Proc process) (not_set_up p || is_open (said_outcome p.message)) (lacks_numbers p.sent 1) false h)
change_fits p (Restore c process) h =
    ltb-false (messages - p.sent) 1
    (first_roomy false (is_down p.down Coord c || is_down p.down Proc process) (not_set_up p || leb stores (said_store p.message)) (lacks_numbers p.sent 1) false h)
change_fits p (Follow c process tx) h =
    ltb-false (messages - p.sent) 1
    (first_roomy false (is_down p.down Coord c || is_down p.down Proc process) (not_set_up p || is_open (said_outcome p.message) || leb stores (said_store p.message)) (lacks_numbers p.sent 1) false h)
change_fits p (Crash role id) h = omega arith
change_fits p (Back process turn) h = omega arith

-- so does any step
within : (p : Parts) (s : Step) → step_refusal p s ≡ accepted → refusal_in p s ≡ accepted
unfolding step_refusal first_refusal
within p s = by (outside_step (acceptors_counted p.acceptors) s)
  where
    by : (t : Bool) → cond t outside_limits (refusal_in p s) ≡ accepted → refusal_in p s ≡ accepted
    by true h = absurd (err_ok h)
    by false h = h

pub step_fits : (s : Step) (p : Parts) → (change_in s p).count ≤ messages - p.sent
unfolding change_in
step_fits s p =
    either_fits (is_ok (step_refusal p s)) (change_of p s) _ (messages - p.sent) (λ h. change_fits p s (within p s (ok_accepted (step_refusal p s) h))) (omega arith)

-- ---- the message with which a replay goes is sent

abbrev pub Sends : Change → Type 0
Sends ch = is_given ch.beside ≡ true → 1 ≤ ch.count

either_sends : (t : Bool) (x y : Change) → Sends x → Sends y → Sends (cond t x y)
either_sends true x y hx hy = hx
either_sends false x y hx hy = hy

-- no replay goes with it
none : {A : Type 0} → false ≡ true → A
none h = absurd (true≢false (sym h))

delivery_sends : (p : Parts) (k : Kind) → Sends (delivery_change p k)
unfolding delivery_change
delivery_sends p kind.Request = none
delivery_sends p kind.Prepare = either_sends (promises p.slot (said_ballot p.message)) _ _ none none
delivery_sends p kind.Accept = either_sends (accepts p.slot (said_ballot p.message)) _ _ none none
delivery_sends p kind.Promise = either_sends (is_heard p.coordinator (said_inst p.message) (said_ballot p.message) (said_acceptor p.message)) _ _ none none
delivery_sends p kind.Accepted =
    either_sends (is_heard p.coordinator (said_inst p.message) (said_ballot p.message) (said_acceptor p.message)) _ _
    (either_sends (majority p.acceptors (counting p.coordinator.round (said_acceptor p.message)).acceptances) _ _ none none)
    none
delivery_sends p kind.Tell = none
delivery_sends p kind.Restore = either_sends (takes_restore p.process (said_turn p.message) (said_position p.message)) _ _ none none
delivery_sends p kind.Follow = either_sends (takes_follow p.process (said_store p.message) (said_tx p.message)) _ _ none none

change_sends : (p : Parts) (s : Step) → Sends (change_of p s)
unfolding change_of
change_sends p (Setup n) = none
change_sends p (Request e to) = none
change_sends p (Open c i b) = none
change_sends p (Propose c i b) = none
change_sends p (Deliver m) = delivery_sends p (said_kind p.message)
change_sends p (Tell c process tx) = none
change_sends p (Restore c process) = λ _. omega arith
change_sends p (Follow c process tx) = none
change_sends p (Crash role id) = none
change_sends p (Back process turn) = none

pub step_sends : (s : Step) (p : Parts) → Sends (change_in s p)
unfolding change_in
step_sends s p = either_sends (is_ok (step_refusal p s)) _ _ (change_sends p s) none
