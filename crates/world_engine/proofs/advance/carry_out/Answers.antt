use Rattle.std.proofs.Common.{◌≡◌, ◌∙◌, ap, arith, sym}
use Rattle.model_protocol.specs.declared.Parts.{Parts}
use Rattle.model_protocol.specs.declared.Stepped.{Stepped}
use Rattle.model_protocol.specs.declared.World.{World}
use Rattle.model_protocol.specs.Step.{answered, step_of}
use Rattle.world_engine.specs.Commands.{carried_out}
use Rattle.world_engine.proofs.CommandLaws.{step_taken, count_fits, number_left}
use Rattle.world_engine.proofs.PlaceLaws.{message_for_it, message_small, places_of_it, places_there}
use Rattle.world_engine.proofs.advance.carry_out.Goals as goal

-- the world has the places of the step

pub message_of-message-requires : goal.message_of-message-requires
message_of-message-requires c = places_there _ _ _ c.places-at.ensures

pub take_parts-requires : goal.take_parts-requires
take_parts-requires c = places_there _ _ _ c.places-at.ensures

pub put_back-requires-clause-there : goal.put_back-requires-clause-there
put_back-requires-clause-there c = places_there _ _ _ c.places-at.ensures

-- there are numbers for its messages

pub put_back-requires-clause-room : goal.put_back-requires-clause-room
put_back-requires-clause-room c = λ given.
    let sent = ap (λ (p : Parts). p.sent) c.take_parts.ensures in
    let left = number_left _ _ _ c.change.ensures given in
    omega (arith, sent, left)

pub send-requires : goal.send-requires
send-requires c =
    let sent = ap (λ (p : Parts). p.sent) c.take_parts.ensures in
    let put = ap (λ (v : World). v.sent) c.put_back.ensures in
    let fits = count_fits _ _ _ c.change.ensures in
    omega (arith, sent, put, fits)

pub returns : goal.returns
returns c =
    let from = c.from-from.ensures ∙ c.message_at.ensures in
    let small = message_small c.from-from.result c.in_ok-s.s from in
    let at = places_of_it c.args.w.now c.in_ok-s.s c.from-from.result _ (omega (arith, small)) c.places-at.ensures in
    let message = message_for_it c.args.w.now c.in_ok-s.s c.from-from.result _ (omega (arith, small)) _ _ c.message_of-message.ensures in
    let taken : answered c.send.new.w c.change.new.change.answer ≡ step_of c.args.w.now c.in_ok-s.s =
    step_taken c.args.w.now c.in_ok-s.s _ _ _ _ _ _ _ from at message c.take_parts.ensures c.change.ensures c.put_back.ensures c.send.ensures in
    let carried = taken ∙ sym (ap (carried_out c.args.w.now) c.in_ok-s.was) in
    record { world = ap (λ (s : Stepped). s.world) carried; answer = ap (λ (s : Stepped). s.answer) carried }
