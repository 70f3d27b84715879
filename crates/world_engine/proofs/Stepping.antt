-- What a step does to its parts, put back, is the step taken.
use mathlib.Core.Bool.{Bool, cond, false, true}
use mathlib.Core.Path.{◌≡◌, ap, refl}
use Rattle.std.proofs.Common.{is_ok}
use Rattle.log_entry.specs.Number.{Answer}
use Rattle.log_entry.specs.Refusal.{accepted}
use Rattle.log_core.specs.declared.Replay.{Replay}
use Rattle.model_steps.specs.declared.Step.{Step}
use Rattle.model_steps.specs.declared.Step.TheVariants.{Setup, Request, Open, Propose, Deliver, Tell, Restore, Follow, Crash, Back}
use Rattle.model_protocol.specs.declared.Change.{Change}
use Rattle.model_protocol.specs.Kind.{Kind}
use Rattle.model_protocol.specs.Kind as kind
use Rattle.model_protocol.specs.declared.Parts.{Parts}
use Rattle.model_protocol.specs.declared.Places.{Places}
use Rattle.model_protocol.specs.declared.Stepped.{Stepped}
use Rattle.model_protocol.specs.declared.World.{World}
use Rattle.model_protocol.specs.Acceptor.{accepts, promises}
use Rattle.model_protocol.specs.Change.{without_messages}
use Rattle.model_paxos.specs.Majority.{majority}
use Rattle.model_protocol.specs.Message.{said_acceptor, said_ballot, said_inst, said_kind, said_position, said_store, said_turn, said_tx}
use Rattle.model_protocol.specs.Coordinator.{counting, is_heard}
use Rattle.model_protocol.specs.Deliver.{delivery_change}
use Rattle.model_protocol.specs.Process.{takes_follow, takes_restore}
use Rattle.model_protocol.specs.Step.{answered, changed, change_of, message_in, parts_of, places_in, replay_in, step_of, step_refusal}
use Rattle.model_protocol.proofs.PutBack.{nothing_changed}
use Rattle.world_engine.specs.Changed.{change_in}

-- ---- what is not refused is accepted

either_accepted : (t : Bool) (x y : Change) → x.answer ≡ accepted → y.answer ≡ accepted → (cond t x y).answer ≡ accepted
either_accepted true x y hx hy = hx
either_accepted false x y hx hy = hy

delivery_change_accepted : (p : Parts) (k : Kind) → (delivery_change p k).answer ≡ accepted
unfolding delivery_change
delivery_change_accepted p kind.Request = refl
delivery_change_accepted p kind.Prepare = either_accepted (promises p.slot (said_ballot p.message)) _ _ refl refl
delivery_change_accepted p kind.Accept = either_accepted (accepts p.slot (said_ballot p.message)) _ _ refl refl
delivery_change_accepted p kind.Promise = either_accepted (is_heard p.coordinator (said_inst p.message) (said_ballot p.message) (said_acceptor p.message)) _ _ refl refl
delivery_change_accepted p kind.Accepted =
    either_accepted (is_heard p.coordinator (said_inst p.message) (said_ballot p.message) (said_acceptor p.message)) _ _
    (either_accepted (majority p.acceptors (counting p.coordinator.round (said_acceptor p.message)).acceptances) _ _ refl refl)
    refl
delivery_change_accepted p kind.Tell = refl
delivery_change_accepted p kind.Restore = either_accepted (takes_restore p.process (said_turn p.message) (said_position p.message)) _ _ refl refl
delivery_change_accepted p kind.Follow = either_accepted (takes_follow p.process (said_store p.message) (said_tx p.message)) _ _ refl refl

change_accepted : (p : Parts) (s : Step) → (change_of p s).answer ≡ accepted
unfolding change_of
change_accepted p (Setup n) = refl
change_accepted p (Request e to) = refl
change_accepted p (Open c i b) = refl
change_accepted p (Propose c i b) = refl
change_accepted p (Deliver m) = delivery_change_accepted p (said_kind p.message)
change_accepted p (Tell c process tx) = refl
change_accepted p (Restore c process) = refl
change_accepted p (Follow c process tx) = refl
change_accepted p (Crash role id) = refl
change_accepted p (Back process turn) = refl

-- ---- the step

-- the world after the change, and the answer; r is the replay of the message delivered
abbrev pub stored : World → Places → Replay → Change → Stepped
stored w at r ch = answered (changed w at r ch) ch.answer

module _ (w : World) (s : Step) where
  abbrev p : Parts
  p = parts_of w s

  abbrev at : Places
  at = places_in w s

  abbrev r : Replay
  r = replay_in w s

  unchanged : (a : Answer) → stored w at r (without_messages p a) ≡ answered w a
  unchanged a = ap (λ (v : World). answered v a) (nothing_changed w at (message_in w s) r a)

  by_refusal : (t : Bool)
      → stored w at r (cond t (change_of p s) (without_messages p (step_refusal p s)))
      ≡ cond t (answered (changed w at r (change_of p s)) accepted) (answered w (step_refusal p s))
  by_refusal true = ap (λ (a : Answer). answered (changed w at r (change_of p s)) a) (change_accepted p s)
  by_refusal false = unchanged (step_refusal p s)

  pub step_is : stored w at r (change_in s p) ≡ step_of w s
  unfolding change_in step_of
  step_is = by_refusal (is_ok (step_refusal p s))
