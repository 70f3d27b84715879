-- The bounds, from the invariants.
use Prim.Native.Nat.{ℕ}
use Rattle.model_protocol.specs.declared.World.{World}
use Rattle.model_protocol.specs.Step.{run}
use Rattle.model_protocol.specs.World.{fresh_world}
use Rattle.model_agreement.specs.Bounds.{InBounds, Says}
use Rattle.model_agreement.specs.Content.{Content}
use Rattle.model_agreement.specs.History.{history}
use Rattle.model_agreement.proofs.AllInvariants.{Good, good}
use Rattle.model_agreement.proofs.BallotInvariant.{said_at}
use Rattle.model_agreement.proofs.LogsAndProcesses.{fine_of, given_of}
use Rattle.model_agreement.proofs.SentMessages.{At, outbox_of}

at : {w : World} {j : ℕ} {x : Content} → Says w j x → At (outbox_of w) w.sent j x
at s = record { below = s.sent; is = s.content }

-- no index, count or ballot leaves its range
pub in_bounds : InBounds
in_bounds steps = record {
  acceptors = G.few;
  sent = G.shape.sent_most;
  in_range = λ s. G.range.sent (at s);
  slots = G.range.slots;
  cos = G.range.cos;
  queues = λ k. (G.shape.queues k).count;
  stores = λ s. (given_of (G.rest.sent (at s))).place;
  one_to_four = λ s. let f = fine_of (G.rest.sent (at s)) in (f.least, f.most);
  one_batch = λ s t. G.inv.core.one (said_at (at s)) (said_at (at t));
}
  where
    G : Good (run fresh_world steps) (history steps)
    G = good steps
