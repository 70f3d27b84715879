-- Document 01, "Coordinators".
use Rattle.std.specs.Prelude.{ℕ, ◌+◌, min, Bool, ◌&&◌, cond, Some, is_some, eqb, ltb}
use Rattle.std.specs.Option.{unwrap_or}
use Rattle.log_entry.specs.Bits.{with}
use Rattle.model_steps.specs.Limits.{instances, most_acceptors}
use Rattle.model_protocol.specs.declared.Coordinator.{Coordinator}
use Rattle.model_protocol.specs.declared.Round.{Round}
use Rattle.model_protocol.specs.Batch.{Batch, no_batch}
use Rattle.model_protocol.specs.Queue.{Queue, first_batch, left_by}
use Rattle.model_protocol.specs.World.{new_round}

-- ---- the coordinator with one part changed

abbrev pub with_queue : Coordinator → Queue → Coordinator
with_queue c q = record { applied = c.applied; queue = q; round = c.round }

abbrev pub with_round : Coordinator → Round → Coordinator
with_round c r = record { applied = c.applied; queue = c.queue; round = r }

-- ---- promises

-- "Promises and acceptances for another instance, or for a ballot other than the one opened last,
-- are passed over"
abbrev pub is_current : Coordinator → ℕ → ℕ → Bool
is_current c i b = eqb i c.applied && eqb b c.round.ballot

-- so is one from a number beyond the acceptors', which no step sends
abbrev pub is_heard : Coordinator → ℕ → ℕ → ℕ → Bool
is_heard c i b a = is_current c i b && ltb a most_acceptors

-- a promise of a is heard, and this is the highest accepted pair among the promises
abbrev pub hearing : Round → ℕ → ℕ → Batch → Round
hearing r a accepted batch = record {
  ballot = r.ballot;
  promises = with r.promises a;
  accepted = accepted;
  batch = batch;
  proposal = r.proposal;
  acceptances = r.acceptances;
}

-- the promise of a, with its accepted pair, is heard
unfoldable pub promise_heard : Round → ℕ → ℕ → Batch → Round
promise_heard r a accepted batch = cond (ltb r.accepted accepted) (hearing r a accepted batch) (hearing r a r.accepted r.batch)

-- ---- proposals

-- "proposed already"
abbrev pub is_proposed : Round → Bool
is_proposed r = is_some r.proposal

-- the batch proposed; one without entries if none was
abbrev pub proposal_of : Round → Batch
proposal_of r = unwrap_or r.proposal no_batch

-- "The batch is the accepted one of highest ballot among the promises; if none, the first up to
-- four queue entries."
unfoldable pub batch_to_propose : Coordinator → Batch
batch_to_propose c = cond (eqb c.round.accepted 0) (first_batch c.queue) c.round.batch

abbrev pub proposing : Round → Batch → Round
proposing r v = record {
  ballot = r.ballot;
  promises = r.promises;
  accepted = r.accepted;
  batch = r.batch;
  proposal = Some v;
  acceptances = r.acceptances;
}

-- ---- acceptances

abbrev pub counting : Round → ℕ → Round
counting r a = record {
  ballot = r.ballot;
  promises = r.promises;
  accepted = r.accepted;
  batch = r.batch;
  proposal = r.proposal;
  acceptances = with r.acceptances a;
}

-- "When a majority accepted, the batch is applied": one instance more; the batch is for its log.
-- "Queue entries equal to an entry of the learned batch leave". In every reachable world there are
-- fewer than 16 here, so the cap never applies.
unfoldable pub learning : Coordinator → Coordinator
learning c = record {
  applied = min (c.applied + 1) instances;
  queue = left_by c.queue (proposal_of c.round);
  round = new_round 0;
}
