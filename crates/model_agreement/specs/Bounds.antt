-- What else holds after every list of steps: no index, count or ballot leaves its range, a batch
-- that is proposed has 1 to 4 entries, and at most one is proposed under a ballot of an instance.
use Rattle.std.specs.Prelude.{ℕ, ◌^◌, ◌≤◌, ◌<◌, ◌≡◌, List, get_or}
use Rattle.log_entry.specs.Limits.{processes, stores, transactions}
use Rattle.model_steps.specs.declared.Step.{Step}
use Rattle.model_steps.specs.Limits.{ballots, coordinators, instances, messages, most_acceptors}
use Rattle.model_paxos.specs.Messages.{accept, accepted, prepare, promise}
use Rattle.model_protocol.specs.Batch.{Batch}
use Rattle.model_protocol.specs.declared.AcceptorSlot.{AcceptorSlot}
use Rattle.model_protocol.specs.declared.Coordinator.{Coordinator}
use Rattle.model_protocol.specs.declared.World.{World}
use Rattle.model_protocol.specs.Limits.{batch_entries, queue_places}
use Rattle.model_protocol.specs.Step.{run}
use Rattle.model_protocol.specs.World.{coordinator_of, empty_slot, fresh_world, message_of, replay_with}
use Rattle.model_agreement.specs.Content.{Content, content_of, follow, paxos, request, restore, tell}

-- instance, ballot and acceptor, where there are n acceptors
pub record BallotRange (n i b a : ℕ) : Type 0 where
  pub inst : i < instances
  pub positive : 0 < b
  pub ballot : b ≤ ballots
  pub acceptor : a < n

-- the numbers of a message
abbrev pub InRange : ℕ → Content → Type 0
InRange n (paxos (prepare i b a)) = BallotRange n i b a
InRange n (paxos (promise i b a d v)) = BallotRange n i b a × (d ≤ ballots)
InRange n (paxos (accept i b a v)) = BallotRange n i b a
InRange n (paxos (accepted i b a)) = BallotRange n i b a
InRange n (request k e) = k < coordinators
InRange n (tell p tx o) = (p ≤ processes) × (tx < transactions)
InRange n (restore p t s i r running) = (0 < p) × (p ≤ processes) × (i ≤ instances)
InRange n (follow p s tx o u) = (0 < p) × (p ≤ processes) × (tx < transactions) × (s < stores)

pub record CellRange (x : AcceptorSlot) : Type 0 where
  pub promised : x.promised ≤ ballots
  pub ballot : x.ballot ≤ ballots

pub record CoRange (n : ℕ) (c : Coordinator) : Type 0 where
  pub applied : c.applied ≤ instances
  -- a ballot is opened only in an instance
  pub room : 0 < c.round.ballot → c.applied < instances
  pub ballot : c.round.ballot ≤ ballots
  pub accepted : c.round.accepted ≤ ballots
  -- sets of acceptors
  pub promises : c.round.promises < 2 ^ n
  pub acceptances : c.round.acceptances < 2 ^ n

-- the message of number j was sent and says x
pub record Says (w : World) (j : ℕ) (x : Content) : Type 0 where
  pub sent : j < w.sent
  pub content : content_of (message_of w j) (replay_with w j) ≡ x

pub record Bounds (w : World) : Type 0 where
  pub acceptors : w.acceptors ≤ most_acceptors
  pub sent : w.sent ≤ messages
  pub in_range : {j : ℕ} {x : Content} → Says w j x → InRange w.acceptors x
  pub slots : (k : ℕ) → CellRange (get_or w.slots k empty_slot)
  pub cos : (k : ℕ) → CoRange w.acceptors (coordinator_of w k)
  pub queues : (k : ℕ) → (coordinator_of w k).queue.count ≤ queue_places
  pub stores : {j p t s i n : ℕ} {r : _} → Says w j (restore p t s i r n) → s < stores
  pub one_to_four : {j i b a : ℕ} {v : Batch} → Says w j (paxos (accept i b a v)) → (0 < v.count) × (v.count ≤ batch_entries)
  pub one_batch : {j k i b a c : ℕ} {v u : Batch} → Says w j (paxos (accept i b a v)) → Says w k (paxos (accept i b c u)) → v ≡ u

abbrev pub InBounds : Type 0
InBounds = (steps : List Step) → Bounds (run fresh_world steps)
