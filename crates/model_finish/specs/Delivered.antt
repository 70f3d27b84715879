-- "open, deliver m prepares, then their promises, propose, deliver m accepts, then their
-- acceptances, each by acceptor": what the history has of the list, and which batch it is about. A
-- propose is no event of the history. It shows by its accepts.
use Rattle.std.specs.Prelude.{ℕ, suc, ◌≤◌, ◌<◌, List, ◌∷◌, ◌≡◌}
use Rattle.model_paxos.specs.Messages.{accept, accepted, prepare, promise}
use Rattle.model_protocol.specs.declared.AcceptorSlot.{AcceptorSlot}
use Rattle.model_protocol.specs.Batch.{Batch}
use Rattle.model_protocol.specs.declared.World.{World}
use Rattle.model_protocol.specs.Queue.{first_batch}
use Rattle.model_protocol.specs.World.{coordinator_of, slot_of}
use Rattle.model_agreement.specs.Content.{Content, paxos}
use Rattle.model_agreement.specs.History.{Event, delivered, opened}
use Rattle.model_finish.specs.Closing.{accept_number, accepted_number, answering, prepare_number, promise_number}
use Rattle.model_finish.specs.Such.{current_of, up_acceptor}

-- k messages were delivered, by their numbers and by what they say; the last one stands first
abbrev pub delivered_after : List Event → (ℕ → ℕ) → (ℕ → Content) → ℕ → List Event
delivered_after h number says ℕ.zero = h
delivered_after h number says (suc k) = delivered (number k) (says k) ∷ delivered_after h number says k

-- what the acceptor that answers as number k holds of coordinator c's current instance
abbrev pub held_by : World → ℕ → ℕ → AcceptorSlot
held_by w c k = slot_of w (up_acceptor w k) (current_of w c)

-- What the messages of the list say, where coordinator c closes its current instance under ballot
-- b. Each run goes by acceptor, and a promise is "with its accepted pair"
module _ (w : World) (c b : ℕ) where
  abbrev pub prepare_says : ℕ → Content
  prepare_says k = paxos (prepare (current_of w c) b (up_acceptor w k))

  abbrev pub promise_says : ℕ → Content
  promise_says k = paxos (promise (current_of w c) b (up_acceptor w k) (held_by w c k).ballot (held_by w c k).batch)

  abbrev pub accept_says : Batch → ℕ → Content
  accept_says v k = paxos (accept (current_of w c) b (up_acceptor w k) v)

  abbrev pub accepted_says : ℕ → Content
  accepted_says k = paxos (accepted (current_of w c) b (up_acceptor w k))

  -- the history after each of the four runs, where h is the one before the list and v is proposed
  abbrev pub after_prepares : List Event → List Event
  after_prepares h = delivered_after (opened c (current_of w c) b ∷ h) (prepare_number w) prepare_says (answering w)

  abbrev pub after_promises : List Event → List Event
  after_promises h = delivered_after (after_prepares h) (promise_number w) promise_says (answering w)

  abbrev pub after_accepts : Batch → List Event → List Event
  after_accepts v h = delivered_after (after_promises h) (accept_number w) (accept_says v) (answering w)

  abbrev pub after_acceptances : Batch → List Event → List Event
  after_acceptances v h = delivered_after (after_accepts v h) (accepted_number w) accepted_says (answering w)

-- "The batch is the accepted one of highest ballot among the promises; if none, the first up to
-- four queue entries."
pub data Proposed (w : World) (c : ℕ) : Batch → Type 0 where
  adopted : (k : ℕ) → k < answering w → 0 < (held_by w c k).ballot
      → ((j : ℕ) → j < answering w → (held_by w c j).ballot ≤ (held_by w c k).ballot)
      → Proposed w c (held_by w c k).batch
  own : ((j : ℕ) → j < answering w → (held_by w c j).ballot ≡ 0) → Proposed w c (first_batch (coordinator_of w c).queue)
