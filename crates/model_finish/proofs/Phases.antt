-- What holds while the list runs: after the prepares, the promises, the accepts and the acceptances
-- so far.
use Prim.Native.Nat.{ℕ, suc, ◌+◌, ◌*◌, ◌≤◌, ◌<◌}
use native.Mathlib.Decide.{ℕ_discrete, dec_lt}
use native.Mathlib.Omega.{arith}
use mathlib.Core.Bool.{Bool, true, false}
use mathlib.Core.List.{List, ◌∷◌, ◌++◌}
use mathlib.Core.Logic.{◌≢◌}
use mathlib.Core.Path.{◌≡◌, ap, refl, subst, sym, ◌∙◌}
use lib.ListN.{length}
use lib.Seq.{get_or-set_other, get_or-set_same}
use Rattle.log_entry.specs.Bits.{with}
use Rattle.log_entry.specs.Refusal.{accepted}
use Rattle.model_steps.specs.declared.Role.TheVariants.{Acceptor, Coord}
use Rattle.model_steps.specs.declared.Step.{Step}
use Rattle.model_steps.specs.declared.Step.TheVariants.{Deliver, Open, Propose}
use Rattle.model_steps.specs.Limits.{instances, messages, most_acceptors}
use Rattle.model_owners.specs.Owners.{owner}
use Rattle.model_paxos.specs.Majority.{majority}
use Rattle.model_protocol.specs.declared.AcceptorSlot.{AcceptorSlot}
use Rattle.model_protocol.specs.Batch.{Batch}
use Rattle.model_protocol.specs.declared.Coordinator.{Coordinator}
use Rattle.model_protocol.specs.declared.Down.{Down}
use Rattle.model_protocol.specs.declared.Message.{Message}
use Rattle.model_protocol.specs.Queue.{Queue}
use Rattle.model_protocol.specs.declared.Round.{Round}
use Rattle.model_protocol.specs.declared.World.{World}
use Rattle.model_protocol.specs.Acceptor.{accepting, promising}
use Rattle.model_protocol.specs.Coordinator.{batch_to_propose, counting, is_proposed, learning, promise_heard, proposal_of, proposing, with_round}
use Rattle.model_protocol.specs.Message.{accept_to, accepted_from, no_message, prepare_to, promise_from}
use Rattle.model_protocol.specs.Step.{answered}
use Rattle.model_protocol.specs.World.{coordinator_of, empty_slot, fresh_coordinator, is_down, message_of, new_round, replay_with, slot_of, with_message}
use Rattle.model_agreement.specs.Content.{content_of}
use Rattle.model_agreement.specs.History.{Accepts, Event, NoneAbove, delivered, first, later, note, opened}
use Rattle.model_agreement.proofs.AllInvariants.{Good}
use Rattle.model_agreement.proofs.ChangedWorld.{with_coordinator, with_learned, with_slot}
use Rattle.model_agreement.proofs.SentMessages.{filled, outbox_of, posted, send_posts}
use Rattle.model_agreement.proofs.Shape.{owner_in}
use Rattle.model_finish.specs.Claims.{LowestUp, OnlyAt}
use Rattle.model_finish.specs.Closing.{accept_number, accepted_number, closing, deliveries, prepare_number, promise_number}
use Rattle.model_finish.specs.Delivered.{Proposed, accept_says, accepted_says, after_accepts, after_prepares, after_promises, delivered_after, held_by, prepare_says, promise_says}
use Rattle.model_finish.specs.Such.{OwnBallot, Such, current_of, quorum, up_acceptor}
use Rattle.model_finish.proofs.AcceptedSteps.{InRange, accept_goes, accepted_counts, accepted_learns, open_goes, prepare_goes, promise_goes, propose_goes}
use Rattle.model_finish.proofs.Counting.{Counted, enough, none_yet, one_more, too_few}
use Rattle.model_finish.proofs.OnlyThere.{only_coordinator_lem, only_learned, only_sends, only_slot_lem, only_then}
use Rattle.model_finish.proofs.Proposal.{HighestHeld, by_rule}
use Rattle.model_finish.proofs.Rounds.{AfterPromise, after_promise, highest_none, highest_on, learning_applies}
use Rattle.model_finish.proofs.Running.{Ends, Goes, Holding, ends_append, ends_as, ends_deliveries, goes_to}
use Rattle.model_finish.proofs.SuchLaws.{few, live}
use Rattle.model_finish.proofs.Sending.{filled_new}

-- The list for a ballot b, run from the world w₀ with the history h₀: its coordinator is the owner
-- of b.
module _ (w₀ : World) (h₀ : List Event) (b : ℕ) where
  abbrev c : ℕ
  c = owner b

  abbrev i : ℕ
  i = current_of w₀ c

  abbrev n : ℕ
  n = w₀.acceptors

  abbrev m : ℕ
  m = quorum n

  abbrev s : ℕ
  s = w₀.sent

  -- the acceptor that answers as number k
  abbrev u : ℕ → ℕ
  u k = up_acceptor w₀ k

  -- what stays while the list runs
  pub record Frame (w : World) (h : List Event) : Type 0 where
    pub good : Good w h
    pub only : OnlyAt c i w₀ w

  -- what the acceptor that answers as number k held before
  abbrev held : ℕ → AcceptorSlot
  held k = held_by w₀ c k

  -- the round has the highest accepted pair of the first k promises
  abbrev HighestOf : ℕ → Round → Type 0
  HighestOf k r = HighestHeld w₀ c k r

  -- the promise of the acceptor that answers as number k
  abbrev promise_of : ℕ → Message
  promise_of k = promise_from i b (u k) (held k).ballot (held k).batch

  -- the coordinator is at its ballot
  pub record AtBallot (x : Coordinator) : Type 0 where
    pub applied : x.applied ≡ i
    pub ballot : x.round.ballot ≡ b

  -- k acceptors have promised
  pub record Prepared (k : ℕ) (w : World) (h : List Event) : Type 0 where
    pub frame : Frame w h
    pub told : h ≡ delivered_after (opened c i b ∷ h₀) (prepare_number w₀) (prepare_says w₀ c b) k
    pub sent : w.sent ≡ s + n + k
    pub coordinator : coordinator_of w c ≡ with_round (coordinator_of w₀ c) (new_round b)
    pub prepares : (a : ℕ) → a < n → message_of w (s + a) ≡ prepare_to i b a
    pub promises : (j : ℕ) → j < k → message_of w (s + n + j) ≡ promise_of j
    pub open_slots : (j : ℕ) → k ≤ j → j < m → slot_of w (u j) i ≡ held j
    pub held_slots : (j : ℕ) → j < k → (slot_of w (u j) i).promised ≡ b

  -- k promises were heard
  pub record Heard (k : ℕ) (w : World) (h : List Event) : Type 0 where
    pub frame : Frame w h
    pub told : h ≡ delivered_after (after_prepares w₀ c b h₀) (promise_number w₀) (promise_says w₀ c b) k
    pub sent : w.sent ≡ s + n + m
    pub at_ballot : AtBallot (coordinator_of w c)
    pub queue : (coordinator_of w c).queue ≡ (coordinator_of w₀ c).queue
    pub highest : HighestOf k (coordinator_of w c).round
    pub not_proposed : is_proposed (coordinator_of w c).round ≡ false
    pub none_counted : (coordinator_of w c).round.acceptances ≡ 0
    pub counted : Counted u n (coordinator_of w c).round.promises k
    pub promises : (j : ℕ) → j < m → message_of w (s + n + j) ≡ promise_of j
    pub held_slots : (j : ℕ) → j < m → (slot_of w (u j) i).promised ≡ b

  -- k acceptors have accepted the batch v
  pub record Voted (v : Batch) (k : ℕ) (w : World) (h : List Event) : Type 0 where
    pub frame : Frame w h
    pub told : h ≡ delivered_after (after_promises w₀ c b h₀) (accept_number w₀) (accept_says w₀ c b v) k
    pub sent : w.sent ≡ s + n + m + n + k
    pub at_ballot : AtBallot (coordinator_of w c)
    pub none_counted : (coordinator_of w c).round.acceptances ≡ 0
    pub accepts : (a : ℕ) → a < n → message_of w (s + n + m + a) ≡ accept_to i b v a
    pub acceptances : (j : ℕ) → j < k → message_of w (s + n + m + n + j) ≡ accepted_from i b (u j)
    pub held_slots : (j : ℕ) → j < m → (slot_of w (u j) i).promised ≡ b
    pub voted : (j : ℕ) → j < k → Accepts i b (u j) v h

  -- k acceptances were heard: with the last one the instance is applied
  pub record Learning (v : Batch) (k : ℕ) (w : World) (h : List Event) : Type 0 where
    pub frame : Frame w h
    pub told : h ≡ delivered_after (after_accepts w₀ c b v h₀) (accepted_number w₀) (accepted_says w₀ c b) k
    pub sent : w.sent ≡ s + n + m + n + m
    pub acceptances : (j : ℕ) → j < m → message_of w (s + n + m + n + j) ≡ accepted_from i b (u j)
    pub voted : (j : ℕ) → j < m → Accepts i b (u j) v h
    pub before : k < m → AtBallot (coordinator_of w c) × Counted u n (coordinator_of w c).round.acceptances k
    pub after : k ≡ m → ((coordinator_of w c).applied ≡ i + 1) × ((q : ℕ) × Counted u n q m)

  -- the list was run, and it proposed the batch
  pub record Closed (w : World) (h : List Event) : Type 0 where
    pub batch : Batch
    pub by_rule : Proposed w₀ c batch
    pub learned : Learning batch m w h

  module _ (such : Such w₀ c) (ballot : OwnBallot w₀ c b) (asked : LowestUp w₀) (good₀ : Good w₀ h₀) where
    in_range : InRange c i b
    in_range = record { coordinator = such.coordinator; instance = such.current; positive = ballot.positive; ballot = ballot.within }

    is_acceptor : (k : ℕ) → k < m → u k < most_acceptors
    is_acceptor k h = omega (arith, asked.is_acceptor k h, few such)

    numbers : s + n + m + n + m ≤ messages
    numbers = omega (arith, such.numbers)

    -- ---- the parts of the world and of the history that change

    -- one message more was delivered, and it is x
    more_told : (w : World) {h g : List Event} (j : ℕ) (x : Message) → h ≡ g → message_of w j ≡ x
        → note w (Deliver j) h ≡ delivered j (content_of x (replay_with w j)) ∷ g
    more_told w j x told is = λ t. delivered j (content_of (is t) (replay_with w j)) ∷ told t

    frame_on : {w v : World} {h g : List Event} → Frame w h → OnlyAt c i w v → Good v g → Frame v g
    frame_on f o good = record { good = good; only = only_then f.only o }

    messages_row : {w : World} {h : List Event} → Good w h → length w.messages ≡ messages
    messages_row good = good.shape.room.message_row

    -- the coordinator after it changed
    changed_here : {h : List Event} (w : World) (x : Coordinator) → Good w h → coordinator_of (with_coordinator w c x) c ≡ x
    changed_here w x good = get_or-set_same w.coordinators c x fresh_coordinator (owner_in good.shape b)

    -- an acceptor's slot of the instance, after another's changed and after its own did
    slot_other : (w : World) (j k : ℕ) (x : AcceptorSlot) → u j ≢ u k → slot_of (with_slot w (u k) i x) (u j) i ≡ slot_of w (u j) i
    slot_other w j k x ne = get_or-set_other w.slots (u k * instances + i) (u j * instances + i) x empty_slot (omega arith)

    slot_here : {h : List Event} (w : World) (k : ℕ) (x : AcceptorSlot) → k < m → Good w h → slot_of (with_slot w (u k) i x) (u k) i ≡ x
    slot_here w k x h good =
        get_or-set_same w.slots (u k * instances + i) x empty_slot (omega (arith, good.shape.slot_row, is_acceptor k h, such.current))

    distinct : (j k : ℕ) → j ≢ k → j < m → k < m → u j ≢ u k
    distinct j k ne g h e = elim (dec_lt j k) [
      | yes l ↦ omega (arith, asked.ascending j k l h)
      | no l ↦ omega (arith, asked.ascending k j (omega arith) g)
    ]

    -- ---- open

    opens : Goes w₀ h₀ (Open c i b) (Prepared 0)
    opens =
        goes_to (Prepared 0) w₀ h₀ (Open c i b) v good₀
        (open_goes w₀ c i b in_range such.up (live such) refl (omega (arith, numbers)) refl ballot.above_opened
        ∙ ap (λ (x : World). answered x accepted) (send_posts (with_coordinator w₀ c new) n (prepare_to i b)))
        (λ good. record {
          frame = record { good = good; only = only_sends c i w₀ new n (prepare_to i b) };
          told = refl;
          sent = omega arith;
          coordinator = changed_here w₀ new good₀;
          prepares = λ a h. filled_new (outbox_of w₀) s (prepare_to i b) n a (omega (arith, numbers, messages_row good₀)) h;
          promises = λ j h. absurd (omega arith);
          open_slots = λ j g h. refl;
          held_slots = λ j h. absurd (omega arith);
        })
      where
        new : Coordinator
        new = with_round (coordinator_of w₀ c) (new_round b)

        v : World
        v = posted (with_coordinator w₀ c new) (filled (outbox_of w₀) s n (prepare_to i b)) (s + n)

    -- ---- a delivery to an acceptor, which answers with the message y

    module _ (w : World) (k : ℕ) (x : AcceptorSlot) (y : Message) where
      abbrev replied : World
      replied = with_message (with_slot w (u k) i x) y

      reply_new : {h : List Event} → Good w h → w.sent < messages → (j : ℕ) → w.sent ≡ j → message_of replied j ≡ y
      reply_new good one j e =
          subst (λ (z : ℕ). message_of replied z ≡ y) e (get_or-set_same w.messages w.sent y no_message (omega (arith, messages_row good)))

      reply_old : (j : ℕ) → j ≢ w.sent → message_of replied j ≡ message_of w j
      reply_old j ne = get_or-set_other w.messages w.sent j y no_message ne

      -- the slots of those that answer: this one's, and the others'
      slots_after : {h : List Event} (P : ℕ → AcceptorSlot → Type 0) → k < m → Good w h → P k x
          → (j : ℕ) → j < m → (j ≢ k → P j (slot_of w (u j) i)) → P j (slot_of replied (u j) i)
      slots_after P l good here j h others = go (ℕ_discrete j k)
        where
          go : Dec (j ≡ k) → P j (slot_of replied (u j) i)
          go (yes e) = rw e (subst (P k) (sym (slot_here w k x l good)) here)
          go (no e) = subst (P j) (sym (slot_other w j k x (distinct j k e h l))) (others e)

    is_up : {w : World} {h : List Event} → Frame w h → (k : ℕ) → k < m → is_down w.down Acceptor (u k) ≡ false
    is_up f k l = ap (λ (d : Down). is_down d Acceptor (u k)) f.only.down ∙ asked.is_up k l

    live_in : {w : World} {h : List Event} → Frame w h → 0 < w.acceptors
    live_in f = omega (arith, f.only.acceptors, live such)

    prepares_go : (k : ℕ) → k < m → (w : World) (h : List Event) → Prepared k w h → Goes w h (Deliver (prepare_number w₀ k)) (Prepared (suc k))
    prepares_go k l w h p =
        goes_to (Prepared (suc k)) w h (Deliver (s + u k)) (replied w k (promising x b) y) good_now
        (prepare_goes w (s + u k) before (omega (arith, one)) (live_in p.frame) i b (u k) (is_acceptor k l) such.current one (is_up p.frame k l) is
        below)
        (λ good. record {
          frame = frame_on p.frame (only_slot_lem c i w (u k) (promising x b) y such.current) good;
          told = more_told w (s + u k) (prepare_to i b (u k)) p.told is;
          sent = omega (arith, p.sent);
          coordinator = p.coordinator;
          prepares = λ a g. reply_old w k (promising x b) y (s + a) (omega (arith, p.sent)) ∙ p.prepares a g;
          promises = λ j g. elim (ℕ_discrete j k) [
            | yes e ↦ rw e (reply_new w k (promising x b) y good_now one (s + n + k) p.sent ∙ ap (λ (z : AcceptorSlot). promise_from i b (u k) z.ballot z.batch) unchanged)
            | no e ↦ reply_old w k (promising x b) y (s + n + j) (omega (arith, p.sent)) ∙ p.promises j (omega arith)
          ];
          open_slots = λ j g q. slots_after w k (promising x b) y (λ a z. suc k ≤ a → z ≡ held a) l good_now (λ z. absurd (omega arith)) j q (λ _ _. p.open_slots j (omega arith) q) g;
          held_slots = λ j g. slots_after w k (promising x b) y (λ a z. z.promised ≡ b) l good_now refl j (omega arith) (λ e. p.held_slots j (omega arith));
        })
      where
        x : AcceptorSlot
        x = slot_of w (u k) i

        y : Message
        y = promise_from i b (u k) x.ballot x.batch

        unchanged : x ≡ held k
        unchanged = p.open_slots k (omega arith) l

        below : x.promised < b
        below = subst (λ (z : AcceptorSlot). z.promised < b) (sym unchanged) (ballot.above_promised (u k) (asked.is_acceptor k l))

        good_now : Good w h
        good_now = p.frame.good

        one : w.sent < messages
        one = omega (arith, p.sent, numbers)

        before : s + u k < w.sent
        before = omega (arith, p.sent, asked.is_acceptor k l)

        is : message_of w (s + u k) ≡ prepare_to i b (u k)
        is = p.prepares (u k) (asked.is_acceptor k l)

    -- one acceptor more answered
    counted_on : (q k : ℕ) → k < m → Counted u n q k → Counted u n (with q (u k)) (suc k)
    counted_on q k l = one_more u n q k (asked.is_acceptor k l) (λ j h. distinct j k (omega arith) (omega arith) l)

    -- ---- a delivery to the coordinator

    co_up : {w : World} {h : List Event} → Frame w h → is_down w.down Coord c ≡ false
    co_up f = ap (λ (d : Down). is_down d Coord c) f.only.down ∙ such.up

    promised : (w : World) (h : List Event) → Prepared m w h → Heard 0 w h
    promised w h p = record {
      frame = p.frame;
      told = p.told;
      sent = p.sent;
      at_ballot = subst AtBallot (sym p.coordinator) (record { applied = refl; ballot = refl });
      queue = ap (λ (x : Coordinator). x.queue) p.coordinator;
      highest = subst (λ (x : Coordinator). HighestOf 0 x.round) (sym p.coordinator) (highest_none (new_round b) refl);
      not_proposed = ap (λ (x : Coordinator). is_proposed x.round) p.coordinator;
      none_counted = ap (λ (x : Coordinator). x.round.acceptances) p.coordinator;
      counted = subst (λ (x : Coordinator). Counted u n x.round.promises 0) (sym p.coordinator) (none_yet u n);
      promises = p.promises;
      held_slots = p.held_slots;
    }

    promises_go : (k : ℕ) → k < m → (w : World) (h : List Event) → Heard k w h → Goes w h (Deliver (promise_number w₀ k)) (Heard (suc k))
    promises_go k l w h p =
        goes_to (Heard (suc k)) w h (Deliver (s + n + k)) (with_coordinator w c x) good_now
        (promise_goes w (s + n + k) (omega (arith, p.sent)) (omega (arith, p.sent, numbers)) (live_in p.frame) i b (u k) (is_acceptor k l) (co_up p.frame)
        p.at_ballot.applied p.at_ballot.ballot (held k).ballot (held k).batch is)
        (λ good. record {
          frame = frame_on p.frame (only_coordinator_lem c i w x) good;
          told = more_told w (s + n + k) (promise_of k) p.told is;
          sent = p.sent;
          at_ballot = subst AtBallot here (record { applied = p.at_ballot.applied; ballot = a.ballot ∙ p.at_ballot.ballot });
          queue = subst (λ (z : Coordinator). z.queue ≡ (coordinator_of w₀ c).queue) here p.queue;
          highest =
              subst (λ (z : Coordinator). HighestOf (suc k) z.round) here
              (highest_on k its.round (u k) p.highest);
          not_proposed = subst (λ (z : Coordinator). is_proposed z.round ≡ false) here (a.proposed ∙ p.not_proposed);
          none_counted = subst (λ (z : Coordinator). z.round.acceptances ≡ 0) here (a.acceptances ∙ p.none_counted);
          counted =
              subst (λ (z : Coordinator). Counted u n z.round.promises (suc k)) here
              (subst (λ (z : ℕ). Counted u n z (suc k)) (sym a.promises) (counted_on its.round.promises k l p.counted));
          promises = p.promises;
          held_slots = p.held_slots;
        })
      where
        good_now : Good w h
        good_now = p.frame.good

        is : message_of w (s + n + k) ≡ promise_of k
        is = p.promises k l

        its : Coordinator
        its = coordinator_of w c

        x : Coordinator
        x = with_round its (promise_heard its.round (u k) (held k).ballot (held k).batch)

        a : AfterPromise its.round (u k) x.round
        a = after_promise its.round (u k) (held k).ballot (held k).batch

        here : x ≡ coordinator_of (with_coordinator w c x) c
        here = sym (changed_here w x good_now)

    -- ---- propose

    -- the batch that is proposed in the world
    abbrev proposal : World → Batch
    proposal w = batch_to_propose (coordinator_of w c)

    proposes : (w : World) (h : List Event) → Heard m w h → Goes w h (Propose c i b) (Voted (proposal w) 0)
    proposes w h p =
        goes_to (Voted v 0) w h (Propose c i b) z good_now
        (propose_goes w c i b in_range (co_up p.frame) (live_in p.frame) p.at_ballot.applied (omega (arith, p.sent, p.frame.only.acceptors, numbers))
        p.at_ballot.ballot (subst (λ (j : ℕ). majority j its.round.promises ≡ true) (sym same) (enough u n its.round.promises p.counted)) p.not_proposed
        (subst (λ (x : Queue). 0 < x.count) (sym p.queue) such.queued)
        ∙ ap (λ (y : World). answered y accepted)
        (send_posts (with_coordinator w c new) w.acceptors (accept_to i b v)
        ∙ (λ t. posted (with_coordinator w c new) (filled (outbox_of w) w.sent (same t) (accept_to i b v)) (w.sent + same t))))
        (λ good. record {
          frame = frame_on p.frame (only_sends c i w new n (accept_to i b v)) good;
          told = p.told;
          sent = omega (arith, p.sent);
          at_ballot = subst AtBallot here (record { applied = p.at_ballot.applied; ballot = p.at_ballot.ballot });
          none_counted = subst (λ (y : Coordinator). y.round.acceptances ≡ 0) here p.none_counted;
          accepts =
              λ a g. ap (message_of z) (let e : s + n + m + a ≡ w.sent + a = omega (arith, p.sent) in e)
              ∙ filled_new (outbox_of w) w.sent (accept_to i b v) n a (omega (arith, p.sent, numbers, messages_row good_now)) g;
          acceptances = λ j g. absurd (omega arith);
          held_slots = p.held_slots;
          voted = λ j g. absurd (omega arith);
        })
      where
        good_now : Good w h
        good_now = p.frame.good

        its : Coordinator
        its = coordinator_of w c

        v : Batch
        v = proposal w

        same : w.acceptors ≡ n
        same = p.frame.only.acceptors

        new : Coordinator
        new = with_round its (proposing its.round v)

        z : World
        z = posted (with_coordinator w c new) (filled (outbox_of w) w.sent n (accept_to i b v)) (w.sent + n)

        here : new ≡ coordinator_of z c
        here = sym (changed_here w new good_now)

    accepts_go : (v : Batch) (k : ℕ) → k < m → (w : World) (h : List Event) → Voted v k w h
        → Goes w h (Deliver (accept_number w₀ k)) (Voted v (suc k))
    accepts_go v k l w h p =
        goes_to (Voted v (suc k)) w h (Deliver (s + n + m + u k)) (replied w k (accepting b v) y) good_now
        (accept_goes w (s + n + m + u k) before (omega (arith, one)) (live_in p.frame) i b (u k) (is_acceptor k l) such.current one (is_up p.frame k l) v is
        (omega (arith, p.held_slots k l)))
        (λ good. record {
          frame = frame_on p.frame (only_slot_lem c i w (u k) (accepting b v) y such.current) good;
          told = more_told w (s + n + m + u k) (accept_to i b v (u k)) p.told is;
          sent = omega (arith, p.sent);
          at_ballot = p.at_ballot;
          none_counted = p.none_counted;
          accepts = λ a g. reply_old w k (accepting b v) y (s + n + m + a) (omega (arith, p.sent)) ∙ p.accepts a g;
          acceptances = λ j g. elim (ℕ_discrete j k) [
            | yes e ↦ rw e (reply_new w k (accepting b v) y good_now one (s + n + m + n + k) p.sent)
            | no e ↦ reply_old w k (accepting b v) y (s + n + m + n + j) (omega (arith, p.sent)) ∙ p.acceptances j (omega arith)
          ];
          held_slots = λ j g. slots_after w k (accepting b v) y (λ a z. z.promised ≡ b) l good_now refl j g (λ e. p.held_slots j g);
          voted = λ j g. elim (ℕ_discrete j k) [
            | yes e ↦ rw e now_voted
            | no e ↦ later (p.voted j (omega arith))
          ];
        })
      where
        y : Message
        y = accepted_from i b (u k)

        good_now : Good w h
        good_now = p.frame.good

        one : w.sent < messages
        one = omega (arith, p.sent, numbers)

        before : s + n + m + u k < w.sent
        before = omega (arith, p.sent, asked.is_acceptor k l)

        is : message_of w (s + n + m + u k) ≡ accept_to i b v (u k)
        is = p.accepts (u k) (asked.is_acceptor k l)

        -- nothing above b was delivered to it
        none_above : NoneAbove i b (u k) h
        none_above = subst (λ (d : ℕ). NoneAbove i d (u k) h) (p.held_slots k l) (good_now.hist.acc (u k) i such.current).top

        now_voted : Accepts i b (u k) v (note w (Deliver (s + n + m + u k)) h)
        now_voted =
            subst (λ (z : Message). Accepts i b (u k) v (delivered (s + n + m + u k) (content_of z (replay_with w (s + n + m + u k))) ∷ h)) (sym is) (first none_above)

    -- ---- the acceptances

    accepted_all : (v : Batch) (w : World) (h : List Event) → Voted v m w h → Learning v 0 w h
    accepted_all v w h p = record {
      frame = p.frame;
      told = p.told;
      sent = p.sent;
      acceptances = p.acceptances;
      voted = p.voted;
      before = λ l. (p.at_ballot, subst (λ (q : ℕ). Counted u n q 0) (sym p.none_counted) (none_yet u n));
      after = λ e. absurd (omega arith);
    }

    module _ (v : Batch) (k : ℕ) (l : k < m) (w : World) (h : List Event) (p : Learning v k w h) where
      abbrev good_now : Good w h
      good_now = p.frame.good

      abbrev its : Coordinator
      its = coordinator_of w c

      abbrev at : AtBallot its
      at = (p.before l).0

      abbrev is : message_of w (accepted_number w₀ k) ≡ accepted_from i b (u k)
      is = p.acceptances k l

      -- the coordinator with one acceptance more
      abbrev counts : Coordinator
      counts = with_round its (counting its.round (u k))

      more : Counted u n counts.round.acceptances (suc k)
      more = counted_on its.round.acceptances k l (p.before l).1

      earlier : accepted_number w₀ k < w.sent
      earlier = omega (arith, p.sent)

      most : w.sent ≤ messages
      most = omega (arith, p.sent, numbers)

      by_majority : (t : Bool) → majority n counts.round.acceptances ≡ t → majority w.acceptors counts.round.acceptances ≡ t
      by_majority t e = rw p.frame.only.acceptors e

      -- it is not the last one
      counts_on : suc k < m → Goes w h (Deliver (accepted_number w₀ k)) (Learning v (suc k))
      counts_on g =
          goes_to (Learning v (suc k)) w h (Deliver (accepted_number w₀ k)) (with_coordinator w c counts) good_now
          (accepted_counts w (accepted_number w₀ k) earlier most (live_in p.frame) i b (u k) (is_acceptor k l) (co_up p.frame) at.applied at.ballot is
          (by_majority false (too_few u n counts.round.acceptances (suc k) more g)))
          (λ good. record {
            frame = frame_on p.frame (only_coordinator_lem c i w counts) good;
            told = more_told w (accepted_number w₀ k) (accepted_from i b (u k)) p.told is;
            sent = p.sent;
            acceptances = p.acceptances;
            voted = λ j g. later (p.voted j g);
            before =
                λ _. subst (λ (x : Coordinator). AtBallot x × Counted u n x.round.acceptances (suc k)) (sym (changed_here w counts good_now))
                (record { applied = at.applied; ballot = at.ballot }, more);
            after = λ e. absurd (omega arith);
          })

      -- it is, and the batch is applied
      learns_now : suc k ≡ m → Goes w h (Deliver (accepted_number w₀ k)) (Learning v (suc k))
      learns_now full =
          goes_to (Learning v (suc k)) w h (Deliver (accepted_number w₀ k)) (with_learned w c (learning its) (proposal_of its.round)) good_now
          (accepted_learns w (accepted_number w₀ k) earlier most (live_in p.frame) i b (u k) (is_acceptor k l) (co_up p.frame) at.applied at.ballot is
          (by_majority true (enough u n counts.round.acceptances all_counted)))
          (λ good. record {
            frame = frame_on p.frame (only_learned c i w (learning its) (proposal_of its.round)) good;
            told = more_told w (accepted_number w₀ k) (accepted_from i b (u k)) p.told is;
            sent = p.sent;
            acceptances = p.acceptances;
            voted = λ j g. later (p.voted j g);
            before = λ q. absurd (omega arith);
            after = λ _. (
              ap (λ (x : Coordinator). x.applied) (changed_here w (learning its) good_now) ∙ learning_applies its i at.applied such.current,
              (counts.round.acceptances, all_counted),
            );
          })
        where
          all_counted : Counted u n counts.round.acceptances m
          all_counted = subst (Counted u n counts.round.acceptances) full more

      acceptances_go : Goes w h (Deliver (accepted_number w₀ k)) (Learning v (suc k))
      acceptances_go = elim (dec_lt (suc k) m) [
        | yes g ↦ counts_on g
        | no g ↦ learns_now (omega arith)
      ]

    -- ---- the whole list

    -- for the batch that the rule names
    all_voted : Holding
    all_voted w h = (v : Batch) × Proposed w₀ c v × Voted v m w h

    propose_and_accept : (w : World) (h : List Event) → Heard m w h → Ends w h (Propose c i b ∷ deliveries (accept_number w₀) m) all_voted
    unfolding all_voted
    propose_and_accept w h p =
        let g = proposes w h p in
        let v = proposal w in (
          g.0,
          ends_as (Voted v m) all_voted (λ x y q. (v, by_rule w₀ c (coordinator_of w c) p.queue p.highest, q)) (deliveries (accept_number w₀) m) _ _
              (ends_deliveries (Voted v) (accept_number w₀) m (accepts_go v) _ _ g.1),
        )

    abbrev first_part : List Step
    first_part = Open c i b ∷ deliveries (prepare_number w₀) m

    abbrev second_part : List Step
    second_part = Propose c i b ∷ deliveries (accept_number w₀) m

    prepared : Ends w₀ h₀ first_part (Prepared m)
    prepared = (opens.0, ends_deliveries Prepared (prepare_number w₀) m prepares_go _ _ opens.1)

    heard : Ends w₀ h₀ (first_part ++ deliveries (promise_number w₀) m) (Heard m)
    heard =
        ends_append (Prepared m) (Heard m) first_part (deliveries (promise_number w₀) m)
        (λ w h p. ends_deliveries Heard (promise_number w₀) m promises_go w h (promised w h p))
        w₀ h₀ prepared

    voted : Ends w₀ h₀ (first_part ++ deliveries (promise_number w₀) m ++ second_part) all_voted
    voted = ends_append (Heard m) all_voted (first_part ++ deliveries (promise_number w₀) m) second_part propose_and_accept w₀ h₀ heard

    closed : (w : World) (h : List Event) → all_voted w h → Ends w h (deliveries (accepted_number w₀) m) Closed
    unfolding all_voted
    closed w h (v, rule, p) =
        ends_as (Learning v m) Closed (λ x y q. record { batch = v; by_rule = rule; learned = q }) (deliveries (accepted_number w₀) m) w h
        (ends_deliveries (Learning v) (accepted_number w₀) m (acceptances_go v) w h (accepted_all v w h p))

    pub closing_ends : Ends w₀ h₀ (closing w₀ c b) Closed
    unfolding closing
    closing_ends =
        ends_append all_voted Closed (first_part ++ deliveries (promise_number w₀) m ++ second_part) (deliveries (accepted_number w₀) m) closed w₀ h₀ voted
