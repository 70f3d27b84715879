-- The invariant of the ballots: the sent messages obey the core, and the states of acceptors and
-- coordinators say what they say of them.
use Prim.Native.Nat.{ℕ, suc, ◌+◌, ◌*◌, ◌≤◌, ◌<◌, min}
use mathlib.Core.Path.{◌≡◌, refl, sym}
use mathlib.Core.Logic.{◌⊎◌, inl, inr, ◌≢◌}
use mathlib.Core.Bool.{Bool, true, false, cond}
use mathlib.Core.List.{List}
use native.Mathlib.Omega.{arith}
use lib.Dec.{T, eqb, eqb→eq}
use lib.ListN.{get_or, length, set}
use Rattle.model_steps.specs.Limits.{instances, most_acceptors}
use Rattle.model_owners.specs.Owners.{owner}
use Rattle.model_paxos.specs.Majority.{Majority}
use Rattle.model_paxos.specs.Messages.{Paxos, accept, accepted, promise}
use Rattle.model_paxos.specs.Rules.{Core}
use Rattle.model_paxos.proofs.Grow.{AccOk, Attempt, Best, CoOk, Holding, New, NewAll, acc_up, co_up, core_accepted, core_open, core_promise, core_propose, kind, new, new_at}
use Rattle.model_paxos.proofs.Local.{acc_accepted, acc_promise, co_count, co_hear, co_learn, co_open, co_others, co_propose}
use Rattle.model_paxos.proofs.Sets.{majority→, with_lt}
use Rattle.model_protocol.specs.declared.AcceptorSlot.{AcceptorSlot}
use Rattle.model_protocol.specs.declared.Coordinator.{Coordinator}
use Rattle.model_protocol.specs.declared.Round.{Round}
use Rattle.model_protocol.specs.declared.World.{World}
use Rattle.model_protocol.specs.Batch.{Batch, no_batch}
use Rattle.model_protocol.specs.Coordinator.{batch_to_propose, counting, hearing, is_proposed, learning, proposal_of, with_round}
use Rattle.model_protocol.specs.Queue.{first_batch}
use Rattle.model_protocol.specs.World.{slot_of, coordinator_of, empty_slot, fresh_coordinator}
use Rattle.model_agreement.specs.Content.{Content, follow, paxos, request, restore, tell}
use Rattle.model_agreement.specs.History.{Event}
use Rattle.model_agreement.proofs.Arrays.{slot_ind, set_ind}
use Rattle.model_agreement.proofs.Range.{Range}
use Rattle.model_agreement.proofs.Shape.{Shape, co_in, owner_in}
use Rattle.model_agreement.proofs.StepEffects.{Higher, Move, asks, comes_back_lem, counts, crashes, follows, hears, is_told, joins, learns, opens, ours, passes_accept, passes_accepted, passes_follow, passes_prepare, passes_promise, passes_request, passes_restore, promises, proposes, restores, takes, takes_follow_lem, tells, theirs, votes}
use Rattle.model_agreement.proofs.SentMessages.{AllNew, At, OneNew, Outbox, Posts, Sent, outbox_of}

-- ---- the sent messages of the ballots

-- the message of the ballots was sent
pub record Said (ms : Outbox) (k : ℕ) (m : Paxos Batch) : Type 0 where
  pub sent : Sent ms k (paxos m)

pub said_at : {ms : Outbox} {k j : ℕ} {m : Paxos Batch} → At ms k j (paxos m) → Said ms k m
said_at a = record { sent = record { number = _; at = a } }

module _ {ms : Outbox} {k : ℕ} {ms' : Outbox} {k' : ℕ} where
  pub sent_up : {P : ℕ → Content → Type 0} → Posts ms k ms' k' P → {x : Content} → Sent ms k x → Sent ms' k' x
  sent_up p s = record { number = s.number; at = p.keeps s.at }

  pub said_up : {P : ℕ → Content → Type 0} → Posts ms k ms' k' P → (m : Paxos Batch) → Said ms k m → Said ms' k' m
  said_up p m s = record { sent = sent_up p s.sent }

  -- one message of the ballots is new
  pub said_one : {x : Paxos Batch} → Posts ms k ms' k' (OneNew k (paxos x)) → (m : Paxos Batch) → Said ms' k' m → Said ms k m ⊎ New x m
  said_one {x} p m s = go (p.splits s.sent.at)
    where
      is_new : {m : Paxos Batch} → New (paxos x) (paxos m) → New x m
      is_new new = new

      go : At ms k s.sent.number (paxos m) ⊎ OneNew k (paxos x) s.sent.number (paxos m) → Said ms k m ⊎ New x m
      go (inl a) = inl (said_at a)
      go (inr t) = inr (is_new t.1)

  pub said_all : {n : ℕ} {f : ℕ → Paxos Batch} → Posts ms k ms' k' (AllNew n (λ a. paxos (f a)))
      → (m : Paxos Batch) → Said ms' k' m → Said ms k m ⊎ NewAll n f m
  said_all {n} {f} p m s = go (p.splits s.sent.at)
    where
      is_new : {m : Paxos Batch} → NewAll n (λ a. paxos (f a)) (paxos m) → NewAll n f m
      is_new (new_at a l) = new_at a l

      go : At ms k s.sent.number (paxos m) ⊎ NewAll n (λ a. paxos (f a)) (paxos m) → Said ms k m ⊎ NewAll n f m
      go (inl a) = inl (said_at a)
      go (inr t) = inr (is_new t)

  -- a message of another kind than the new one was sent before
  pub said_other : {x : Paxos Batch} → Posts ms k ms' k' (OneNew k (paxos x)) → (m : Paxos Batch)
      → kind m ≢ kind x → Said ms' k' m → Said ms k m
  said_other {x} p m d s = go d (said_one p m s)
    where
      go : {m : Paxos Batch} → kind m ≢ kind x → Said ms k m ⊎ New x m → Said ms k m
      go d (inl t) = t
      go d (inr new) = absurd (d refl)

  pub said_others : (κ : ℕ) {n : ℕ} {f : ℕ → Paxos Batch} → ((a : ℕ) → kind (f a) ≡ κ) → Posts ms k ms' k' (AllNew n (λ a. paxos (f a)))
      → (m : Paxos Batch) → kind m ≢ κ → Said ms' k' m → Said ms k m
  said_others κ {n} {f} e p m d s = go d (said_all p m s)
    where
      go : {m : Paxos Batch} → kind m ≢ κ → Said ms k m ⊎ NewAll n f m → Said ms k m
      go d (inl t) = t
      go d (inr (new_at a l)) = absurd (d (e a))

-- what is no message of the ballots
pub data Mail : Content → Type 0 where
  is_request : (k : ℕ) (e : _) → Mail (request k e)
  is_tell : (p t : ℕ) (o : _) → Mail (tell p t o)
  is_restore : (p t s i : ℕ) (r : _) (n : ℕ) → Mail (restore p t s i r n)
  is_follow : (p s t : ℕ) (o : _) (u : ℕ) → Mail (follow p s t o u)

no_direct_message : {y : Content} {m : Paxos Batch} → Mail y → New y (paxos m) → ⊥
no_direct_message (is_request k e) t = elim t [ ]
no_direct_message (is_tell p t o) t' = elim t' [ ]
no_direct_message (is_restore p t s i r n) x = elim x [ ]
no_direct_message (is_follow p s t o u) t' = elim t' [ ]

pub said_direct_message : {ms : Outbox} {k : ℕ} {ms' : Outbox} {k' : ℕ} {y : Content} → Mail y → Posts ms k ms' k' (OneNew k y)
    → (m : Paxos Batch) → Said ms' k' m → Said ms k m
said_direct_message {ms} {k} {ms'} {k'} {y} z p m s = go z (p.splits s.sent.at)
  where
    go : Mail y → At ms k s.sent.number (paxos m) ⊎ OneNew k y s.sent.number (paxos m) → Said ms k m
    go z (inl a) = said_at a
    go z (inr t) = absurd (no_direct_message z t.1)

-- ---- the invariant

abbrev pub holding : AcceptorSlot → Holding Batch
holding x = record { promised = x.promised; ballot = x.ballot; value = x.batch }

abbrev pub attempt : Round → Attempt Batch
attempt r = record {
  ballot = r.ballot;
  promises = r.promises;
  accepted = r.accepted;
  value = r.batch;
  proposed = is_proposed r;
  proposal = proposal_of r;
  acceptances = r.acceptances;
}

abbrev pub CoAt : ℕ → (Paxos Batch → Type 0) → ℕ → Coordinator → Type 0
CoAt n S k c = CoOk n S k c.applied (attempt c.round)

-- by the number of acceptors, the messages, the slots and the coordinators
pub record Ballots (n : ℕ) (S : Paxos Batch → Type 0) (slots : List AcceptorSlot) (cos : List Coordinator) : Type 0 where
  pub core : Core n S
  pub acc : (a i : ℕ) → i < instances → AccOk S a i (holding (get_or slots (a * instances + i) empty_slot))
  pub co : (k : ℕ) → CoAt n S k (get_or cos k fresh_coordinator)

abbrev pub Inv : World → Type 0
Inv w = Ballots w.acceptors (Said (outbox_of w) w.sent) w.slots w.coordinators

-- nothing of the ballots is sent
inv_same : {n : ℕ} {S S' : Paxos Batch → Type 0} {slots : List AcceptorSlot} {cos : List Coordinator}
    → ((m : Paxos Batch) → S m → S' m)
    → ((m : Paxos Batch) → S' m → S m)
    → Ballots n S slots cos
    → Ballots n S' slots cos
inv_same up dn I = record {
  core = core_open up I.core (λ m _ s. dn m s);
  acc = λ a i g. acc_up up (I.acc a i g) (λ b d v s. dn _ s) (λ b s. dn _ s);
  co = λ k. co_up up (I.co k) (λ i b a v _ s. dn _ s);
}

-- a coordinator's state changes, and nothing is sent
inv_co : {n : ℕ} {S : Paxos Batch → Type 0} {slots : List AcceptorSlot} {cos : List Coordinator} (k : ℕ) (c : Coordinator)
    → k < length cos
    → Ballots n S slots cos
    → CoAt n S k c
    → Ballots n S slots (set cos k c)
inv_co {n} {S} {slots} {cos} k c h I o = record {
  core = I.core;
  acc = I.acc;
  co = set_ind (λ j x. CoAt n S j x) cos fresh_coordinator k c h o (λ j _. I.co j);
}

-- an acceptor's state changes as it sends x
inv_acc : {n : ℕ} {S S' : Paxos Batch → Type 0} {slots : List AcceptorSlot} {cos : List Coordinator} (a i : ℕ) (y : AcceptorSlot) (x : Paxos Batch)
    → i < instances
    → a * instances + i < length slots
    → Ballots n S slots cos
    → ((m : Paxos Batch) → S m → S' m)
    → ((m : Paxos Batch) → S' m → S m ⊎ New x m)
    → ((m : Paxos Batch) → kind m ≢ kind x → S' m → S m)
    → Core n S'
    → AccOk S' a i (holding y)
    → kind x ≢ 2
    → ((b d a' i' : ℕ) (v : Batch) → (a ≢ a') ⊎ (i ≢ i') → New x (promise i' b a' d v) → ⊥)
    → ((b a' i' : ℕ) → (a ≢ a') ⊎ (i ≢ i') → New x (accepted i' b a') → ⊥)
    → Ballots n S' (set slots (a * instances + i) y) cos
inv_acc {n} {S} {S'} {slots} {cos} a i y x g l I up dn old C A e p q =
    record {
      core = C;
      acc = slot_ind (λ a' i' z. AccOk S' a' i' (holding z)) slots empty_slot a i y g l A others;
      co = λ k. co_up up (I.co k) (λ i b a v _. old _ (λ f. e (sym f)));
    }
  where
    go : {m : Paxos Batch} → (New x m → ⊥) → S m ⊎ New x m → S m
    go f (inl s) = s
    go f (inr t) = absurd (f t)

    others : (a' i' : ℕ) → i' < instances → (a ≢ a') ⊎ (i ≢ i') → AccOk S' a' i' (holding (get_or slots (a' * instances + i') empty_slot))
    others a' i' g' f =
        acc_up up (I.acc a' i' g') (λ b d v s. go (p b d a' i' v f) (dn _ s)) (λ b s. go (q b a' i' f) (dn _ s))

-- ---- the moves

module _ {w : World} (s : Shape w) (few : w.acceptors ≤ most_acceptors) (R : Range w) (I : Inv w) where
  abbrev S : Paxos Batch → Type 0
  S = Said (outbox_of w) w.sent

  -- the ballot of an acceptance is that of a proposal
  pub accepted_positive : {j i b a : ℕ} → At (outbox_of w) w.sent j (paxos (accepted i b a)) → 0 < b
  accepted_positive t = I.core.positive (I.core.asked (said_at t)).1

  inv_promise : (i b a : ℕ) (ms : Outbox) (c : ℕ)
      → i < instances
      → a < w.acceptors
      → (slot_of w a i).promised < b
      → Posts (outbox_of w) w.sent ms c (OneNew w.sent (paxos (promise i b a (slot_of w a i).ballot (slot_of w a i).batch)))
      → Ballots w.acceptors (Said ms c)
      (set w.slots (a * instances + i) (record { promised = b; ballot = (slot_of w a i).ballot; batch = (slot_of w a i).batch }))
      w.coordinators
  inv_promise i b a ms c g l h p =
      inv_acc a i _ x g (rw s.slot_row (omega arith)) I (said_up p) (said_one p) (said_other p)
      (core_promise (said_up p) I.core i b a y (I.acc a i g) h (said_one p) (said_other p))
      (acc_promise (said_up p) i b a y (I.acc a i g) h (said_one p) (said_other p))
      (omega arith)
      (λ b' d a' i' v f t. not_promise f t)
      (λ b' a' i' f t. not_accepted t)
    where
      y : Holding Batch
      y = holding (slot_of w a i)

      x : Paxos Batch
      x = promise i b a (slot_of w a i).ballot (slot_of w a i).batch

      not_promise : {b' d a' i' : ℕ} {v : Batch} → (a ≢ a') ⊎ (i ≢ i') → New x (promise i' b' a' d v) → ⊥
      not_promise (inl f) new = f refl
      not_promise (inr f) new = f refl

      not_accepted : {b' a' i' : ℕ} → New x (accepted i' b' a') → ⊥
      not_accepted t = elim t [ ]

  inv_vote : (i b a : ℕ) (v : Batch) (ms : Outbox) (c : ℕ)
      → i < instances
      → a < w.acceptors
      → S (accept i b a v)
      → (slot_of w a i).promised ≤ b
      → Posts (outbox_of w) w.sent ms c (OneNew w.sent (paxos (accepted i b a)))
      → Ballots w.acceptors (Said ms c)
      (set w.slots (a * instances + i) (record { promised = b; ballot = b; batch = v }))
      w.coordinators
  inv_vote i b a v ms c g l r h p =
      inv_acc a i _ x g (rw s.slot_row (omega arith)) I (said_up p) (said_one p) (said_other p)
      (core_accepted (said_up p) I.core i b a v y (I.acc a i g) h r (said_one p) (said_other p))
      (acc_accepted (said_up p) i b a y (I.acc a i g) v h r (said_one p) (said_other p))
      (omega arith)
      (λ b' d a' i' v f t. not_promise t)
      (λ b' a' i' f t. not_accepted f t)
    where
      y : Holding Batch
      y = holding (slot_of w a i)

      x : Paxos Batch
      x = accepted i b a

      not_accepted : {b' a' i' : ℕ} → (a ≢ a') ⊎ (i ≢ i') → New x (accepted i' b' a') → ⊥
      not_accepted (inl f) new = f refl
      not_accepted (inr f) new = f refl

      not_promise : {b' d a' i' : ℕ} {v : Batch} → New x (promise i' b' a' d v) → ⊥
      not_promise t = elim t [ ]

  -- what is proposed, where some promise had an accepted pair
  proposal_is : (c : Coordinator) → (c.round.accepted ≡ 0) ⊎ (batch_to_propose c ≡ c.round.batch)
  unfolding batch_to_propose
  proposal_is c = go (eqb c.round.accepted 0) (eqb→eq c.round.accepted 0)
    where
      go : (t : Bool) → (T t → c.round.accepted ≡ 0)
          → (c.round.accepted ≡ 0) ⊎ (cond t (first_batch c.queue) c.round.batch ≡ c.round.batch)
      go true f = inl (f tt)
      go false f = inr refl

  inv_hear : (a d : ℕ) (v : Batch) (b : ℕ) {d' : ℕ} {v' : Batch}
      → S (promise (coordinator_of w (owner b)).applied (coordinator_of w (owner b)).round.ballot a d v)
      → Higher (coordinator_of w (owner b)).round d v d' v'
      → CoAt w.acceptors S (owner b) (with_round (coordinator_of w (owner b)) (hearing (coordinator_of w (owner b)).round a d' v'))
  inv_hear a d v b r (theirs h) =
      co_hear (I.co (owner b)) a d v d v r (omega arith) (omega arith) (above (I.core.accepted r).0 (I.core.accepted r).1)
    where
      c : Coordinator
      c = coordinator_of w (owner b)

      above : d < c.round.ballot → (d ≡ 0) ⊎ S (accept c.applied d a v) → Best S c.applied (attempt (hearing c.round a d v))
      above g (inl e) = inl e
      above g (inr t) = inr (g, (a, t))
  inv_hear a d v b r (ours h) = co_hear (I.co (owner b)) a d v _ _ r h (omega arith) (I.co (owner b)).best

  inv_learn : (b a : ℕ)
      → S (accepted (coordinator_of w (owner b)).applied (coordinator_of w (owner b)).round.ballot a)
      → Majority w.acceptors (counting (coordinator_of w (owner b)).round a).acceptances
      → CoAt w.acceptors S (owner b) (learning (coordinator_of w (owner b)))
  unfolding learning
  inv_learn b a r q = rw e (co_learn (co_count (I.co (owner b)) a r) I.core q no_batch)
    where
      c : Coordinator
      c = coordinator_of w (owner b)

      e : min (c.applied + 1) instances ≡ suc c.applied
      e = omega (arith, (I.co (owner b)).room (I.core.positive (I.core.asked r).1))

  pub inv_move : {w' : World} {h h' : List Event} → Move w h w' h' → Inv w'
  inv_move (asks e k ms c g _ p) = inv_same (said_up p) (said_direct_message (is_request k e) p) I
  inv_move (opens k i b ms c h g l e f u p) =
      record {
        core = core_open (said_up p) I.core old;
        acc = λ a i' g'. acc_up (said_up p) (I.acc a i' g') (λ b d v. old _ (omega arith)) (λ b. old _ (omega arith));
        co =
            set_ind (λ j c. CoAt w.acceptors (Said ms c₀) j c) w.coordinators fresh_coordinator k _ (co_in s h)
            (co_up (said_up p) (co_open (I.co k) b no_batch f u (rw e at g)) (λ i b a v _. old _ (omega arith)))
            (λ j _. co_up (said_up p) (I.co j) (λ i b a v _. old _ (omega arith)));
      }
    where
      c₀ : ℕ
      c₀ = c

      old : (m : Paxos Batch) → kind m ≢ 0 → Said ms c m → Said (outbox_of w) w.sent m
      old = said_others 0 (λ a. refl) p
  inv_move (proposes k i b v ms c h d e z f q _ u p) =
      record {
        core = core_propose (said_up p) I.core k x.applied r v (I.co k) (rw e at z) f most (rw u (proposal_is x)) dn old;
        acc = λ a i' g'. acc_up (said_up p) (I.acc a i' g') (λ b d v. old _ (omega arith)) (λ b. old _ (omega arith));
        co =
            set_ind (λ j y. CoAt w.acceptors (Said ms c) j y) w.coordinators fresh_coordinator k _ (co_in s h)
            (co_propose (said_up p) v (I.co k) f dn)
            (λ j g. co_others (said_up p) v (I.co k) f dn (rw e at z) g (I.co j));
      }
    where
      x : Coordinator
      x = coordinator_of w k

      r : Attempt Batch
      r = attempt x.round

      most : Majority w.acceptors x.round.promises
      most = majority→ w.acceptors x.round.promises (R.cos k).promises q

      p' : Posts (outbox_of w) w.sent ms c (AllNew w.acceptors (λ a. paxos (accept x.applied x.round.ballot a v)))
      p' = rw (d, e) at p

      dn : (m : Paxos Batch) → Said ms c m
          → Said (outbox_of w) w.sent m ⊎ NewAll w.acceptors (λ a. accept x.applied x.round.ballot a v) m
      dn = said_all p'

      old : (m : Paxos Batch) → kind m ≢ 2 → Said ms c m → Said (outbox_of w) w.sent m
      old = said_others 2 (λ a. refl) p
  inv_move (tells k q tx ms c _ _ _ p) = inv_same (said_up p) (said_direct_message (is_tell q tx _) p) I
  inv_move (restores k q ms c _ _ _ p) = inv_same (said_up p) (said_direct_message (is_restore q _ _ _ _ _) p) I
  inv_move (follows k q tx ms c _ _ _ _ _ p) = inv_same (said_up p) (said_direct_message (is_follow q _ tx _ _) p) I
  inv_move (crashes d) = I
  inv_move (comes_back_lem p t d _ _) = I
  inv_move (promises j i b a ms c t g p) = inv_promise i b a ms c (R.sent t).inst (R.sent t).acceptor g p
  inv_move (passes_prepare j i b a _ _) = I
  inv_move (votes j i b a v ms c t g p _) = inv_vote i b a v ms c (R.sent t).inst (R.sent t).acceptor (said_at t) g p
  inv_move (passes_accept j i b a v _ _) = I
  inv_move (hears j i b a d v d' v' t e f g) = inv_co (owner b) _ (owner_in s b) I (inv_hear a d v b (rw (f, e) at (said_at t)) g)
  inv_move (passes_promise j i b a d v _) = I
  inv_move (counts j i b a t e f _) = inv_co (owner b) _ (owner_in s b) I (co_count (I.co (owner b)) a (rw (f, e) at (said_at t)))
  inv_move (learns j i b a t e f q) =
      inv_co (owner b) _ (owner_in s b) I
      (inv_learn b a (rw (f, e) at (said_at t))
      (majority→ w.acceptors _ (with_lt _ a _ (R.sent t).acceptor (R.cos (owner b)).acceptances) q))
  inv_move (passes_accepted j i b a _ _) = I
  inv_move (joins j k e t _) = inv_co k _ (co_in s (R.sent t)) I (I.co k)
  inv_move (passes_request j k e _) = I
  inv_move (is_told j p tx o _) = I
  inv_move (takes j p t z i r n _ _) = I
  inv_move (passes_restore j p t z i r n _ _) = I
  inv_move (takes_follow_lem j p z tx o u _ _) = I
  inv_move (passes_follow j p z tx o u _ _) = I
