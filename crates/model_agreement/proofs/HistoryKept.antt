-- The history and the world go together: promised ballots, applied counts and acceptances are what
-- the history says.
use Prim.Native.Nat.{ℕ, suc, ◌+◌, ◌*◌, ◌^◌, ◌≤◌, ◌<◌, min}
use mathlib.Core.Path.{◌≡◌, refl, sym, ap, ◌∙◌}
use mathlib.Core.Logic.{◌⊎◌, inl, inr, ◌≢◌}
use mathlib.Core.List.{List, ◌∷◌}
use native.Mathlib.Omega.{arith}
use lib.Dec.{T_not}
use lib.ListN.{get_or, length, set}
use Rattle.log_entry.specs.declared.Entry.{Entry}
use Rattle.log_entry.specs.Bits.{with}
use Rattle.model_steps.specs.Limits.{instances, most_acceptors}
use Rattle.model_owners.specs.Owners.{owner}
use Rattle.model_paxos.specs.Majority.{Majority, majority}
use Rattle.model_paxos.specs.Messages.{Paxos, accept, accepted, prepare, promise}
use Rattle.model_paxos.proofs.Grow.{New, is_new, kind, new}
use Rattle.model_paxos.proofs.Sets.{majority←, majority→, with_lt}
use Rattle.model_protocol.specs.Batch.{Batch}
use Rattle.model_protocol.specs.declared.AcceptorSlot.{AcceptorSlot}
use Rattle.model_protocol.specs.declared.Coordinator.{Coordinator}
use Rattle.model_protocol.specs.declared.World.{World}
use Rattle.model_protocol.specs.Coordinator.{counting, learning}
use Rattle.model_protocol.specs.World.{slot_of, coordinator_of, empty_slot, fresh_coordinator}
use Rattle.model_agreement.specs.Content.{Content, paxos, request}
use Rattle.model_agreement.specs.History.{Accepts, Event, Got, LastOpened, Since, asked, delivered, first, heard, here, kept, later, opened, opening, restoring, setup, without_messages, there, back}
use Rattle.model_agreement.proofs.Arrays.{slot_cases, slot_ind, each_case, set_ind}
use Rattle.model_agreement.proofs.BallotInvariant.{Inv, Mail, Said, accepted_positive, is_follow, is_request, is_restore, is_tell, said_at, said_direct_message, said_one, said_other, said_others, said_up}
use Rattle.model_agreement.proofs.Range.{Range}
use Rattle.model_agreement.proofs.Recorded.{AccHist, CoHist, acc_frame, acc_passes, acc_prepares, acc_sent, acc_votes, co_counts, co_frame, co_learns, co_opens}
use Rattle.model_agreement.proofs.Shape.{Shape, co_in, owner_in}
use Rattle.model_agreement.proofs.StepEffects.{Move, asks, comes_back_lem, counts, crashes, follows, hears, is_told, joins, learns, opens, passes_accept, passes_accepted, passes_follow, passes_prepare, passes_promise, passes_request, passes_restore, promises, proposes, restores, takes, takes_follow_lem, tells, votes}
use Rattle.model_agreement.proofs.SentMessages.{At, OneNew, Outbox, Posts, outbox_of}

-- ---- what an event leaves as it was

-- an event that is no message of the ballots
pub data Aside : Event → Type 0 where
  set_up : (n : ℕ) → Aside (setup n)
  asked_for : (e : Entry) → Aside (asked e)
  opened_by : (k i b : ℕ) → Aside (opened k i b)
  restored_by : (k m : ℕ) → Aside (restoring k m)
  mailed : (m : ℕ) {x : Content} → Mail x → Aside (delivered m x)
  came_back : (p t : ℕ) → Aside (back p t)

module _ {h : List Event} where
  got_aside : {e : Event} {m : Paxos Batch} → Aside e → Got (paxos m) (e ∷ h) → Got (paxos m) h
  got_aside (set_up n) (there y) = y
  got_aside (asked_for e) (there y) = y
  got_aside (opened_by k i b) (there y) = y
  got_aside (restored_by k m) (there y) = y
  got_aside (mailed m (is_request k e)) (there y) = y
  got_aside (mailed m (is_tell p t o)) (there y) = y
  got_aside (mailed m (is_restore p t s i r n)) (there y) = y
  got_aside (mailed m (is_follow p s t o u)) (there y) = y
  got_aside (came_back p t) (there y) = y

  accepts_aside : {e : Event} {i b a : ℕ} {v : Batch} → Aside e → Accepts i b a v (e ∷ h) → Accepts i b a v h
  accepts_aside (set_up n) (later y) = y
  accepts_aside (asked_for e) (later y) = y
  accepts_aside (opened_by k i b) (later y) = y
  accepts_aside (restored_by k m) (later y) = y
  accepts_aside (mailed m (is_request k e)) (later y) = y
  accepts_aside (mailed m (is_tell p t o)) (later y) = y
  accepts_aside (mailed m (is_restore p t s i r n)) (later y) = y
  accepts_aside (mailed m (is_follow p s t o u)) (later y) = y
  accepts_aside (came_back p t) (later y) = y

  since_aside : {e : Event} {k i b a : ℕ} → Aside e → Since k i b a (e ∷ h) → Since k i b a h
  since_aside (set_up n) (kept o y) = y
  since_aside (asked_for e) (kept o y) = y
  since_aside (opened_by k i b) (kept o y) = y
  since_aside (restored_by k m) (kept o y) = y
  since_aside (mailed m (is_request k e)) (kept o y) = y
  since_aside (mailed m (is_tell p t x)) (kept o y) = y
  since_aside (mailed m (is_restore p t s i r n)) (kept o y) = y
  since_aside (mailed m (is_follow p s t x u)) (kept o y) = y
  since_aside (came_back p t) (kept o y) = y

  -- a message of the ballots of another kind
  got_kind : {j : ℕ} {m x : Paxos Batch} → kind m ≢ kind x → Got (paxos m) (delivered j (paxos x) ∷ h) → Got (paxos m) h
  got_kind f here = absurd (f refl)
  got_kind f (there y) = y

  accepts_kind : {j i b a : ℕ} {v : Batch} {x : Paxos Batch} → 2 ≢ kind x → Accepts i b a v (delivered j (paxos x) ∷ h) → Accepts i b a v h
  accepts_kind f (first y) = absurd (f refl)
  accepts_kind f (later y) = y

  since_kind : {j k i b a : ℕ} {x : Paxos Batch} → 3 ≢ kind x → Since k i b a (delivered j (paxos x) ∷ h) → Since k i b a h
  since_kind f (heard y) = absurd (f refl)
  since_kind f (kept o y) = y

  since_accepted : {j k p l x i b a : ℕ} → (i ≡ p → b ≡ l → ⊥) → Since k p l x (delivered j (paxos (accepted i b a)) ∷ h) → Since k p l x h
  since_accepted f (heard y) = absurd (f refl refl)
  since_accepted f (kept o y) = y

  last_delivered : {j k i b : ℕ} {x : Content} → LastOpened k i b (delivered j x ∷ h) → LastOpened k i b h
  last_delivered (without_messages o y) = y

  last_other : {k i b j c d : ℕ} → k ≢ j → LastOpened k i b (opened j c d ∷ h) → LastOpened k i b h
  last_other f opening = absurd (f refl)
  last_other f (without_messages o y) = y

-- ---- the relation, by the number of acceptors, the messages, the slots and the coordinators

-- coordinator k keeps what the history says
abbrev pub CoSays : ℕ → List Event → ℕ → Coordinator → Type 0
CoSays n h k c = CoHist n h k c.applied c.round.ballot c.round.acceptances

pub record HistOf (n : ℕ) (h : List Event) (S : Paxos Batch → Type 0) (slots : List AcceptorSlot) (cos : List Coordinator) : Type 0 where
  pub acc : (a i : ℕ) → i < instances → AccHist h S a i (get_or slots (a * instances + i) empty_slot).promised
  pub co : (k : ℕ) → CoSays n h k (get_or cos k fresh_coordinator)

abbrev pub Hist : World → List Event → Type 0
Hist w h = HistOf w.acceptors h (Said (outbox_of w) w.sent) w.slots w.coordinators

module _ {n : ℕ} {h : List Event} {S : Paxos Batch → Type 0} {slots : List AcceptorSlot} {cos : List Coordinator} (H : HistOf n h S slots cos) where
  -- messages are sent, no acceptance among them
  accs_sent : {S' : Paxos Batch → Type 0} → ((m : Paxos Batch) → S m → S' m) → ((m : Paxos Batch) → kind m ≡ 3 → S' m → S m)
      → (a i : ℕ) → i < instances → AccHist h S' a i (get_or slots (a * instances + i) empty_slot).promised
  accs_sent up old a i g = acc_sent up (H.acc a i g) (λ b s. old _ refl s)

  accs_aside : {S' : Paxos Batch → Type 0} {e : Event} → Aside e → ((m : Paxos Batch) → S m → S' m)
      → ((m : Paxos Batch) → kind m ≡ 3 → S' m → S m)
      → (a i : ℕ) → i < instances → AccHist (e ∷ h) S' a i (get_or slots (a * instances + i) empty_slot).promised
  accs_aside {S'} {e} q up old a i g =
      acc_frame up (H.acc a i g) e (λ b s. old _ refl s) (λ c y. got_aside q y) (λ c v y. got_aside q y) (λ c v y. accepts_aside q y)

  -- a promise or an acceptance is delivered: nothing to an acceptor
  accs_kind : (j : ℕ) (x : Paxos Batch) → kind x ≢ 0 → kind x ≢ 2
      → (a i : ℕ) → i < instances → AccHist (delivered j (paxos x) ∷ h) S a i (get_or slots (a * instances + i) empty_slot).promised
  accs_kind j x d e a i g =
      acc_frame (λ m s. s) (H.acc a i g) _ (λ b s. s)
      (λ c y. got_kind (λ q. d (sym q)) y)
      (λ c v y. got_kind (λ q. e (sym q)) y)
      (λ c v y. accepts_kind (λ q. e (sym q)) y)

  -- anything but an acceptance is delivered: nothing to a coordinator
  cos_kind : (j : ℕ) (x : Paxos Batch) → kind x ≢ 3 → (k : ℕ) → CoSays n (delivered j (paxos x) ∷ h) k (get_or cos k fresh_coordinator)
  cos_kind j x d k = co_frame (H.co k) tt (λ a y. since_kind (λ q. d (sym q)) y) (λ i c y. last_delivered y)

  cos_direct_message : (j : ℕ) {x : Content} → Mail x → (k : ℕ) → CoSays n (delivered j x ∷ h) k (get_or cos k fresh_coordinator)
  cos_direct_message j z k = co_frame (H.co k) tt (λ a y. since_aside (mailed j z) y) (λ i c y. last_delivered y)

-- ---- the moves

counts' : {n k p l q i b : ℕ} {h : List Event} (j a : ℕ) → CoHist n h k p l q → 0 < b → i ≡ p → b ≡ l → (Majority n (with q a) → ⊥)
    → CoHist n (delivered j (paxos (accepted i b a)) ∷ h) k p l (with q a)
counts' j a H g d e f = rw (d, e) (co_counts j a H (rw e at g) f)

learns' : {n k p l q i b : ℕ} {h : List Event} (j a : ℕ) → CoHist n h k p l q → 0 < b → i ≡ p → b ≡ l → Majority n (with q a)
    → CoHist n (delivered j (paxos (accepted i b a)) ∷ h) k (suc p) 0 0
learns' j a H g d e f = rw (d, e) (co_learns j a H (rw e at g) f)

module _ {w : World} {h : List Event} (s : Shape w) (few : w.acceptors ≤ most_acceptors) (R : Range w) (I : Inv w) (H : Hist w h) where
  abbrev S : Paxos Batch → Type 0
  S = Said (outbox_of w) w.sent

  slot_in : {a i : ℕ} → a < w.acceptors → i < instances → a * instances + i < length w.slots
  slot_in g l = rw s.slot_row (omega arith)

  -- ---- a prepare

  module _ (j i b a : ℕ) (g : i < instances) where
    other : {i' a' c : ℕ} → (a ≢ a') ⊎ (i ≢ i')
        → Got (paxos (prepare i' c a')) (delivered j (paxos (prepare i b a)) ∷ h)
        → Got (paxos (prepare i' c a')) h
    other (inl f) here = absurd (f refl)
    other (inr f) here = absurd (f refl)
    other f (there z) = z

    frame : {S' : Paxos Batch → Type 0} → ((m : Paxos Batch) → S m → S' m) → ((m : Paxos Batch) → kind m ≢ 1 → S' m → S m)
        → (a' i' : ℕ) → i' < instances → (a ≢ a') ⊎ (i ≢ i')
        → AccHist (delivered j (paxos (prepare i b a)) ∷ h) S' a' i' (slot_of w a' i').promised
    frame up old a' i' g' f =
        acc_frame up (H.acc a' i' g') _ (λ c s. old _ (omega arith) s) (λ c z. other f z) (λ c v z. got_kind (omega arith) z)
        (λ c v z. accepts_kind (omega arith) z)

    hist_promises : (ms : Outbox) (c : ℕ) → a < w.acceptors → (slot_of w a i).promised < b
        → Posts (outbox_of w) w.sent ms c (OneNew w.sent (paxos (promise i b a (slot_of w a i).ballot (slot_of w a i).batch)))
        → HistOf w.acceptors (delivered j (paxos (prepare i b a)) ∷ h) (Said ms c)
        (set w.slots (a * instances + i) (record { promised = b; ballot = (slot_of w a i).ballot; batch = (slot_of w a i).batch }))
        w.coordinators
    hist_promises ms c l f p = record {
      acc =
          slot_ind (λ a' i' z. AccHist (delivered j (paxos (prepare i b a)) ∷ h) (Said ms c) a' i' z.promised) w.slots empty_slot a i _ g (slot_in l g)
          (acc_prepares (said_up p) (H.acc a i g) j b b (λ c s. said_other p _ (omega arith) s) (omega arith) (omega arith) (inr refl))
          (frame (said_up p) (said_other p));
      co = cos_kind H j (prepare i b a) (omega arith);
    }

    hist_passes : b ≤ (slot_of w a i).promised
        → HistOf w.acceptors (delivered j (paxos (prepare i b a)) ∷ h) S w.slots w.coordinators
    hist_passes f = record {
      acc =
          slot_cases (λ a' i'. i' < instances → AccHist (delivered j (paxos (prepare i b a)) ∷ h) S a' i' (slot_of w a' i').promised) a i
          (λ _. acc_prepares (λ m s. s) (H.acc a i g) j b (slot_of w a i).promised (λ c s. s) (omega arith) f (inl refl))
          (λ a' i' d g'. frame (λ m s. s) (λ m _ s. s) a' i' g' d);
      co = cos_kind H j (prepare i b a) (omega arith);
    }

  -- ---- an accept

  module _ (j i b a : ℕ) (v : Batch) (g : i < instances) where
    other_got : {i' a' c : ℕ} {u : Batch} → (a ≢ a') ⊎ (i ≢ i')
        → Got (paxos (accept i' c a' u)) (delivered j (paxos (accept i b a v)) ∷ h)
        → Got (paxos (accept i' c a' u)) h
    other_got (inl f) here = absurd (f refl)
    other_got (inr f) here = absurd (f refl)
    other_got f (there z) = z

    other_accepts : {i' a' c : ℕ} {u : Batch} → (a ≢ a') ⊎ (i ≢ i')
        → Accepts i' c a' u (delivered j (paxos (accept i b a v)) ∷ h) → Accepts i' c a' u h
    other_accepts (inl f) (first z) = absurd (f refl)
    other_accepts (inr f) (first z) = absurd (f refl)
    other_accepts f (later z) = z

    frame_accept : {S' : Paxos Batch → Type 0} → ((m : Paxos Batch) → S m → S' m)
        → (a' i' : ℕ) → i' < instances → (a ≢ a') ⊎ (i ≢ i')
        → ((c : ℕ) → S' (accepted i' c a') → S (accepted i' c a'))
        → AccHist (delivered j (paxos (accept i b a v)) ∷ h) S' a' i' (slot_of w a' i').promised
    frame_accept up a' i' g' f old =
        acc_frame up (H.acc a' i' g') _ old (λ c z. got_kind (omega arith) z) (λ c v z. other_got f z) (λ c v z. other_accepts f z)

    voted : {c : ℕ} → S (accepted i c a) ⊎ New {A = Paxos Batch} (accepted i b a) (accepted i c a) → S (accepted i c a) ⊎ (c ≡ b)
    voted (inl z) = inl z
    voted {c} (inr t) = let e = is_new t in let f : c ≡ b = cc in inr f

    far : {c a' i' : ℕ} → (a ≢ a') ⊎ (i ≢ i')
        → S (accepted i' c a') ⊎ New {A = Paxos Batch} (accepted i b a) (accepted i' c a')
        → S (accepted i' c a')
    far f (inl z) = z
    far (inl f) (inr new) = absurd (f refl)
    far (inr f) (inr new) = absurd (f refl)

    hist_votes : (ms : Outbox) (c : ℕ) → a < w.acceptors → S (accept i b a v) → (slot_of w a i).promised ≤ b
        → Posts (outbox_of w) w.sent ms c (OneNew w.sent (paxos (accepted i b a)))
        → Said ms c (accepted i b a)
        → HistOf w.acceptors (delivered j (paxos (accept i b a v)) ∷ h) (Said ms c)
        (set w.slots (a * instances + i) (record { promised = b; ballot = b; batch = v }))
        w.coordinators
    hist_votes ms c l r f p t = record {
      acc =
          slot_ind (λ a' i' z. AccHist (delivered j (paxos (accept i b a v)) ∷ h) (Said ms c) a' i' z.promised) w.slots empty_slot a i _ g (slot_in l g)
          (acc_votes (said_up p) (H.acc a i g) j b v b f (omega arith) (inr refl) (λ c z. voted (said_one p _ z)) f t r)
          (λ a' i' g' d. frame_accept (said_up p) a' i' g' d (λ c z. far d (said_one p _ z)));
      co = cos_kind H j (accept i b a v) (omega arith);
    }

    hist_passes_accept : b < (slot_of w a i).promised
        → HistOf w.acceptors (delivered j (paxos (accept i b a v)) ∷ h) S w.slots w.coordinators
    hist_passes_accept f = record {
      acc =
          slot_cases (λ a' i'. i' < instances → AccHist (delivered j (paxos (accept i b a v)) ∷ h) S a' i' (slot_of w a' i').promised) a i
          (λ _. acc_passes (λ m s. s) (H.acc a i g) j b v (slot_of w a i).promised (omega arith) (omega arith) (inl refl) (λ c z. z) f)
          (λ a' i' d g'. frame_accept (λ m s. s) a' i' g' d (λ c z. z));
      co = cos_kind H j (accept i b a v) (omega arith);
    }

  -- ---- an acceptance

  module _ (j i b a : ℕ) (t : At (outbox_of w) w.sent j (paxos (accepted i b a))) where
    abbrev after : List Event
    after = delivered j (paxos (accepted i b a)) ∷ h

    positive : 0 < b
    positive = accepted_positive s few R I t

    others : (k : ℕ) → owner b ≢ k → CoSays w.acceptors after k (coordinator_of w k)
    others k f =
        co_frame (H.co k) tt
        (λ a y. since_accepted (λ d e. f (ap (λ z. owner z) e ∙ (I.co k).own (rw e at positive))) y)
        (λ i c y. last_delivered y)

    mine : (c : Coordinator) → CoSays w.acceptors after (owner b) c
        → HistOf w.acceptors after S w.slots (set w.coordinators (owner b) c)
    mine c o = record {
      acc = accs_kind H j (accepted i b a) (omega arith) (omega arith);
      co = set_ind (λ k z. CoSays w.acceptors after k z) w.coordinators fresh_coordinator (owner b) c (owner_in s b) o others;
    }

    pass : (i ≡ (coordinator_of w (owner b)).applied → b ≡ (coordinator_of w (owner b)).round.ballot → ⊥)
        → HistOf w.acceptors after S w.slots w.coordinators
    pass f = record {
      acc = accs_kind H j (accepted i b a) (omega arith) (omega arith);
      co =
          each_case (λ k. CoSays w.acceptors after k (coordinator_of w k)) (owner b)
          (co_frame (H.co (owner b)) tt (λ a y. since_accepted f y) (λ i c y. last_delivered y))
          others;
    }

    within : with (coordinator_of w (owner b)).round.acceptances a < 2 ^ w.acceptors
    within = with_lt _ a _ (R.sent t).acceptor (R.cos (owner b)).acceptances

  -- an event aside, and no acceptance is sent
  aside : {ms : Outbox} {c : ℕ} {e : Event} → Aside e
      → ((m : Paxos Batch) → S m → Said ms c m)
      → ((m : Paxos Batch) → Said ms c m → S m)
      → ((k : ℕ) → CoSays w.acceptors (e ∷ h) k (coordinator_of w k))
      → HistOf w.acceptors (e ∷ h) (Said ms c) w.slots w.coordinators
  aside q up dn f = record { acc = accs_aside H q up (λ m _ s. dn m s); co = f }

  direct_message : (j : ℕ) {x : Content} → Mail x → HistOf w.acceptors (delivered j x ∷ h) S w.slots w.coordinators
  direct_message j z = aside (mailed j z) (λ m s. s) (λ m s. s) (cos_direct_message H j z)

  pub hist_move : {w' : World} {h' : List Event} → Move w h w' h' → Hist w' h'
  unfolding learning
  hist_move (asks e k ms c g _ p) =
      aside (asked_for e) (said_up p) (said_direct_message (is_request k e) p) (λ j. co_frame (H.co j) tt (λ a y. since_aside (asked_for e) y) (λ i c y. last_asked y))
    where
      last_asked : {k i b : ℕ} → LastOpened k i b (asked e ∷ h) → LastOpened k i b h
      last_asked (without_messages o y) = y
  hist_move (opens k i b ms c g _ _ e _ _ p) =
      record {
        acc = accs_aside H (opened_by k i b) (said_up p) (λ m d. said_others 0 (λ a. refl) p m (omega arith));
        co =
            set_ind (λ j x. CoSays w.acceptors (opened k i b ∷ h) j x) w.coordinators fresh_coordinator k _ (co_in s g)
            (rw e (co_opens b (H.co k)))
            (λ j d. co_frame (H.co j) (λ f. d (sym f)) (λ a y. since_aside (opened_by k i b) y) (λ i c y. last_other (λ f. d (sym f)) y));
      }
  hist_move (proposes k i b v ms c g _ _ _ _ _ _ _ p) =
      record {
        acc = accs_sent H (said_up p) (λ m d. said_others 2 (λ a. refl) p m (omega arith));
        co = set_ind (λ j x. CoSays w.acceptors h j x) w.coordinators fresh_coordinator k _ (co_in s g) (H.co k) (λ j _. H.co j);
      }
  hist_move (tells k q tx ms c _ _ _ p) = record { acc = accs_sent H (said_up p) (λ m _. said_direct_message (is_tell q tx _) p m); co = H.co }
  hist_move (restores k q ms c _ _ _ p) =
      aside (restored_by k _) (said_up p) (said_direct_message (is_restore q _ _ _ _ _) p)
      (λ j. co_frame (H.co j) tt (λ a y. since_aside (restored_by k _) y) (λ i c y. last_restoring y))
    where
      last_restoring : {j i b m : ℕ} → LastOpened j i b (restoring k m ∷ h) → LastOpened j i b h
      last_restoring (without_messages o y) = y
  hist_move (follows k q tx ms c _ _ _ _ _ p) = record { acc = accs_sent H (said_up p) (λ m _. said_direct_message (is_follow q _ tx _ _) p m); co = H.co }
  hist_move (crashes d) = H
  hist_move (comes_back_lem p t d _ _) =
      aside (came_back p t) (λ m s. s) (λ m s. s) (λ j. co_frame (H.co j) tt (λ a y. since_aside (came_back p t) y) (λ i c y. last_back y))
    where
      last_back : {j i b : ℕ} → LastOpened j i b (back p t ∷ h) → LastOpened j i b h
      last_back (without_messages o y) = y
  hist_move (promises j i b a ms c t g p) = hist_promises j i b a (R.sent t).inst ms c (R.sent t).acceptor g p
  hist_move (passes_prepare j i b a t g) = hist_passes j i b a (R.sent t).inst g
  hist_move (votes j i b a v ms c t g p u) = hist_votes j i b a v (R.sent t).inst ms c (R.sent t).acceptor (said_at t) g p (said_at u)
  hist_move (passes_accept j i b a v t g) = hist_passes_accept j i b a v (R.sent t).inst g
  hist_move (hears j i b a d v d' v' t _ _ _) =
      record {
        acc = accs_kind H j (promise i b a d v) (omega arith) (omega arith);
        co =
            set_ind (λ k x. CoSays w.acceptors (delivered j (paxos (promise i b a d v)) ∷ h) k x) w.coordinators fresh_coordinator (owner b) _ (owner_in s b)
            (cos_kind H j (promise i b a d v) (omega arith) (owner b))
            (λ k _. cos_kind H j (promise i b a d v) (omega arith) k);
      }
  hist_move (passes_promise j i b a d v _) =
      record { acc = accs_kind H j (promise i b a d v) (omega arith) (omega arith); co = cos_kind H j (promise i b a d v) (omega arith) }
  hist_move (counts j i b a t d e f) =
      mine j i b a t _
      (counts' j a (H.co (owner b)) (positive j i b a t) d e
      (λ m. T_not (majority w.acceptors (counting (coordinator_of w (owner b)).round a).acceptances) f
      (majority← w.acceptors _ (within j i b a t) m)))
  hist_move (learns j i b a t d e f) =
      mine j i b a t _ (rw more (learns' j a (H.co (owner b)) (positive j i b a t) d e (majority→ w.acceptors _ (within j i b a t) f)))
    where
      more : min ((coordinator_of w (owner b)).applied + 1) instances ≡ suc (coordinator_of w (owner b)).applied
      more = omega (arith, (R.cos (owner b)).room (rw e at (positive j i b a t)))
  hist_move (passes_accepted j i b a t f) = pass j i b a t (λ d e. f (omega (arith, (R.sent t).acceptor)) d e)
  hist_move (joins j k e t _) =
      record {
        acc = (direct_message j (is_request k e)).acc;
        co =
            set_ind (λ x c. CoSays w.acceptors (delivered j (request k e) ∷ h) x c) w.coordinators fresh_coordinator k _ (co_in s (R.sent t))
            ((direct_message j (is_request k e)).co k)
            (λ x _. (direct_message j (is_request k e)).co x);
      }
  hist_move (passes_request j k e _) = direct_message j (is_request k e)
  hist_move (is_told j p tx o _) = direct_message j (is_tell p tx o)
  hist_move (takes j p t z i r n _ _) = direct_message j (is_restore p t z i r n)
  hist_move (passes_restore j p t z i r n _ _) = direct_message j (is_restore p t z i r n)
  hist_move (takes_follow_lem j p z tx o u _ _) = direct_message j (is_follow p z tx o u)
  hist_move (passes_follow j p z tx o u _ _) = direct_message j (is_follow p z tx o u)
