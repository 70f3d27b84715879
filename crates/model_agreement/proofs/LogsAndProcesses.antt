-- What was sent and kept beside the ballots: requests, batches and their entries, logs, tells and
-- restores.
use Prim.Native.Nat.{ℕ, suc, ◌+◌, ◌≤◌, ◌<◌, min}
use mathlib.Core.Path.{◌≡◌, refl, sym, ap, subst, ◌∙◌}
use mathlib.Core.Logic.{◌⊎◌, inl, inr, ◌≢◌}
use mathlib.Core.Bool.{Bool, true, false, ◌&&◌, not, cond}
use mathlib.Core.List.{List, [], ◌∷◌, ◌++◌, Memᴰ}
use native.Mathlib.Decide.{dec_le}
use native.Mathlib.Omega.{arith}
use lib.Dec.{T, eqb}
use lib.ListN.{get_or-append, get_or, length, length-append, length-take, set, take}
use lib.Seq.{get_or_at, get_or-set_other, get_or-set_same}
use Rattle.log_entry.specs.declared.Entry.{Entry}
use Rattle.log_entry.specs.Limits.{stores}
use Rattle.log_core.specs.declared.Log.{Log}
use Rattle.log_votes.specs.declared.Outcome.{Outcome}
use Rattle.log_core.specs.declared.Replay.{Replay}
use Rattle.log_core.specs.Enter.{feed}
use Rattle.log_core.specs.Follow.{awaited_of}
use Rattle.log_core.specs.Log.{empty_log, holder_of, outcome_of, turn_of, vote_at}
use Rattle.log_votes.specs.Outcome.{is_commit, is_open}
use Rattle.log_core.specs.Replay.{replay_of}
use Rattle.model_steps.specs.Limits.{coordinators, instances}
use Rattle.log_laws.proofs.Replicated.{holders_length}
use Rattle.model_owners.specs.Owners.{owner}
use Rattle.model_owners.proofs.Owners.{owner_is_coordinator}
use Rattle.model_paxos.specs.Majority.{Majority}
use Rattle.model_paxos.specs.Messages.{Paxos, accept, accepted}
use Rattle.model_paxos.specs.Rules.{Chosen}
use Rattle.model_paxos.proofs.Grow.{Best, New, NewAll, chosen_up, kind, new, new_at}
use Rattle.model_paxos.proofs.Local.{co_count, learns_chosen}
use Rattle.model_paxos.proofs.Sets.{majority→, with_lt}
use Rattle.model_protocol.specs.declared.Coordinator.{Coordinator}
use Rattle.model_protocol.specs.declared.World.{World}
use Rattle.model_protocol.specs.Batch.{Batch, batch_of, entries_of, no_batch, no_entry}
use Rattle.model_protocol.specs.Coordinator.{batch_to_propose, counting, learning, proposal_of}
use Rattle.model_protocol.specs.Limits.{batch_entries, queue_places}
use Rattle.model_protocol.specs.Queue.{Queue, first_batch, left_by, queue_of, queued, without}
use Rattle.model_protocol.specs.Step.{held_store, update_of, voting_store}
use Rattle.model_protocol.specs.World.{coordinator_of, fresh_coordinator, log_of}
use Rattle.model_agreement.specs.Plain.{all_entries, plain_log}
use Rattle.model_agreement.specs.Content.{Content, follow, paxos, request, restore, tell}
use Rattle.model_agreement.specs.History.{Applied, Before, Event, Happened, asked, delivered, earlier, now, restoring}
use Rattle.model_agreement.proofs.Arrays.{set_ind}
use Rattle.model_agreement.proofs.HistoryKept.{Hist}
use Rattle.model_agreement.proofs.BallotInvariant.{Inv, Said, attempt, said_at, said_up}
use Rattle.model_agreement.proofs.Plain.{held_holder, plain_more}
use Rattle.model_agreement.proofs.Queue.{front_of, in_joined, in_take, in_without, without_shorter}
use Rattle.model_agreement.proofs.Range.{Range}
use Rattle.model_agreement.proofs.Shape.{QueueOk, Shape, co_in, owner_in}
use Rattle.model_agreement.proofs.Tests.{neqb→ne}
use Rattle.model_agreement.proofs.StepEffects.{Move, asks, comes_back_lem, counts, crashes, follows, hears, is_told, joins, learns, opens, passes_accept, passes_accepted, passes_follow, passes_prepare, passes_promise, passes_request, passes_restore, promises, proposes, restores, takes, takes_follow_lem, tells, votes}
use Rattle.model_agreement.proofs.SentMessages.{AllNew, At, OneNew, Outbox, Posts, outbox_of}

-- ---- what is said of a message, a queue and a log, by the number n of acceptors, the history h
-- and the sent messages S of the ballots

-- a batch that may be proposed: 1 to 4 entries, each of them asked
pub record Fine (h : List Event) (v : Batch) : Type 0 where
  pub least : 0 < v.count
  pub most : v.count ≤ batch_entries
  pub asked : (e : Entry) → Memᴰ e (entries_of v) → Happened (asked e) h

-- the batches l are those chosen in the instances 0, 1 ..
pub record Front (n : ℕ) (S : Paxos Batch → Type 0) (l : List Batch) : Type 0 where
  pub each : (j : ℕ) → j < length l → (b : ℕ) × Chosen n S j b (get_or l j no_batch)

-- the log is fed the batches chosen in the first p instances
pub record Fed (n : ℕ) (S : Paxos Batch → Type 0) (p : ℕ) (l : Log) : Type 0 where
  pub batches : List Batch
  pub size : length batches ≡ p
  pub front : Front n S batches
  pub is : l ≡ plain_log batches

pub record Told (n : ℕ) (S : Paxos Batch → Type 0) (tx : ℕ) (o : Outcome) : Type 0 where
  pub batches : List Batch
  pub front : Front n S batches
  pub shut : T (not (is_open o))
  pub is : o ≡ outcome_of (plain_log batches) tx

-- the follow of store s on tx
pub record Brought (n : ℕ) (S : Paxos Batch → Type 0) (s tx : ℕ) (o : Outcome) (u : ℕ) : Type 0 where
  pub batches : List Batch
  pub front : Front n S batches
  pub shut : T (not (is_open o))
  pub is : o ≡ outcome_of (plain_log batches) tx
  pub kept : is_commit s (vote_at (plain_log batches) tx s) ≡ true
  pub update : u ≡ update_of (plain_log batches) tx s

-- the restore of number j, which lists the transactions x
pub record Given (n : ℕ) (h : List Event) (S : Paxos Batch → Type 0) (j p t s i : ℕ) (r : Replay) (x : ℕ) : Type 0 where
  pub batches : List Batch
  pub front : Front n S batches
  pub size : length batches ≡ i
  pub rows : r ≡ replay_of (plain_log batches) s
  pub holder : holder_of (plain_log batches) s ≡ p
  pub turn : turn_of (plain_log batches) s ≡ t
  pub running : x ≡ awaited_of (plain_log batches) s
  pub place : s < stores
  pub sender : ℕ
  pub then : List Event
  pub sent : Before (restoring sender j) then h
  pub position : Applied n sender i then

-- the message of number j
pub data SentFact (n : ℕ) (h : List Event) (S : Paxos Batch → Type 0) (j : ℕ) : Content → Type 0 where
  no_proposal : {x : Paxos Batch} → kind x ≢ 2 → SentFact n h S j (paxos x)
  proposal : {i b a : ℕ} {v : Batch} → Fine h v → SentFact n h S j (paxos (accept i b a v))
  requested : {k : ℕ} {e : Entry} → Happened (asked e) h → SentFact n h S j (request k e)
  told : {p tx : ℕ} {o : Outcome} → Told n S tx o → SentFact n h S j (tell p tx o)
  given : {p t s i x : ℕ} {r : Replay} → Given n h S j p t s i r x → SentFact n h S j (restore p t s i r x)
  brought : {p s tx u : ℕ} {o : Outcome} → Brought n S s tx o u → SentFact n h S j (follow p s tx o u)

module _ {n : ℕ} {h : List Event} {S : Paxos Batch → Type 0} {j : ℕ} where
  pub fine_of : {i b a : ℕ} {v : Batch} → SentFact n h S j (paxos (accept i b a v)) → Fine h v
  fine_of (no_proposal d) = absurd (d refl)
  fine_of (proposal f) = f

  asked_of : {k : ℕ} {e : Entry} → SentFact n h S j (request k e) → Happened (asked e) h
  asked_of (requested f) = f

  pub told_of : {p tx : ℕ} {o : Outcome} → SentFact n h S j (tell p tx o) → Told n S tx o
  told_of (told f) = f

  pub given_of : {p t s i x : ℕ} {r : Replay} → SentFact n h S j (restore p t s i r x) → Given n h S j p t s i r x
  given_of (given f) = f

  pub brought_of : {p s tx u : ℕ} {o : Outcome} → SentFact n h S j (follow p s tx o u) → Brought n S s tx o u
  brought_of (brought f) = f

pub record CoFact (n : ℕ) (h : List Event) (S : Paxos Batch → Type 0) (c : Coordinator) (l : Log) : Type 0 where
  pub fed : Fed n S c.applied l
  pub queue : (e : Entry) → Memᴰ e (queued c.queue) → Happened (asked e) h

pub record RestOf (n : ℕ) (h : List Event) (ms : Outbox) (k : ℕ) (coords : List Coordinator) (logs : List Log) : Type 0 where
  pub sent : {j : ℕ} {x : Content} → At ms k j x → SentFact n h (Said ms k) j x
  pub cos : (i : ℕ) → CoFact n h (Said ms k) (get_or coords i fresh_coordinator) (get_or logs i empty_log)

abbrev pub Rest : World → List Event → Type 0
Rest w h = RestOf w.acceptors h (outbox_of w) w.sent w.coordinators w.logs

-- ---- a longer history, and more messages

-- h' is h, or h with one event more
pub data Later (h : List Event) : List Event → Type 0 where
  same : Later h h
  more : (e : Event) → Later h (e ∷ h)

before_up : {e : Event} {t h h' : List Event} → Later h h' → Before e t h → Before e t h'
before_up same b = b
before_up (more e) b = earlier b

asked_up : {e : Event} {h h' : List Event} → Later h h' → Happened e h → Happened e h'
asked_up l t = (t.0, before_up l t.1)

module _ {n : ℕ} {S S' : Paxos Batch → Type 0} (up : (m : Paxos Batch) → S m → S' m) where
  front_up : {l : List Batch} → Front n S l → Front n S' l
  front_up f = record { each = λ j g. let t = f.each j g in (t.0, chosen_up up t.1) }

  fed_up : {p : ℕ} {l : Log} → Fed n S p l → Fed n S' p l
  fed_up f = record { batches = f.batches; size = f.size; front = front_up f.front; is = f.is }

  told_up : {tx : ℕ} {o : Outcome} → Told n S tx o → Told n S' tx o
  told_up t = record { batches = t.batches; front = front_up t.front; shut = t.shut; is = t.is }

  brought_up : {s tx u : ℕ} {o : Outcome} → Brought n S s tx o u → Brought n S' s tx o u
  brought_up t =
      record { batches = t.batches; front = front_up t.front; shut = t.shut; is = t.is; kept = t.kept; update = t.update }

  module _ {h h' : List Event} (l : Later h h') where
    given_up : {j p t s i x : ℕ} {r : Replay} → Given n h S j p t s i r x → Given n h' S' j p t s i r x
    given_up g = record {
      batches = g.batches;
      front = front_up g.front;
      size = g.size;
      rows = g.rows;
      holder = g.holder;
      turn = g.turn;
      running = g.running;
      place = g.place;
      sender = g.sender;
      then = g.then;
      sent = before_up l g.sent;
      position = g.position;
    }

    co_up : {c : Coordinator} {x : Log} → CoFact n h S c x → CoFact n h' S' c x
    co_up o = record { fed = fed_up o.fed; queue = λ e t. asked_up l (o.queue e t) }

fine_up : {h h' : List Event} {v : Batch} → Later h h' → Fine h v → Fine h' v
fine_up l f = record { least = f.least; most = f.most; asked = λ e t. asked_up l (f.asked e t) }

fact_up : {n j : ℕ} {S S' : Paxos Batch → Type 0} {h h' : List Event} {x : Content} → ((m : Paxos Batch) → S m → S' m) → Later h h'
    → SentFact n h S j x → SentFact n h' S' j x
fact_up up l (no_proposal d) = no_proposal d
fact_up up l (proposal f) = proposal (fine_up l f)
fact_up up l (requested f) = requested (asked_up l f)
fact_up up l (told f) = told (told_up up f)
fact_up up l (given f) = given (given_up up l f)
fact_up up l (brought f) = brought (brought_up up f)

module _ {n : ℕ} {h h' : List Event} {ms : Outbox} {k : ℕ} {cos : List Coordinator} {logs : List Log} (O : RestOf n h ms k cos logs) (l : Later h h') where
  -- nothing is sent
  sent_same : {j : ℕ} {x : Content} → At ms k j x → SentFact n h' (Said ms k) j x
  sent_same {j} {x} a = fact_up (λ m s. s) l (O.sent a)

  cos_same : (i : ℕ) → CoFact n h' (Said ms k) (get_or cos i fresh_coordinator) (get_or logs i empty_log)
  cos_same i = co_up (λ m s. s) l (O.cos i)

  module _ {ms' : Outbox} {k' : ℕ} {P : ℕ → Content → Type 0} (p : Posts ms k ms' k' P) where
    sent_more : ((j : ℕ) (x : Content) → P j x → SentFact n h' (Said ms' k') j x) → {j : ℕ} {x : Content}
        → At ms' k' j x → SentFact n h' (Said ms' k') j x
    sent_more f {j} {x} a = go (p.splits a)
      where
        go : At ms k j x ⊎ P j x → SentFact n h' (Said ms' k') j x
        go (inl t) = fact_up (said_up p) l (O.sent t)
        go (inr t) = f j x t

    cos_more : (i : ℕ) → CoFact n h' (Said ms' k') (get_or cos i fresh_coordinator) (get_or logs i empty_log)
    cos_more i = co_up (said_up p) l (O.cos i)

    rest_more : ((j : ℕ) (x : Content) → P j x → SentFact n h' (Said ms' k') j x) → RestOf n h' ms' k' cos logs
    rest_more f = record { sent = sent_more f; cos = cos_more }

  rest_same : RestOf n h' ms k cos logs
  rest_same = record { sent = sent_same; cos = cos_same }

-- the one that is new
fact_one : {n k : ℕ} {h : List Event} {S : Paxos Batch → Type 0} {y : Content} → SentFact n h S k y → (j : ℕ) (x : Content) → OneNew k y j x
    → SentFact n h S j x
fact_one {n} {k} {h} {S} {y} f j x t = subst (λ i. SentFact n h S i x) (sym t.0) (go f t.1)
  where
    go : {x : Content} → SentFact n h S k y → New y x → SentFact n h S k x
    go f new = f

fact_all : {n k : ℕ} {h : List Event} {S : Paxos Batch → Type 0} {f : ℕ → Content}
    → ((j a : ℕ) → SentFact n h S j (f a)) → (j : ℕ) (x : Content) → AllNew k f j x
    → SentFact n h S j x
fact_all {n} {k} {h} {S} {f} g j x t = go t
  where
    go : {x : Content} → NewAll k f x → SentFact n h S j x
    go (new_at a l) = g j a

-- ---- batches

first_fine : {h : List Event} (q : Queue) → QueueOk q → 0 < q.count
    → ((e : Entry) → Memᴰ e (queued q) → Happened (asked e) h) → Fine h (first_batch q)
unfolding first_batch batch_of
first_fine {h} q o g f =
    record {
      least = omega (arith, size);
      most = omega (arith, size);
      asked = λ e t. f e (in_take batch_entries (queued q) (subst (λ l. Memᴰ e l) (front_of batch_entries no_entry es (omega (arith, size))) t));
    }
  where
    es : List Entry
    es = take batch_entries (queued q)

    size : length es ≡ min batch_entries (min q.count queue_places)
    size =
        length-take batch_entries (queued q) ∙ ap (λ x. min batch_entries x) (length-take q.count q.entries ∙ ap (λ x. min q.count x) o.places)

module _ {w : World} {h : List Event} (s : Shape w) (O : Rest w h) (I : Inv w) where
  proposal_fine : (k : ℕ)
      → T (not (eqb (coordinator_of w k).round.accepted 0 && eqb (coordinator_of w k).queue.count 0))
      → Fine h (batch_to_propose (coordinator_of w k))
  unfolding batch_to_propose
  proposal_fine k t = go (eqb c.round.accepted 0) (neqb→ne c.round.accepted 0) t
    where
      c : Coordinator
      c = coordinator_of w k

      some : (n : ℕ) → T (not (eqb n 0)) → 0 < n
      some n t = omega (arith, neqb→ne n 0 t)

      kept : Best (Said (outbox_of w) w.sent) c.applied (attempt c.round) → c.round.accepted ≢ 0 → Fine h c.round.batch
      kept (inl e) d = absurd (d e)
      kept (inr t) d = fine_of (O.sent t.1.1.sent.at)

      go : (b : Bool) → (T (not b) → c.round.accepted ≢ 0) → T (not (b && eqb c.queue.count 0))
          → Fine h (cond b (first_batch c.queue) c.round.batch)
      go true f t = first_fine c.queue (s.queues k) (some c.queue.count t) (O.cos k).queue
      go false f t = kept (I.co k).best (f tt)

-- ---- logs

-- one instance more is learned
fed_more : {n : ℕ} {S : Paxos Batch → Type 0} {p : ℕ} {l : Log} (b : ℕ) (v : Batch) → Fed n S p l
    → Chosen n S p b v → Fed n S (suc p) (feed l (entries_of v))
fed_more {n} {S} {p} {l} b v f c =
    record {
      batches = f.batches ++ (v ∷ []);
      size = simp length-append (omega (arith, f.size));
      front = record { each = λ j g. each j (dec_le (suc j) p) (rw size' at g) };
      is = ap (λ x. feed x (entries_of v)) f.is ∙ sym (plain_more f.batches v);
    }
  where
    size' : length (f.batches ++ (v ∷ [])) ≡ suc p
    size' = simp length-append (omega (arith, f.size))

    each : (j : ℕ) → Dec (j < p) → j < suc p → (d : ℕ) × Chosen n S j d (get_or (f.batches ++ (v ∷ [])) j no_batch)
    each j (yes h) g =
        let t = f.front.each j (omega (arith, f.size)) in
        (t.0, rw (get_or-append f.batches (v ∷ []) no_batch j (omega (arith, f.size))) t.1)
    each j (no h) g = let e : j ≡ p = omega arith in (b, rw (e, get_or_at f.batches v [] no_batch p f.size) c)

in_left : {e : Entry} (q : Queue) (b : Batch) → QueueOk q → Memᴰ e (queued (left_by q b)) → Memᴰ e (queued q)
unfolding left_by queue_of
in_left {e} q b o t =
    in_without (queued q) (entries_of b)
    (subst (λ l. Memᴰ e l)
    (front_of queue_places no_entry (without (queued q) (entries_of b)) (omega (arith, without_shorter (queued q) (entries_of b), size)))
    t)
  where
    size : length (queued q) ≤ queue_places
    size = simp length-take (omega (arith, o.count))

-- a store that a follow names has a kept commit vote
voted : (l : Log) (tx s : ℕ) → cond (is_commit s (vote_at l tx s)) s stores < stores
    → is_commit (cond (is_commit s (vote_at l tx s)) s stores) (vote_at l tx (cond (is_commit s (vote_at l tx s)) s stores)) ≡ true
voted l tx s = go (is_commit s (vote_at l tx s)) refl
  where
    go : (b : Bool) → is_commit s (vote_at l tx s) ≡ b → cond b s stores < stores → is_commit (cond b s stores) (vote_at l tx (cond b s stores)) ≡ true
    go true e h = e
    go false e h = absurd (omega arith)

row_length : (bs : List Batch) (l : Log) → l ≡ plain_log bs → length l.holders ≡ stores
unfolding plain_log
row_length bs l e = ap (λ x. length x.holders) e ∙ holders_length (all_entries bs)

-- ---- the moves

module _ {w : World} {h : List Event} (s : Shape w) (R : Range w) (I : Inv w) (H : Hist w h) (O : Rest w h) where
  abbrev S : Paxos Batch → Type 0
  S = Said (outbox_of w) w.sent

  co_set : {h' : List Event} {ms : Outbox} {c : ℕ} (k : ℕ) (x : Coordinator) → k < length w.coordinators
      → CoFact w.acceptors h' (Said ms c) x (log_of w k)
      → ((i : ℕ) → CoFact w.acceptors h' (Said ms c) (coordinator_of w i) (log_of w i))
      → (i : ℕ) → CoFact w.acceptors h' (Said ms c) (get_or (set w.coordinators k x) i fresh_coordinator) (log_of w i)
  co_set {h'} {ms} {c} k x g o f =
      set_ind (λ i y. CoFact w.acceptors h' (Said ms c) y (log_of w i)) w.coordinators fresh_coordinator k x g o (λ i _. f i)

  -- a coordinator and its log change
  both_set : {h' : List Event} (k : ℕ) (x : Coordinator) (l : Log) → k < coordinators
      → CoFact w.acceptors h' S x l
      → ((i : ℕ) → CoFact w.acceptors h' S (coordinator_of w i) (log_of w i))
      → (i : ℕ) → CoFact w.acceptors h' S (get_or (set w.coordinators k x) i fresh_coordinator) (get_or (set w.logs k l) i empty_log)
  both_set {h'} k x l g o f =
      set_ind (λ i y. CoFact w.acceptors h' S y (get_or (set w.logs k l) i empty_log)) w.coordinators fresh_coordinator k x (co_in s g)
      (subst (λ y. CoFact w.acceptors h' S x y) (sym (get_or-set_same w.logs k l empty_log (rw s.log_row g))) o)
      (λ i e. subst (λ y. CoFact w.acceptors h' S (coordinator_of w i) y) (sym (get_or-set_other w.logs k i l empty_log (λ q. e (sym q)))) (f i))

  learned_fact : {h' : List Event} (b a : ℕ) → Later h h'
      → S (accepted (coordinator_of w (owner b)).applied (coordinator_of w (owner b)).round.ballot a)
      → Majority w.acceptors (counting (coordinator_of w (owner b)).round a).acceptances
      → CoFact w.acceptors h' S (learning (coordinator_of w (owner b))) (feed (log_of w (owner b)) (entries_of (proposal_of (coordinator_of w (owner b)).round)))
  unfolding learning
  learned_fact b a l r q =
      record {
        fed = rw e (fed_more _ _ (O.cos (owner b)).fed (learns_chosen (co_count (I.co (owner b)) a r) I.core q));
        queue = λ x t. asked_up l ((O.cos (owner b)).queue x (in_left c.queue (proposal_of c.round) (s.queues (owner b)) t));
      }
    where
      c : Coordinator
      c = coordinator_of w (owner b)

      e : min (c.applied + 1) instances ≡ suc c.applied
      e = omega (arith, (I.co (owner b)).room (I.core.positive (I.core.asked r).1))

  applied_now : (k : ℕ) → Applied w.acceptors k (coordinator_of w k).applied h
  applied_now k = record { learned = (H.co k).learnt; only = (H.co k).counted }

  pub rest_move : {w' : World} {h' : List Event} → Move w h w' h' → Rest w' h'
  rest_move (asks e k ms c g _ p) = rest_more O (more _) p (fact_one (requested (h, now)))
  rest_move (opens k i b ms c g _ _ _ _ _ p) =
      record {
        sent = sent_more O (more _) p (fact_all (λ j a. no_proposal (omega arith)));
        cos = co_set k _ (co_in s g) (let o = cos_more O (more _) p k in record { fed = o.fed; queue = o.queue }) (cos_more O (more _) p);
      }
  rest_move (proposes k i b v ms c g _ _ _ _ _ t e p) =
      record {
        sent = sent_more O same p (fact_all (λ j a. proposal (rw e (proposal_fine s O I k t))));
        cos = co_set k _ (co_in s g) (let o = cos_more O same p k in record { fed = o.fed; queue = o.queue }) (cos_more O same p);
      }
  rest_move (tells k q tx ms c _ _ z p) = rest_more O same p (fact_one (told (told_up (said_up p) said)))
    where
      said : Told w.acceptors S tx (outcome_of (log_of w k) tx)
      said =
          let f = (O.cos k).fed in
          record { batches = f.batches; front = f.front; shut = z; is = ap (λ l. outcome_of l tx) f.is }
  rest_move (restores k q ms c u _ z p) = rest_more O (more _) p (fact_one (given gave))
    where
      l : Log
      l = log_of w k

      gave : Given w.acceptors (restoring k w.sent ∷ h) (Said ms c) w.sent q (turn_of l (held_store l q)) (held_store l q) (coordinator_of w k).applied (replay_of l (held_store l q)) (awaited_of l (held_store l q))
      gave =
          let f = (O.cos k).fed in
          record {
            batches = f.batches;
            front = front_up (said_up p) f.front;
            size = f.size;
            rows = ap (λ x. replay_of x (held_store l q)) f.is;
            holder = ap (λ x. holder_of x (held_store l q)) (sym f.is) ∙ held_holder l q (subst (λ n. held_store l q < n) (sym (row_length f.batches l f.is)) z);
            turn = ap (λ x. turn_of x (held_store l q)) (sym f.is);
            running = ap (λ x. awaited_of x (held_store l q)) f.is;
            place = z;
            sender = k;
            then = h;
            sent = now;
            position = applied_now k;
          }
  rest_move (follows k q tx ms c _ _ _ z y p) = rest_more O same p (fact_one (brought (brought_up (said_up p) brings)))
    where
      l : Log
      l = log_of w k

      brings : Brought w.acceptors S (voting_store l q tx) tx (outcome_of l tx) (update_of l tx (voting_store l q tx))
      brings =
          let f = (O.cos k).fed in
          record {
            batches = f.batches;
            front = f.front;
            shut = z;
            is = ap (λ x. outcome_of x tx) f.is;
            kept = ap (λ x. is_commit (voting_store l q tx) (vote_at x tx (voting_store l q tx))) (sym f.is) ∙ voted l tx (held_store l q) y;
            update = ap (λ x. update_of x tx (voting_store l q tx)) f.is;
          }
  rest_move (crashes d) = O
  rest_move (comes_back_lem p t d _ _) = rest_same O (more _)
  rest_move (promises j i b a ms c t g p) = rest_more O (more _) p (fact_one (no_proposal (omega arith)))
  rest_move (passes_prepare j i b a _ _) = rest_same O (more _)
  rest_move (votes j i b a v ms c t g p _) = rest_more O (more _) p (fact_one (no_proposal (omega arith)))
  rest_move (passes_accept j i b a v _ _) = rest_same O (more _)
  rest_move (hears j i b a d v d' v' t _ _ _) =
      record {
        sent = sent_same O (more _);
        cos = co_set _ _ (owner_in s b) (let o = cos_same O (more _) (owner b) in record { fed = o.fed; queue = o.queue }) (cos_same O (more _));
      }
  rest_move (passes_promise j i b a d v _) = rest_same O (more _)
  rest_move (counts j i b a t _ _ _) =
      record {
        sent = sent_same O (more _);
        cos = co_set _ _ (owner_in s b) (let o = cos_same O (more _) (owner b) in record { fed = o.fed; queue = o.queue }) (cos_same O (more _));
      }
  rest_move (learns j i b a t e f q) =
      record {
        sent = sent_same O (more _);
        cos =
            both_set (owner b) _ _ (owner_is_coordinator b)
            (learned_fact b a (more _) (rw (f, e) at (said_at t))
            (majority→ w.acceptors _ (with_lt _ a _ (R.sent t).acceptor (R.cos (owner b)).acceptances) q))
            (cos_same O (more _));
      }
  rest_move (passes_accepted j i b a _ _) = rest_same O (more _)
  rest_move (joins j k e t _) =
      record {
        sent = sent_same O (more _);
        cos =
            co_set k _ (co_in s (R.sent t))
            (record {
              fed = (O.cos k).fed;
              queue = λ x z. joins_too x (in_joined (coordinator_of w k).queue e z);
            })
            (cos_same O (more _));
      }
    where
      joins_too : (x : Entry) → Memᴰ x (queued (coordinator_of w k).queue) ⊎ (x ≡ e)
          → Happened (asked x) (delivered j (request k e) ∷ h)
      joins_too x (inl z) = asked_up (more _) ((O.cos k).queue x z)
      joins_too x (inr d) = asked_up (more _) (rw d (asked_of (O.sent t)))
  rest_move (passes_request j k e _) = rest_same O (more _)
  rest_move (is_told j p tx o _) = rest_same O (more _)
  rest_move (takes j p t z i r x _ _) = rest_same O (more _)
  rest_move (passes_restore j p t z i r x _ _) = rest_same O (more _)
  rest_move (takes_follow_lem j p z tx o u _ _) = rest_same O (more _)
  rest_move (passes_follow j p z tx o u _ _) = rest_same O (more _)
