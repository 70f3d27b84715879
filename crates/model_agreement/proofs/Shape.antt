-- The rows of the world keep their lengths, and the counts stay within them.
use Prim.Native.Nat.{ℕ, ◌+◌, ◌*◌, ◌≤◌, ◌<◌}
use mathlib.Core.Path.{◌≡◌, ◌∙◌}
use mathlib.Core.Bool.{not}
use mathlib.Core.List.{List}
use native.Mathlib.Omega.{arith}
use lib.Dec.{T, nleb→lt}
use lib.ListN.{get_or, length, length-replicate, length-set, length-take, replicate, set}
use lib.Seq.{length-sets}
use Rattle.log_entry.specs.declared.Entry.{Entry}
use Rattle.log_entry.specs.Limits.{process_places, transactions}
use Rattle.log_core.specs.declared.Replay.{Replay}
use Rattle.log_votes.specs.declared.Outcome.TheVariants.{Open}
use Rattle.log_core.specs.Replay.{no_replay}
use Rattle.model_steps.specs.Limits.{coordinators, instances, messages}
use Rattle.model_owners.specs.Owners.{owner}
use Rattle.model_owners.proofs.Owners.{owner_is_coordinator}
use Rattle.model_protocol.specs.declared.AcceptorSlot.{AcceptorSlot}
use Rattle.model_protocol.specs.declared.Coordinator.{Coordinator}
use Rattle.model_protocol.specs.declared.Down.{Down}
use Rattle.model_protocol.specs.declared.Follows.{Follows}
use Rattle.model_protocol.specs.declared.Heard.{Heard}
use Rattle.model_protocol.specs.declared.Process.{Process}
use Rattle.model_protocol.specs.declared.World.{World}
use Rattle.model_protocol.specs.Batch.{Batch, entries_of, no_entry}
use Rattle.model_protocol.specs.Coordinator.{learning, proposal_of}
use Rattle.model_protocol.specs.Limits.{slot_places, queue_places}
use Rattle.model_protocol.specs.Queue.{Queue, is_full, joined, left_by, queue_of, queued, without}
use Rattle.model_protocol.specs.World.{coordinator_of, follows_of, fresh_coordinator, fresh_process, no_followed, no_follows, process_of, started_in}
use Rattle.model_agreement.specs.Content.{Content}
use Rattle.model_agreement.specs.History.{Event}
use Rattle.model_agreement.proofs.Arrays.{set_all}
use Rattle.model_agreement.proofs.Queue.{without_shorter}
use Rattle.model_agreement.proofs.StepEffects.{Move, asks, comes_back_lem, counts, crashes, follows, hears, is_told, joins, learns, opens, passes_accept, passes_accepted, passes_follow, passes_prepare, passes_promise, passes_request, passes_restore, promises, proposes, restores, takes, takes_follow_lem, tells, votes}
use Rattle.model_agreement.proofs.SentMessages.{Outbox, Posts, Roomy, outbox_of, posted}
use Rattle.model_agreement.proofs.ChangedWorld.{with_slot, with_coordinator, with_down, with_followed, with_learned, with_process, with_started, with_taken}

pub record QueueOk (q : Queue) : Type 0 where
  pub places : length q.entries ≡ queue_places
  pub count : q.count ≤ queue_places

pub record Shape (w : World) : Type 0 where
  pub slot_row : length w.slots ≡ slot_places
  pub co_row : length w.coordinators ≡ coordinators
  pub log_row : length w.logs ≡ coordinators
  pub process_row : length w.processes ≡ process_places
  pub restored_row : length w.restored ≡ process_places
  pub follows_row : length w.follows ≡ process_places
  pub room : Roomy (outbox_of w)
  pub sent_most : w.sent ≤ messages
  pub heard : (p : ℕ) → length (process_of w p).heard ≡ transactions
  pub followed : (p : ℕ) → length (follows_of w p).of ≡ transactions
  pub queues : (k : ℕ) → QueueOk (coordinator_of w k).queue

-- a coordinator has a place, and so has the owner of a ballot
pub co_in : {w : World} → Shape w → {k : ℕ} → k < coordinators → k < length w.coordinators
co_in s h = rw s.co_row h

pub owner_in : {w : World} → Shape w → (b : ℕ) → owner b < length w.coordinators
owner_in s b = co_in s (owner_is_coordinator b)

joined_ok : (q : Queue) (e : Entry) → QueueOk q → q.count < queue_places → QueueOk (joined q e)
joined_ok q e o h = record { places = length-set q.entries q.count e ∙ o.places; count = omega arith }

queued_length : (q : Queue) → QueueOk q → length (queued q) ≤ queue_places
queued_length q o = simp length-take (omega (arith, o.count))

left_ok : (q : Queue) (b : Batch) → QueueOk q → QueueOk (left_by q b)
unfolding left_by queue_of
left_ok q b o =
    record {
      places = length-sets (replicate queue_places no_entry) 0 (without (queued q) (entries_of b)) ∙ length-replicate queue_places no_entry;
      count = omega (arith, without_shorter (queued q) (entries_of b), queued_length q o);
    }

-- a process that starts, and the follows beside it
pub none_heard : (t : ℕ) → length (started_in t).heard ≡ transactions
unfolding started_in
none_heard t = let nothing : Heard = record { outcome = Open } in length-replicate transactions nothing

pub none_followed : length no_follows.of ≡ transactions
unfolding no_follows
none_followed = length-replicate transactions no_followed

module _ {w : World} (s : Shape w) where
  -- messages are sent
  more : {ms : Outbox} {c : ℕ} {P : ℕ → Content → Type 0} → Posts (outbox_of w) w.sent ms c P
      → Roomy ms × (c ≤ messages)
  more p = (p.room, p.most)

  -- a coordinator changes
  queues_set : (k : ℕ) (c : Coordinator) → QueueOk c.queue → (j : ℕ)
      → QueueOk (get_or (set w.coordinators k c) j fresh_coordinator).queue
  queues_set k c o = set_all (λ x. QueueOk x.queue) w.coordinators fresh_coordinator k c o s.queues

  heard_set : (p : ℕ) (x : Process) → length x.heard ≡ transactions → (q : ℕ)
      → length (get_or (set w.processes p x) q fresh_process).heard ≡ transactions
  heard_set p x o = set_all (λ y. length y.heard ≡ transactions) w.processes fresh_process p x o s.heard

  -- messages are sent, and a coordinator changes
  co_changes : (k : ℕ) (c : Coordinator) (ms : Outbox) (n : ℕ) → Roomy ms × (n ≤ messages) → QueueOk c.queue
      → Shape (posted (with_coordinator w k c) ms n)
  co_changes k c ms n m q = record {
    slot_row = s.slot_row;
    co_row = length-set w.coordinators k c ∙ s.co_row;
    log_row = s.log_row;
    process_row = s.process_row;
    restored_row = s.restored_row;
    follows_row = s.follows_row;
    room = m.0;
    sent_most = m.1;
    heard = s.heard;
    followed = s.followed;
    queues = queues_set k c q;
  }

  co_learns : (k : ℕ) (c : Coordinator) (b : Batch) → QueueOk c.queue → Shape (with_learned w k c b)
  co_learns k c b q = record {
    slot_row = s.slot_row;
    co_row = length-set w.coordinators k c ∙ s.co_row;
    log_row = length-set w.logs k _ ∙ s.log_row;
    process_row = s.process_row;
    restored_row = s.restored_row;
    follows_row = s.follows_row;
    room = s.room;
    sent_most = s.sent_most;
    heard = s.heard;
    followed = s.followed;
    queues = queues_set k c q;
  }

  -- messages are sent, and a slot changes
  slot_changes : (a i : ℕ) (x : AcceptorSlot) (ms : Outbox) (n : ℕ) → Roomy ms × (n ≤ messages)
      → Shape (posted (with_slot w a i x) ms n)
  slot_changes a i x ms n m = record {
    slot_row = length-set w.slots (a * instances + i) x ∙ s.slot_row;
    co_row = s.co_row;
    log_row = s.log_row;
    process_row = s.process_row;
    restored_row = s.restored_row;
    follows_row = s.follows_row;
    room = m.0;
    sent_most = m.1;
    heard = s.heard;
    followed = s.followed;
    queues = s.queues;
  }

  process_changes : (p : ℕ) (x : Process) → length x.heard ≡ transactions → Shape (with_process w p x)
  process_changes p x o = record {
    slot_row = s.slot_row;
    co_row = s.co_row;
    log_row = s.log_row;
    process_row = length-set w.processes p x ∙ s.process_row;
    restored_row = s.restored_row;
    follows_row = s.follows_row;
    room = s.room;
    sent_most = s.sent_most;
    heard = heard_set p x o;
    followed = s.followed;
    queues = s.queues;
  }

  process_takes : (p : ℕ) (x : Process) (r : Replay) → length x.heard ≡ transactions → Shape (with_taken w p x r)
  process_takes p x r o = record {
    slot_row = s.slot_row;
    co_row = s.co_row;
    log_row = s.log_row;
    process_row = length-set w.processes p x ∙ s.process_row;
    restored_row = length-set w.restored p r ∙ s.restored_row;
    follows_row = s.follows_row;
    room = s.room;
    sent_most = s.sent_most;
    heard = heard_set p x o;
    followed = s.followed;
    queues = s.queues;
  }

  process_follows : (p : ℕ) (x : Process) (fs : Follows) → length x.heard ≡ transactions → length fs.of ≡ transactions
      → Shape (with_followed w p x fs)
  process_follows p x fs o q = record {
    slot_row = s.slot_row;
    co_row = s.co_row;
    log_row = s.log_row;
    process_row = length-set w.processes p x ∙ s.process_row;
    restored_row = s.restored_row;
    follows_row = length-set w.follows p fs ∙ s.follows_row;
    room = s.room;
    sent_most = s.sent_most;
    heard = heard_set p x o;
    followed = set_all (λ y. length y.of ≡ transactions) w.follows no_follows p fs q s.followed;
    queues = s.queues;
  }

  process_starts : (p : ℕ) (x : Process) (d : Down) → length x.heard ≡ transactions → Shape (with_started w p x d)
  process_starts p x d o = record {
    slot_row = s.slot_row;
    co_row = s.co_row;
    log_row = s.log_row;
    process_row = length-set w.processes p x ∙ s.process_row;
    restored_row = length-set w.restored p no_replay ∙ s.restored_row;
    follows_row = length-set w.follows p no_follows ∙ s.follows_row;
    room = s.room;
    sent_most = s.sent_most;
    heard = heard_set p x o;
    followed = set_all (λ y. length y.of ≡ transactions) w.follows no_follows p no_follows none_followed s.followed;
    queues = s.queues;
  }

  -- messages are sent, or parties crash
  only_sent : (d : Down) (ms : Outbox) (n : ℕ) → Roomy ms × (n ≤ messages) → Shape (posted (with_down w d) ms n)
  only_sent d ms n m = record {
    slot_row = s.slot_row;
    co_row = s.co_row;
    log_row = s.log_row;
    process_row = s.process_row;
    restored_row = s.restored_row;
    follows_row = s.follows_row;
    room = m.0;
    sent_most = m.1;
    heard = s.heard;
    followed = s.followed;
    queues = s.queues;
  }

  none_sent : Roomy (outbox_of w) × (w.sent ≤ messages)
  none_sent = (s.room, s.sent_most)

  joins_ok : (k : ℕ) (e : Entry) → T (not (is_full (coordinator_of w k).queue)) → QueueOk (joined (coordinator_of w k).queue e)
  joins_ok k e f = joined_ok _ e (s.queues k) (nleb→lt queue_places (coordinator_of w k).queue.count f)

  pub shape_move : {w' : World} {h h' : List Event} → Move w h w' h' → Shape w'
  unfolding learning
  shape_move (asks e k ms c _ _ p) = only_sent w.down ms c (more p)
  shape_move (opens k i b ms c _ _ _ _ _ _ p) = co_changes k _ ms c (more p) (s.queues k)
  shape_move (proposes k i b v ms c _ _ _ _ _ _ _ _ p) = co_changes k _ ms c (more p) (s.queues k)
  shape_move (tells k q tx ms c _ _ _ p) = only_sent w.down ms c (more p)
  shape_move (restores k q ms c _ _ _ p) = only_sent w.down ms c (more p)
  shape_move (follows k q tx ms c _ _ _ _ _ p) = only_sent w.down ms c (more p)
  shape_move (crashes d) = only_sent d (outbox_of w) w.sent none_sent
  shape_move (comes_back_lem p t d _ _) = process_starts p _ d (none_heard t)
  shape_move (promises j i b a ms c _ _ p) = slot_changes a i _ ms c (more p)
  shape_move (passes_prepare j i b a _ _) = s
  shape_move (votes j i b a v ms c _ _ p _) = slot_changes a i _ ms c (more p)
  shape_move (passes_accept j i b a v _ _) = s
  shape_move (hears j i b a d v d' v' _ _ _ _) = co_changes (owner b) _ _ _ none_sent (s.queues (owner b))
  shape_move (passes_promise j i b a d v _) = s
  shape_move (counts j i b a _ _ _ _) = co_changes (owner b) _ _ _ none_sent (s.queues (owner b))
  shape_move (learns j i b a _ _ _ _) = co_learns (owner b) _ (proposal_of (coordinator_of w (owner b)).round) (left_ok _ _ (s.queues (owner b)))
  shape_move (passes_accepted j i b a _ _) = s
  shape_move (joins j k e _ f) = co_changes k _ _ _ none_sent (joins_ok k e f)
  shape_move (passes_request j k e _) = s
  shape_move (is_told j p tx o _) = process_changes p _ (length-set (process_of w p).heard tx _ ∙ s.heard p)
  shape_move (takes j p t z i r n _ _) = process_takes p _ r (s.heard p)
  shape_move (passes_restore j p t z i r n _ _) = s
  shape_move (takes_follow_lem j p z tx o u _ _) = process_follows p _ _ (s.heard p) (length-set (follows_of w p).of tx _ ∙ s.followed p)
  shape_move (passes_follow j p z tx o u _ _) = s
