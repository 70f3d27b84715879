-- The step as a relation: its tests are gone through once, here, and every invariant goes by these
-- cases.
use Prim.Native.Nat.{ℕ, ◌+◌, ◌*◌, ◌-◌, ◌%◌, ◌≤◌, ◌<◌}
use mathlib.Core.Path.{◌≡◌, refl, sym, subst, ◌∙◌}
use mathlib.Core.Logic.{◌⊎◌, inl, inr}
use mathlib.Core.Bool.{Bool, true, false, ◌&&◌, ◌||◌, not, cond}
use mathlib.Core.List.{List, ◌∷◌}
use native.Mathlib.Nat.{mod-eq_of_lt}
use native.Mathlib.Omega.{arith}
use lib.ListN.{set}
use Rattle.std.proofs.Common.{is_ok}
use lib.Dec.{T, T_not, eqb, eqb→eq, eqb_refl, leb, leb→le, ltb, ltb→lt, nleb→lt, nltb→le, lt→ltb}
use Rattle.log_entry.specs.declared.Entry.{Entry}
use Rattle.log_entry.specs.Entry.{no_process, no_turn, outside}
use Rattle.log_entry.proofs.InsideLaws.{inside_process}
use Rattle.log_entry.specs.Limits.{process_places, processes, stores, transactions}
use Rattle.log_entry.specs.Refusal.{check, outside_limits}
use Rattle.log_votes.specs.declared.Outcome.{Outcome}
use Rattle.log_core.specs.declared.Replay.{Replay}
use Rattle.log_votes.specs.Outcome.{is_open}
use Rattle.log_core.specs.Follow.{awaited_of}
use Rattle.log_core.specs.Log.{outcome_of, turn_of}
use Rattle.log_core.specs.Replay.{replay_of}
use Rattle.model_steps.specs.declared.Role.{Role}
use Rattle.model_steps.specs.declared.Step.{Step}
use Rattle.model_steps.specs.declared.Step.TheVariants.{Setup, Request, Open, Propose, Deliver, Tell, Restore, Follow, Crash, Back}
use Rattle.model_steps.specs.Limits.{ballots, coordinators, instances, messages, no_ballot, no_coordinator, outside_step, most_acceptors}
use Rattle.model_owners.specs.Owners.{owner}
use Rattle.model_paxos.specs.Majority.{majority}
use Rattle.model_paxos.specs.Messages.{accept, accepted, prepare, promise}
use Rattle.model_protocol.specs.Batch.{Batch}
use Rattle.model_protocol.specs.declared.AcceptorSlot.{AcceptorSlot}
use Rattle.model_protocol.specs.declared.Change.{Change}
use Rattle.model_protocol.specs.declared.Coordinator.{Coordinator}
use Rattle.model_protocol.specs.declared.Down.{Down}
use Rattle.model_protocol.specs.Kind.{Kind}
use Rattle.model_protocol.specs.Kind as kind
use Rattle.model_protocol.specs.declared.Message.{Message}
use Rattle.model_protocol.specs.declared.Parts.{Parts}
use Rattle.model_protocol.specs.declared.Places.{Places}
use Rattle.model_protocol.specs.declared.Round.{Round}
use Rattle.model_protocol.specs.declared.World.{World}
use Rattle.model_protocol.specs.Acceptor as acceptor
use Rattle.model_protocol.specs.Acceptor.{accepting, promising}
use Rattle.model_protocol.specs.Coordinator.{batch_to_propose, counting, hearing, is_current, is_heard, is_proposed, learning, promise_heard, proposal_of, proposing, with_queue, with_round}
use Rattle.model_protocol.specs.Change.{coordinator_now, done}
use Rattle.model_protocol.specs.Deliver.{delivery_change, no_place_for}
use Rattle.model_protocol.specs.Limits.{slot_places}
use Rattle.model_protocol.specs.Message.{accept_to, accepted_from, follow_to, prepare_to, promise_from, request_to, restore_to, said_accepted, said_acceptor, said_ballot, said_batch, said_entry, said_inst, said_kind, said_outcome, said_position, said_running, said_store, said_to, said_turn, said_tx, said_update, tell_to}
use Rattle.model_protocol.specs.Places.{delivery_places, places_of}
use Rattle.model_protocol.specs.Process.{following, hearing_outcome, taking, takes_follow, takes_restore}
use Rattle.model_protocol.specs.Queue.{Queue, is_full, is_in, joined, joining, queued}
use Rattle.model_protocol.specs.Send.{lacks_numbers}
use Rattle.model_protocol.specs.Step.{acceptors_counted, cannot_open, cannot_propose, changed, change_of, held_store, message_for, message_in, parts_at, parts_of, places_in, replay_in, step_checks, step_of, step_refusal, other_turn, update_of, voter_not_holder, voting_store}
use Rattle.model_protocol.specs.World.{slot_of, coordinator_of, crashed, follows_of, log_of, message_of, new_round, process_of, replay_with, started_in, up_again}
use Rattle.model_agreement.specs.Bounds.{InRange}
use Rattle.model_agreement.specs.Content.{Content, content_as, follow, paxos, request, restore, tell}
use Rattle.model_agreement.specs.History.{Event, asked, back, delivered, note, noted, opened, restoring, setup}
use Rattle.model_agreement.proofs.Tests.{Passed, Positive, both, is_false, is_true, neither, neqb→ne, none_of_five, none_of_three, not_not, not_second, passed}
use Rattle.model_agreement.proofs.ChangedWorld.{accepts_sent, acceptors_changed, slot_answers, slot_at, coordinator_changed, coordinator_learns, down_changed, nothing, only_sends, prepares_sent, process_changed, process_follows, process_starts, process_takes, restore_sent, with_acceptors, with_slot, with_coordinator, with_down, with_followed, with_learned, with_process, with_started, with_taken}
use Rattle.model_agreement.proofs.SentMessages.{AllNew, At, OneNew, Outbox, Posts, Roomy, at_new, outbox_of, posted, posts_all, posts_both, posts_one, send_posts}

-- the accepted pair that a round keeps after a promise with the pair (d, v)
pub data Higher (r : Round) (d : ℕ) (v : Batch) : ℕ → Batch → Type 0 where
  theirs : r.accepted < d → Higher r d v d v
  ours : d ≤ r.accepted → Higher r d v r.accepted r.batch

-- a step after setup that was answered 0
pub data Move (w : World) (h : List Event) : World → List Event → Type 0 where
  asks : (e : Entry) (k : ℕ) (ms : Outbox) (c : ℕ) → k < coordinators
      → (process_of w e.process).turn ≡ e.turn
      → Posts (outbox_of w) w.sent ms c (OneNew w.sent (request k e))
      → Move w h (posted w ms c) (asked e ∷ h)
  opens : (k i b : ℕ) (ms : Outbox) (c : ℕ) → k < coordinators → i < instances → b ≤ ballots
      → i ≡ (coordinator_of w k).applied
      → owner b ≡ k
      → (coordinator_of w k).round.ballot < b
      → Posts (outbox_of w) w.sent ms c (AllNew w.acceptors (λ a. paxos (prepare i b a)))
      → Move w h (posted (with_coordinator w k (with_round (coordinator_of w k) (new_round b))) ms c) (opened k i b ∷ h)
  proposes : (k i b : ℕ) (v : Batch) (ms : Outbox) (c : ℕ) → k < coordinators
      → i ≡ (coordinator_of w k).applied
      → b ≡ (coordinator_of w k).round.ballot
      → 0 < b
      → is_proposed (coordinator_of w k).round ≡ false
      → T (majority w.acceptors (coordinator_of w k).round.promises)
      → T (not (eqb (coordinator_of w k).round.accepted 0 && eqb (coordinator_of w k).queue.count 0))
      → v ≡ batch_to_propose (coordinator_of w k)
      → Posts (outbox_of w) w.sent ms c (AllNew w.acceptors (λ a. paxos (accept i b a v)))
      → Move w h (posted (with_coordinator w k (with_round (coordinator_of w k) (proposing (coordinator_of w k).round v))) ms c) h
  tells : (k p tx : ℕ) (ms : Outbox) (c : ℕ) → p ≤ processes → tx < transactions
      → T (not (is_open (outcome_of (log_of w k) tx)))
      → Posts (outbox_of w) w.sent ms c (OneNew w.sent (tell p tx (outcome_of (log_of w k) tx)))
      → Move w h (posted w ms c) h
  restores : (k p : ℕ) (ms : Outbox) (c : ℕ) → 0 < p → p ≤ processes
      → held_store (log_of w k) p < stores
      → Posts (outbox_of w) w.sent ms c
      (OneNew w.sent
      (restore p (turn_of (log_of w k) (held_store (log_of w k) p)) (held_store (log_of w k) p) (coordinator_of w k).applied
      (replay_of (log_of w k) (held_store (log_of w k) p))
      (awaited_of (log_of w k) (held_store (log_of w k) p))))
      → Move w h (posted w ms c) (restoring k w.sent ∷ h)
  follows : (k p tx : ℕ) (ms : Outbox) (c : ℕ) → 0 < p → p ≤ processes → tx < transactions
      → T (not (is_open (outcome_of (log_of w k) tx)))
      → voting_store (log_of w k) p tx < stores
      → Posts (outbox_of w) w.sent ms c
      (OneNew w.sent
      (follow p (voting_store (log_of w k) p tx) tx (outcome_of (log_of w k) tx) (update_of (log_of w k) tx (voting_store (log_of w k) p tx))))
      → Move w h (posted w ms c) h
  crashes : (d : Down) → Move w h (with_down w d) h
  comes_back_lem : (p t : ℕ) (d : Down) → p ≤ processes
      → (process_of w p).turn < t
      → Move w h (with_started w p (started_in t) d) (back p t ∷ h)
  -- a message is delivered to an acceptor
  promises : (j i b a : ℕ) (ms : Outbox) (c : ℕ) → At (outbox_of w) w.sent j (paxos (prepare i b a))
      → (slot_of w a i).promised < b
      → Posts (outbox_of w) w.sent ms c
      (OneNew w.sent (paxos (promise i b a (slot_of w a i).ballot (slot_of w a i).batch)))
      → Move w h (posted (with_slot w a i (promising (slot_of w a i) b)) ms c) (delivered j (paxos (prepare i b a)) ∷ h)
  passes_prepare : (j i b a : ℕ) → At (outbox_of w) w.sent j (paxos (prepare i b a))
      → b ≤ (slot_of w a i).promised
      → Move w h w (delivered j (paxos (prepare i b a)) ∷ h)
  votes : (j i b a : ℕ) (v : Batch) (ms : Outbox) (c : ℕ) → At (outbox_of w) w.sent j (paxos (accept i b a v))
      → (slot_of w a i).promised ≤ b
      → Posts (outbox_of w) w.sent ms c (OneNew w.sent (paxos (accepted i b a)))
      → At ms c w.sent (paxos (accepted i b a))
      → Move w h (posted (with_slot w a i (accepting b v)) ms c) (delivered j (paxos (accept i b a v)) ∷ h)
  passes_accept : (j i b a : ℕ) (v : Batch) → At (outbox_of w) w.sent j (paxos (accept i b a v))
      → b < (slot_of w a i).promised
      → Move w h w (delivered j (paxos (accept i b a v)) ∷ h)
  -- to a coordinator
  hears : (j i b a d : ℕ) (v : Batch) (d' : ℕ) (v' : Batch) → At (outbox_of w) w.sent j (paxos (promise i b a d v))
      → i ≡ (coordinator_of w (owner b)).applied
      → b ≡ (coordinator_of w (owner b)).round.ballot
      → Higher (coordinator_of w (owner b)).round d v d' v'
      → Move w h
      (with_coordinator w (owner b) (with_round (coordinator_of w (owner b)) (hearing (coordinator_of w (owner b)).round a d' v')))
      (delivered j (paxos (promise i b a d v)) ∷ h)
  passes_promise : (j i b a d : ℕ) (v : Batch) → At (outbox_of w) w.sent j (paxos (promise i b a d v))
      → Move w h w (delivered j (paxos (promise i b a d v)) ∷ h)
  counts : (j i b a : ℕ) → At (outbox_of w) w.sent j (paxos (accepted i b a))
      → i ≡ (coordinator_of w (owner b)).applied
      → b ≡ (coordinator_of w (owner b)).round.ballot
      → T (not (majority w.acceptors (counting (coordinator_of w (owner b)).round a).acceptances))
      → Move w h
      (with_coordinator w (owner b) (with_round (coordinator_of w (owner b)) (counting (coordinator_of w (owner b)).round a)))
      (delivered j (paxos (accepted i b a)) ∷ h)
  learns : (j i b a : ℕ) → At (outbox_of w) w.sent j (paxos (accepted i b a))
      → i ≡ (coordinator_of w (owner b)).applied
      → b ≡ (coordinator_of w (owner b)).round.ballot
      → T (majority w.acceptors (counting (coordinator_of w (owner b)).round a).acceptances)
      → Move w h (with_learned w (owner b) (learning (coordinator_of w (owner b))) (proposal_of (coordinator_of w (owner b)).round))
      (delivered j (paxos (accepted i b a)) ∷ h)
  passes_accepted : (j i b a : ℕ) → At (outbox_of w) w.sent j (paxos (accepted i b a))
      → (a < most_acceptors → i ≡ (coordinator_of w (owner b)).applied → b ≡ (coordinator_of w (owner b)).round.ballot → ⊥)
      → Move w h w (delivered j (paxos (accepted i b a)) ∷ h)
  joins : (j k : ℕ) (e : Entry) → At (outbox_of w) w.sent j (request k e)
      → T (not (is_full (coordinator_of w k).queue))
      → Move w h
      (with_coordinator w k (with_queue (coordinator_of w k) (joined (coordinator_of w k).queue e)))
      (delivered j (request k e) ∷ h)
  passes_request : (j k : ℕ) (e : Entry) → At (outbox_of w) w.sent j (request k e) → Move w h w (delivered j (request k e) ∷ h)
  -- to a process
  is_told : (j p tx : ℕ) (o : Outcome) → At (outbox_of w) w.sent j (tell p tx o)
      → Move w h (with_process w p (hearing_outcome (process_of w p) tx o)) (delivered j (tell p tx o) ∷ h)
  takes : (j p t s i : ℕ) (r : Replay) (n : ℕ) → At (outbox_of w) w.sent j (restore p t s i r n)
      → T (takes_restore (process_of w p) t i)
      → Move w h (with_taken w p (taking (process_of w p) s i n) r) (delivered j (restore p t s i r n) ∷ h)
  passes_restore : (j p t s i : ℕ) (r : Replay) (n : ℕ) → At (outbox_of w) w.sent j (restore p t s i r n)
      → T (not (takes_restore (process_of w p) t i))
      → Move w h w (delivered j (restore p t s i r n) ∷ h)
  takes_follow_lem : (j p s tx : ℕ) (o : Outcome) (u : ℕ) → At (outbox_of w) w.sent j (follow p s tx o u)
      → T (takes_follow (process_of w p) s tx)
      → Move w h
      (with_followed w p (following (process_of w p) tx) (record { of = set (follows_of w p).of tx (record { outcome = o; update = u }) }))
      (delivered j (follow p s tx o u) ∷ h)
  passes_follow : (j p s tx : ℕ) (o : Outcome) (u : ℕ) → At (outbox_of w) w.sent j (follow p s tx o u)
      → T (not (takes_follow (process_of w p) s tx))
      → Move w h w (delivered j (follow p s tx o u) ∷ h)

pub data Trans (w : World) (h : List Event) : World → List Event → Type 0 where
  refused : Trans w h w h
  sets_up : (n : ℕ) → w.acceptors ≡ 0 → (n ≡ 3) ⊎ (n ≡ 5) → Trans w h (with_acceptors w n) (setup n ∷ h)
  moves : {w' : World} {h' : List Event} → 0 < w.acceptors → Move w h w' h' → Trans w h w' h'

-- ---- deliveries

-- at coordinator k, at process k
abbrev coordinator_at : ℕ → Places
coordinator_at k = record { coordinator = k; slot = 0; process = 0 }

abbrev process_at : ℕ → Places
process_at k = record { coordinator = 0; slot = 0; process = k }

module _ (w : World) (h : List Event) (room : Roomy (outbox_of w)) (few : w.acceptors ≤ most_acceptors)
    (range : (j : ℕ) (x : Content) → At (outbox_of w) w.sent j x → InRange w.acceptors x) where
  -- a test chooses what is changed
  move_by : {A : Type 0} (f : A → World) (t : Bool) {x y : A} {g : List Event}
      → (T t → Move w h (f x) g)
      → (T (not t) → Move w h (f y) g)
      → Move w h (f (cond t x y)) g
  move_by f true p q = p tt
  move_by f false p q = q tt

  -- the world is this one
  to_world : {x y : World} {g : List Event} → x ≡ y → Move w h y g → Move w h x g
  to_world {x} {y} {g} e m = subst (λ v. Move w h v g) (sym e) m

  one_left : T (not (lacks_numbers w.sent 1)) → w.sent < messages
  one_left t = omega (arith, nltb→le (messages - w.sent) 1 t)

  -- the message m of number j, with which the replay r goes, handed on at these places
  abbrev Handled : ℕ → Message → Replay → Kind → Places → Type 0
  Handled j m r κ at =
      T (not (no_place_for (parts_at w at m) κ)) → Move w h (changed w at r (delivery_change (parts_at w at m) κ)) (delivered j (content_as κ m r) ∷ h)

  module _ (j : ℕ) (m : Message) (y : Replay) where
    abbrev its_slot : AcceptorSlot
    its_slot = slot_of w (said_acceptor m) (said_inst m)

    abbrev its_owner : Coordinator
    its_owner = coordinator_of w (owner (said_ballot m))

    t_prepare : At (outbox_of w) w.sent j (paxos (prepare (said_inst m) (said_ballot m) (said_acceptor m))) → Handled j m y kind.Prepare (slot_at (said_acceptor m) (said_inst m))
    unfolding delivery_change
    t_prepare s t =
        let i = (said_inst m) in
        let b = (said_ballot m) in
        let a = (said_acceptor m) in
        let x = its_slot in
        move_by (λ (ch : Change). changed w (slot_at a i) y ch) (ltb x.promised b)
        (λ f. to_world (slot_answers w y m a i (promising x b) (promise_from i b a x.ballot x.batch))
        (promises j i b a _ _ s (ltb→lt x.promised b f)
        (posts_one (outbox_of w) w.sent (promise_from i b a x.ballot x.batch) room
        (one_left (not_second (acceptor.promises x b) (lacks_numbers w.sent 1) t f)))))
        (λ f. to_world (nothing w (slot_at a i) y m) (passes_prepare j i b a s (nltb→le x.promised b f)))

    t_accept : At (outbox_of w) w.sent j (paxos (accept (said_inst m) (said_ballot m) (said_acceptor m) (said_batch m))) → Handled j m y kind.Accept (slot_at (said_acceptor m) (said_inst m))
    unfolding delivery_change
    t_accept s t =
        let i = (said_inst m) in
        let b = (said_ballot m) in
        let a = (said_acceptor m) in
        let x = its_slot in
        move_by (λ (ch : Change). changed w (slot_at a i) y ch) (leb x.promised b)
        (λ f. let g = one_left (not_second (acceptor.accepts x b) (lacks_numbers w.sent 1) t f) in
        to_world (slot_answers w y m a i (accepting b (said_batch m)) (accepted_from i b a))
        (votes j i b a (said_batch m) _ _ s (leb→le x.promised b f)
        (posts_one (outbox_of w) w.sent (accepted_from i b a) room g)
        (at_new (outbox_of w) w.sent (accepted_from i b a) room g)))
        (λ f. to_world (nothing w (slot_at a i) y m) (passes_accept j i b a (said_batch m) s (nleb→lt x.promised b f)))

    t_promise : At (outbox_of w) w.sent j (paxos (promise (said_inst m) (said_ballot m) (said_acceptor m) (said_accepted m) (said_batch m))) → Handled j m y kind.Promise (coordinator_at (owner (said_ballot m)))
    unfolding delivery_change promise_heard
    t_promise s _ =
        let i = (said_inst m) in
        let b = (said_ballot m) in
        let a = (said_acceptor m) in
        let c = its_owner in
        let d = (said_accepted m) in
        let v = (said_batch m) in
        let at = coordinator_at (owner b) in
        move_by (λ (ch : Change). changed w at y ch) (is_heard c i b a)
        (λ f. let g = both (eqb i c.applied) (eqb b c.round.ballot) (both (is_current c i b) (ltb a most_acceptors) f).0 in
        let e = eqb→eq i c.applied g.0 in
        let e' = eqb→eq b c.round.ballot g.1 in
        to_world (coordinator_changed w at y m (with_round c (promise_heard c.round a d v)))
        (move_by (λ (r : Round). with_coordinator w (owner b) (with_round c r)) (ltb c.round.accepted d)
        (λ l. hears j i b a d v _ _ s e e' (theirs (ltb→lt c.round.accepted d l)))
        (λ l. hears j i b a d v _ _ s e e' (ours (nltb→le c.round.accepted d l)))))
        (λ f. to_world (nothing w at y m) (passes_promise j i b a d v s))

    t_accepted : At (outbox_of w) w.sent j (paxos (accepted (said_inst m) (said_ballot m) (said_acceptor m))) → Handled j m y kind.Accepted (coordinator_at (owner (said_ballot m)))
    unfolding delivery_change
    t_accepted s _ =
        let i = (said_inst m) in
        let b = (said_ballot m) in
        let a = (said_acceptor m) in
        let c = its_owner in
        let r = counting c.round a in
        let at = coordinator_at (owner b) in
        move_by (λ (ch : Change). changed w at y ch) (is_heard c i b a)
        (λ f. let g = both (eqb i c.applied) (eqb b c.round.ballot) (both (is_current c i b) (ltb a most_acceptors) f).0 in
        let e = eqb→eq i c.applied g.0 in
        let e' = eqb→eq b c.round.ballot g.1 in
        move_by (λ (ch : Change). changed w at y ch) (majority w.acceptors r.acceptances)
        (λ q. to_world (coordinator_learns w at y m (learning c) (proposal_of c.round)) (learns j i b a s e e' q))
        (λ q. to_world (coordinator_changed w at y m (with_round c r)) (counts j i b a s e e' q)))
        (λ f. to_world (nothing w at y m) (passes_accepted j i b a s (λ l d e. T_not (is_heard c i b a) f (current l d e))))
      where
        a : ℕ
        a = (said_acceptor m)

        current : a < most_acceptors → (said_inst m) ≡ its_owner.applied → (said_ballot m) ≡ its_owner.round.ballot → T (is_heard its_owner (said_inst m) (said_ballot m) a)
        current l d e = rw (← d, ← e) (go (said_inst m) (said_ballot m))
          where
            go : (i b : ℕ) → T (eqb i i && eqb b b && ltb a most_acceptors)
            go i b = rw (is_true (eqb i i) (eqb_refl i), is_true (eqb b b) (eqb_refl b)) (lt→ltb a most_acceptors l)

    -- an equal entry is there, or there is a place
    queue_by : (here full : Bool) → T (not (full && not here)) → T (not (here || full)) → T (not full)
    queue_by true full t u = absurd u
    queue_by false full t u = u

    t_request : At (outbox_of w) w.sent j (request (said_to m) (said_entry m)) → Handled j m y kind.Request (coordinator_at (said_to m))
    unfolding delivery_change joining
    t_request s t =
        let k = coordinator_of w (said_to m) in
        let at = coordinator_at (said_to m) in
        let here = is_in (said_entry m) (queued k.queue) in
        move_by (λ (q : Queue). changed w at y (done (coordinator_now (parts_at w at m) (with_queue k q)))) (here || is_full k.queue)
        (λ _. to_world (nothing w at y m) (passes_request j (said_to m) (said_entry m) s))
        (λ f. to_world (coordinator_changed w at y m (with_queue k (joined k.queue (said_entry m))))
        (joins j (said_to m) (said_entry m) s (queue_by here (is_full k.queue) t f)))

    t_told : At (outbox_of w) w.sent j (tell (said_to m) (said_tx m) (said_outcome m)) → Handled j m y kind.Tell (process_at (said_to m))
    unfolding delivery_change
    t_told s _ =
        to_world (process_changed w (process_at (said_to m)) y m (hearing_outcome (process_of w (said_to m)) (said_tx m) (said_outcome m)))
        (is_told j (said_to m) (said_tx m) (said_outcome m) s)

    t_taken : At (outbox_of w) w.sent j (restore (said_to m) (said_turn m) (said_store m) (said_position m) y (said_running m)) → Handled j m y kind.Restore (process_at (said_to m))
    unfolding delivery_change
    t_taken s _ =
        let at = process_at (said_to m) in
        let q = process_of w (said_to m) in
        move_by (λ (ch : Change). changed w at y ch) (takes_restore q (said_turn m) (said_position m))
        (λ f. to_world (process_takes w at y m (taking q (said_store m) (said_position m) (said_running m)))
        (takes j (said_to m) (said_turn m) (said_store m) (said_position m) y (said_running m) s f))
        (λ f. to_world (nothing w at y m) (passes_restore j (said_to m) (said_turn m) (said_store m) (said_position m) y (said_running m) s f))

    t_followed : At (outbox_of w) w.sent j (follow (said_to m) (said_store m) (said_tx m) (said_outcome m) (said_update m)) → Handled j m y kind.Follow (process_at (said_to m))
    unfolding delivery_change
    t_followed s _ =
        let at = process_at (said_to m) in
        let q = process_of w (said_to m) in
        move_by (λ (ch : Change). changed w at y ch) (takes_follow q (said_store m) (said_tx m))
        (λ f. to_world (process_follows w at y m (following q (said_tx m))) (takes_follow_lem j (said_to m) (said_store m) (said_tx m) (said_outcome m) (said_update m) s f))
        (λ f. to_world (nothing w at y m) (passes_follow j (said_to m) (said_store m) (said_tx m) (said_outcome m) (said_update m) s f))

    -- no number of a message that was sent lies beyond the places
    slot_place : (said_acceptor m) < w.acceptors → (said_inst m) < instances
        → (said_acceptor m * instances + said_inst m) % slot_places ≡ said_acceptor m * instances + said_inst m
    slot_place l g = mod-eq_of_lt (omega arith)

    t_deliver : (κ : Kind) → At (outbox_of w) w.sent j (content_as κ m y) → Handled j m y κ (delivery_places m κ)
    t_deliver kind.Request s = rw (mod-eq_of_lt (range j _ s)) (t_request s)
    t_deliver kind.Prepare s = rw (slot_place (range j _ s).acceptor (range j _ s).inst) (t_prepare s)
    t_deliver kind.Accept s = rw (slot_place (range j _ s).acceptor (range j _ s).inst) (t_accept s)
    t_deliver kind.Promise s = t_promise s
    t_deliver kind.Accepted s = t_accepted s
    t_deliver kind.Tell s = let l = (range j _ s).0 in let e : (said_to m) % process_places ≡ (said_to m) = mod-eq_of_lt (omega arith) in rw e (t_told s)
    t_deliver kind.Restore s = let l = (range j _ s).1 in let e : (said_to m) % process_places ≡ (said_to m) = mod-eq_of_lt (omega arith) in rw e (t_taken s)
    t_deliver kind.Follow s = let l = (range j _ s).1 in let e : (said_to m) % process_places ≡ (said_to m) = mod-eq_of_lt (omega arith) in rw e (t_followed s)

  -- ---- steps

  abbrev Accepted : Parts → Step → Type 0
  Accepted p s = Passed (check outside_limits (outside_step (acceptors_counted p.acceptors) s) ∷ step_checks p s)

  live : T (not (eqb w.acceptors 0)) → 0 < w.acceptors
  live t = omega (arith, neqb→ne w.acceptors 0 t)

  -- a step that is not refused, at these places; r is the replay of the message delivered
  abbrev Taken : Step → Places → Replay → Message → Type 0
  Taken s at r d = Accepted (parts_at w at d) s → Trans w h (changed w at r (change_of (parts_at w at d) s)) (note w s h)

  to_trans : {x y : World} {g : List Event} → x ≡ y → Trans w h y g → Trans w h x g
  to_trans {x} {y} {g} e m = subst (λ v. Trans w h v g) (sym e) m

  module _ (r : Replay) (d : Message) where
    t_setup : (n : ℕ) (at : Places) → Taken (Setup n) at r d
    unfolding change_of step_checks outside_step
    t_setup n at p =
        to_trans (acceptors_changed w at r d n)
        (sets_up n
        (eqb→eq w.acceptors 0 (not_not (eqb w.acceptors 0) p.1.0))
        (one (eqb n 3) (eqb n 5) (eqb→eq n 3) (eqb→eq n 5) (not_not (eqb n 3 || eqb n 5) p.0)))
      where
        one : (a b : Bool) → (T a → n ≡ 3) → (T b → n ≡ 5) → T (a || b) → (n ≡ 3) ⊎ (n ≡ 5)
        one true b f g t = inl (f tt)
        one false b f g t = inr (g t)

    t_ask : (e : Entry) (k : ℕ) → Taken (Request e k) (process_at e.process) r d
    unfolding change_of step_checks outside_step
    t_ask e k p =
        let x = process_of w e.process in
        let m = none_of_three (eqb w.acceptors 0) (other_turn e x) (voter_not_holder e x) p.1.1.0 in
        to_trans (only_sends w (process_at e.process) r d (request_to k e))
        (moves (live m.0)
        (asks e k _ _ (nleb→lt coordinators k (neither (outside stores e) (no_coordinator k) p.0).1)
        (sym (eqb→eq e.turn x.turn (not_not (eqb e.turn x.turn) m.1)))
        (posts_one (outbox_of w) w.sent (request_to k e) room (one_left p.1.1.1.0))))

    t_open : (k i b : ℕ) → Taken (Open k i b) (coordinator_at k) r d
    unfolding change_of step_checks outside_step
    t_open k i b p =
        let c = coordinator_of w k in
        let l = none_of_three (no_coordinator k) (leb instances i) (no_ballot b) p.0 in
        let m = neither (eqb w.acceptors 0) (cannot_open c k i b) p.1.1.0 in
        let q = none_of_three (not (eqb i c.applied)) (not (eqb (owner b) k)) (leb b c.round.ballot) m.1 in
        let n = live m.0 in
        let left = nltb→le (messages - w.sent) w.acceptors p.1.1.1.0 in
        let new = with_round c (new_round b) in
        to_trans (prepares_sent w (coordinator_at k) r d new w.acceptors i b ∙ send_posts (with_coordinator w k new) w.acceptors (prepare_to i b))
        (moves n
        (opens k i b _ _
        (nleb→lt coordinators k l.0)
        (nleb→lt instances i l.1)
        (nltb→le ballots b (neither (eqb b 0) (ltb ballots b) l.2).1)
        (eqb→eq i c.applied (not_not (eqb i c.applied) q.0))
        (eqb→eq (owner b) k (not_not (eqb (owner b) k) q.1))
        (nleb→lt b c.round.ballot q.2)
        (posts_all (prepare_to i b) (λ a. paxos (prepare i b a)) (λ a _. refl) (outbox_of w) w.sent w.acceptors room (omega arith))))

    t_propose : (k i b : ℕ) → Taken (Propose k i b) (coordinator_at k) r d
    unfolding change_of step_checks outside_step
    t_propose k i b p =
        let c = coordinator_of w k in
        let v = batch_to_propose c in
        let l = none_of_three (no_coordinator k) (leb instances i) (no_ballot b) p.0 in
        let m = neither (eqb w.acceptors 0) (cannot_propose w.acceptors c i b) p.1.1.0 in
        let q =
        none_of_five
        (not (eqb i c.applied))
        (not (eqb b c.round.ballot))
        (not (majority w.acceptors c.round.promises))
        (is_proposed c.round)
        (eqb c.round.accepted 0 && eqb c.queue.count 0)
        m.1 in
        let n = live m.0 in
        let left = nltb→le (messages - w.sent) w.acceptors p.1.1.1.0 in
        let z = neqb→ne b 0 (neither (eqb b 0) (ltb ballots b) l.2).0 in
        let new = with_round c (proposing c.round v) in
        to_trans (accepts_sent w (coordinator_at k) r d new w.acceptors i b v ∙ send_posts (with_coordinator w k new) w.acceptors (accept_to i b v))
        (moves n
        (proposes k i b v _ _ (nleb→lt coordinators k l.0)
        (eqb→eq i c.applied (not_not (eqb i c.applied) q.0))
        (eqb→eq b c.round.ballot (not_not (eqb b c.round.ballot) q.1))
        (omega arith)
        (is_false (is_proposed c.round) q.3)
        (not_not (majority w.acceptors c.round.promises) q.2)
        q.4
        refl
        (posts_all (accept_to i b v) (λ a. paxos (accept i b a v)) (λ a _. refl) (outbox_of w) w.sent w.acceptors room (omega arith))))

    t_crash : (role : Role) (id : ℕ) (at : Places) → Taken (Crash role id) at r d
    unfolding change_of step_checks
    t_crash role id at p = to_trans (down_changed w at r d (crashed w.down role id)) (moves (live p.1.1.0) (crashes _))

    t_back : (q t : ℕ) → Taken (Back q t) (process_at q) r d
    unfolding change_of step_checks outside_step
    t_back q t p =
        let m = neither (eqb w.acceptors 0) (leb t (process_of w q).turn) p.1.0 in
        let l = neither (eqb q 0) (ltb processes q) (neither (no_process q) (no_turn t) p.0).0 in
        to_trans (process_starts w (process_at q) r d (started_in t) (up_again w.down q))
        (moves (live m.0) (comes_back_lem q t _ (nltb→le processes q l.1) (nleb→lt t (process_of w q).turn m.1)))

  process_in : (p : ℕ) → T (not (no_process p)) → (0 < p) × (p ≤ processes)
  process_in p t = let q = neither (eqb p 0) (ltb processes p) t in let z = neqb→ne p 0 q.0 in (omega arith, nltb→le processes p q.1)

  -- what a tell sends, a restore and a follow, by the log of coordinator k
  abbrev tell_by : ℕ → ℕ → ℕ → Message
  tell_by p tx k = tell_to p tx (outcome_of (log_of w k) tx)

  abbrev restore_by : ℕ → ℕ → Message
  restore_by p k = restore_to p (turn_of (log_of w k) (held_store (log_of w k) p)) (held_store (log_of w k) p) (coordinator_of w k).applied (awaited_of (log_of w k) (held_store (log_of w k) p))

  abbrev follow_by : ℕ → ℕ → ℕ → Message
  follow_by p tx k =
      follow_to p (voting_store (log_of w k) p tx) tx (outcome_of (log_of w k) tx) (update_of (log_of w k) tx (voting_store (log_of w k) p tx))

  t_tell : (r : Replay) (k p tx : ℕ) → Taken (Tell k p tx) (coordinator_at k) r (tell_by p tx k)
  unfolding change_of step_checks outside_step
  t_tell r k p tx q =
      let l = none_of_three (no_coordinator k) (no_process p) (leb transactions tx) q.0 in
      let m = neither (eqb w.acceptors 0) (is_open (outcome_of (log_of w k) tx)) q.1.1.0 in
      to_trans (only_sends w (coordinator_at k) r (tell_by p tx k) (tell_by p tx k))
      (moves (live m.0)
      (tells k p tx _ _ (process_in p l.1).1 (nleb→lt transactions tx l.2) m.1
      (posts_one (outbox_of w) w.sent (tell_by p tx k) room (one_left q.1.1.1.0))))

  t_restore : (r : Replay) (k p : ℕ) → Taken (Restore k p) (coordinator_at k) r (restore_by p k)
  unfolding change_of step_checks outside_step
  t_restore r k p q =
      let l = neither (no_coordinator k) (no_process p) q.0 in
      let m = neither (eqb w.acceptors 0) (leb stores (held_store (log_of w k) p)) q.1.1.0 in
      to_trans (restore_sent w (coordinator_at k) r (restore_by p k) (restore_by p k))
      (moves (live m.0)
      (restores k p _ _ (process_in p l.1).0 (process_in p l.1).1 (nleb→lt stores (held_store (log_of w k) p) m.1)
      (posts_both (outbox_of w) w.sent (restore_by p k) room (one_left q.1.1.1.0) _)))

  t_follow : (r : Replay) (k p tx : ℕ) → Taken (Follow k p tx) (coordinator_at k) r (follow_by p tx k)
  unfolding change_of step_checks outside_step
  t_follow r k p tx q =
      let l = none_of_three (no_coordinator k) (no_process p) (leb transactions tx) q.0 in
      let s = voting_store (log_of w k) p tx in
      let m = none_of_three (eqb w.acceptors 0) (is_open (outcome_of (log_of w k) tx)) (leb stores s) q.1.1.0 in
      to_trans (only_sends w (coordinator_at k) r (follow_by p tx k) (follow_by p tx k))
      (moves (live m.0)
      (follows k p tx _ _ (process_in p l.1).0 (process_in p l.1).1 (nleb→lt transactions tx l.2) m.1 (nleb→lt stores s m.2)
      (posts_one (outbox_of w) w.sent (follow_by p tx k) room (one_left q.1.1.1.0))))

  -- a step within its limits finds its coordinator
  at_its_place : (k : ℕ) (s : Step) (r : Replay) (d : ℕ → Message) → T (not (no_coordinator k)) → Taken s (coordinator_at k) r (d k)
      → Taken s (coordinator_at (k % coordinators)) r (d (k % coordinators))
  at_its_place k s r d l f = rw (mod-eq_of_lt (nleb→lt coordinators k l)) f

  -- and its process
  at_its_process : (q : ℕ) (s : Step) (r : Replay) (d : Message) → q ≤ processes → Taken s (process_at q) r d → Taken s (process_at (q % process_places)) r d
  at_its_process q s r d l f = let e : q % process_places ≡ q = mod-eq_of_lt (omega arith) in rw e f

  t_deliver_step : (j : ℕ) → Taken (Deliver j) (delivery_places (message_of w j) (said_kind (message_of w j))) (replay_with w j) (message_of w j)
  unfolding change_of step_checks
  t_deliver_step j p =
      moves (live p.1.1.1.0)
      (t_deliver j (message_of w j) (replay_with w j) (said_kind (message_of w j)) (record { below = nleb→lt w.sent j p.1.0; is = refl }) p.1.1.1.1.0)

  t_step : (s : Step) → Taken s (places_in w s) (replay_in w s) (message_in w s)
  unfolding places_of message_for outside_step
  t_step (Setup n) p = t_setup _ _ n _ p
  t_step (Request e k) p =
      at_its_process e.process (Request e k) _ _ (inside_process stores e (is_false (outside stores e) (neither (outside stores e) (no_coordinator k) p.0).0)).1 (t_ask _ _ e k) p
  t_step (Open k i b) p =
      at_its_place k (Open k i b) _ (λ _. message_of w 0) (none_of_three (no_coordinator k) (leb instances i) (no_ballot b) p.0).0 (t_open _ _ k i b) p
  t_step (Propose k i b) p =
      at_its_place k (Propose k i b) _ (λ _. message_of w 0) (none_of_three (no_coordinator k) (leb instances i) (no_ballot b) p.0).0 (t_propose _ _ k i b) p
  t_step (Deliver j) p =
      let e : j % messages ≡ j = mod-eq_of_lt (nleb→lt messages j p.0) in
      subst (λ i. Taken (Deliver j) (places_of (Deliver j) (message_of w i)) (replay_with w i) (message_of w i)) (sym e) (t_deliver_step j) p
  t_step (Tell k p tx) q =
      at_its_place k (Tell k p tx) _ (tell_by p tx) (none_of_three (no_coordinator k) (no_process p) (leb transactions tx) q.0).0 (t_tell _ k p tx) q
  t_step (Restore k p) q = at_its_place k (Restore k p) _ (restore_by p) (neither (no_coordinator k) (no_process p) q.0).0 (t_restore _ k p) q
  t_step (Follow k p tx) q =
      at_its_place k (Follow k p tx) _ (follow_by p tx) (none_of_three (no_coordinator k) (no_process p) (leb transactions tx) q.0).0 (t_follow _ k p tx) q
  t_step (Crash role id) p = t_crash _ _ role id _ p
  t_step (Back q t) p = at_its_process q (Back q t) _ _ (process_in q (neither (no_process q) (no_turn t) p.0).0).1 (t_back _ _ q t) p

  positive : (p : Parts) (s : Step) → Positive (check outside_limits (outside_step (acceptors_counted p.acceptors) s) ∷ step_checks p s)
  unfolding step_checks
  positive p (Setup n) = (tt, (tt, tt))
  positive p (Request e k) = (tt, (tt, (tt, (tt, (tt, tt)))))
  positive p (Open k i b) = (tt, (tt, (tt, (tt, tt))))
  positive p (Propose k i b) = (tt, (tt, (tt, (tt, tt))))
  positive p (Deliver j) = (tt, (tt, (tt, (tt, (tt, tt)))))
  positive p (Tell k q tx) = (tt, (tt, (tt, (tt, tt))))
  positive p (Restore k q) = (tt, (tt, (tt, (tt, tt))))
  positive p (Follow k q tx) = (tt, (tt, (tt, (tt, tt))))
  positive p (Crash role id) = (tt, (tt, (tt, tt)))
  positive p (Back q t) = (tt, (tt, tt))

  pub trans : (s : Step) → Trans w h (step_of w s).world (noted w s h)
  unfolding step_of noted step_refusal
  trans s = go (is_ok (step_refusal p s)) refl
    where
      p : Parts
      p = parts_of w s

      go : (t : Bool) → is_ok (step_refusal p s) ≡ t → Trans w h (step_of w s).world (noted w s h)
      go true e =
          rw e (t_step s (passed (check outside_limits (outside_step (acceptors_counted p.acceptors) s) ∷ step_checks p s) (positive p s) (subst T (sym e) tt)))
      go false e = rw (e, e) refused
