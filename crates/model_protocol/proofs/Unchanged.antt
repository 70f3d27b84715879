-- What a step leaves as it was.
use Prim.Native.Nat.{ℕ, zero, suc, ◌%◌, ◌<◌}
use native.Mathlib.Nat.{mod-eq_of_lt}
use native.Mathlib.Omega.{arith}
use mathlib.Core.Path.{◌≡◌, ap, refl, subst, sym, ◌∙◌}
use mathlib.Core.Bool.{Bool, true, false, cond, ◌||◌}
use mathlib.Core.List.{List, [], ◌∷◌}
use mathlib.Core.Logic.{◌≢◌}
use Rattle.std.proofs.Common.{is_ok}
use lib.ListN.{get_or, length, set}
use lib.Seq.{get_or-set_other, get_or-set_same}
use Rattle.log_entry.specs.Entry.{no_process, no_turn}
use Rattle.log_entry.specs.Limits.{process_places}
use Rattle.log_entry.specs.Refusal.{accepted, first_refusal}
use Rattle.log_entry.proofs.AnswerLaws.{err_ok, ok_accepted}
use Rattle.log_entry.proofs.InsideLaws.{process_inside}
use Rattle.log_entry.proofs.Tests.{neither_left}
use Rattle.log_core.specs.Replay.{no_replay}
use Rattle.model_steps.specs.Limits.{outside_step}
use Rattle.model_steps.specs.declared.Role.{Role}
use Rattle.model_steps.specs.declared.Role.TheVariants.{Acceptor, Coord, Proc}
use Rattle.model_steps.specs.declared.Step.{Step}
use Rattle.model_steps.specs.declared.Step.TheVariants.{Back, Crash, Deliver, Follow, Open, Propose, Request, Restore, Setup, Tell}
use Rattle.model_protocol.specs.declared.Change.{Change}
use Rattle.model_protocol.specs.declared.Down.{Down}
use Rattle.model_protocol.specs.Kind.{Kind}
use Rattle.model_protocol.specs.Kind as kind
use Rattle.model_protocol.specs.declared.Message.{Message}
use Rattle.model_protocol.specs.declared.Parts.{Parts}
use Rattle.model_protocol.specs.declared.Stepped.{Stepped}
use Rattle.model_protocol.specs.declared.World.{World}
use Rattle.model_paxos.specs.Majority.{majority}
use Rattle.model_protocol.specs.Acceptor.{accepting, accepts, promises, promising}
use Rattle.model_protocol.specs.Change.{coordinator_now, done, keeps_follow, learns, process_now, sending, slot_now, takes_replay}
use Rattle.model_protocol.specs.Coordinator.{counting, is_heard, learning, promise_heard, proposal_of, with_round}
use Rattle.model_protocol.specs.Deliver.{delivery_change}
use Rattle.model_protocol.specs.Message.{accepted_from, promise_from, said_accepted, said_acceptor, said_ballot, said_batch, said_inst, said_kind, said_position, said_running, said_store, said_turn, said_tx}
use Rattle.model_protocol.specs.Process.{following, taking, takes_follow, takes_restore}
use Rattle.model_protocol.specs.Places.{places_of}
use Rattle.model_protocol.specs.Send.{send_to_all}
use Rattle.model_protocol.specs.Step.{change_of, changed, parts_of, places_in, replay_in, step_of, step_refusal}
use Rattle.model_protocol.specs.Unchanged.{BackStartsAnew, CrashChangesOnlyDown, CrashedStaysDown, HasProcesses, OnlyDownChanges, OthersUnchanged, RefusedStepChangesNothing, StartedAnew, StartsAgain}
use Rattle.model_protocol.specs.World.{crashed, fresh_process, is_down, no_follows, started_in, up_again}
use Rattle.model_protocol.proofs.PutBack.{same_coordinators, same_logs, same_processes, same_slots}

-- what holds of both arms holds of the choice
either_arm : {A : Type 0} (P : A → Type 0) (t : Bool) (a b : A) → P a → P b → P (cond t a b)
either_arm P true a b f g = f
either_arm P false a b f g = g

-- the world after a step: changed as the definitions say, or as it was
step_cases : (P : World → Type 0) (w : World) (s : Step) → P (changed w (places_in w s) (replay_in w s) (change_of (parts_of w s) s)) → P w → P (step_of w s).world
unfolding step_of
step_cases P w s new old = either_arm (λ (x : Stepped). P x.world) (is_ok (step_refusal (parts_of w s) s)) _ _ new old

-- the answer is the first refusal, accepted if there is none
pub answer_is_refusal : (w : World) (s : Step) → (step_of w s).answer ≡ step_refusal (parts_of w s) s
unfolding step_of
answer_is_refusal w s = go (is_ok (step_refusal (parts_of w s) s)) refl
  where
    go : (b : Bool) → is_ok (step_refusal (parts_of w s) s) ≡ b → (step_of w s).answer ≡ step_refusal (parts_of w s) s
    go true e = rw e (sym (ok_accepted (step_refusal (parts_of w s) s) e))
    go false e = rw e

pub refused_same : RefusedStepChangesNothing
unfolding step_of
refused_same w s =
    either_arm (λ (x : Stepped). x.answer ≢ accepted → x.world ≡ w) (is_ok (step_refusal (parts_of w s) s)) _ _
    (λ n. absurd (n refl)) (λ n. refl)

pub crash_keeps : CrashChangesOnlyDown
unfolding change_of send_to_all
crash_keeps w role id =
    step_cases (OnlyDownChanges w) w (Crash role id)
    (record {
      acceptors = refl;
      slots = same_slots w (places_in w (Crash role id));
      coordinators = same_coordinators w (places_in w (Crash role id));
      logs = same_logs w (places_in w (Crash role id));
      processes = same_processes w (places_in w (Crash role id));
      restored = refl;
      follows = refl;
      messages = refl;
      replays = refl;
      sent = refl;
    })
    (record { acceptors = refl; slots = refl; coordinators = refl; logs = refl; processes = refl; restored = refl; follows = refl; messages = refl; replays = refl; sent = refl })

-- ---- who is down stays down

-- sending changes nobody
sent_down : (w : World) (n : ℕ) (f : ℕ → Message) → (send_to_all w n f).down ≡ w.down
unfolding send_to_all
sent_down w zero f = refl
sent_down w (suc n) f = sent_down w n f

-- no message changes who is down
same_down : (p : Parts) (t : Bool) (a b : Change) → a.parts.down ≡ p.down → b.parts.down ≡ p.down → (cond t a b).parts.down ≡ p.down
same_down p t a b h k = either_arm (λ (c : Change). c.parts.down ≡ p.down) t a b h k

delivered_down : (p : Parts) (k : Kind) → (delivery_change p k).parts.down ≡ p.down
unfolding delivery_change
delivered_down p kind.Request = refl
delivered_down p kind.Prepare =
    let m = p.message in
    let x = p.slot in
    same_down p (promises x (said_ballot m))
    (sending (slot_now p (promising x (said_ballot m))) 1 (promise_from (said_inst m) (said_ballot m) (said_acceptor m) x.ballot x.batch)) (done p) refl refl
delivered_down p kind.Accept =
    let m = p.message in
    same_down p (accepts p.slot (said_ballot m))
    (sending (slot_now p (accepting (said_ballot m) (said_batch m))) 1 (accepted_from (said_inst m) (said_ballot m) (said_acceptor m))) (done p) refl refl
delivered_down p kind.Promise =
    let m = p.message in
    let c = p.coordinator in
    same_down p (is_heard c (said_inst m) (said_ballot m) (said_acceptor m))
    (done (coordinator_now p (with_round c (promise_heard c.round (said_acceptor m) (said_accepted m) (said_batch m))))) (done p) refl refl
delivered_down p kind.Accepted =
    let m = p.message in
    let c = p.coordinator in
    let r = counting c.round (said_acceptor m) in
    let l = learns (coordinator_now p (learning c)) (proposal_of c.round) in
    let n = done (coordinator_now p (with_round c r)) in
    same_down p (is_heard c (said_inst m) (said_ballot m) (said_acceptor m)) (cond (majority p.acceptors r.acceptances) l n) (done p)
    (same_down p (majority p.acceptors r.acceptances) l n refl refl) refl
delivered_down p kind.Tell = refl
delivered_down p kind.Restore =
    let m = p.message in
    same_down p (takes_restore p.process (said_turn m) (said_position m))
    (takes_replay (process_now p (taking p.process (said_store m) (said_position m) (said_running m)))) (done p) refl refl
delivered_down p kind.Follow =
    let m = p.message in
    same_down p (takes_follow p.process (said_store m) (said_tx m)) (keeps_follow (process_now p (following p.process (said_tx m)))) (done p) refl refl

-- a flag that is set stays set when another is
flag_stays : (l : List Bool) (i j : ℕ) → get_or l j false ≡ true → get_or (set l i true) j false ≡ true
flag_stays [] i j h = h
flag_stays (b ∷ l) zero zero h = refl
flag_stays (b ∷ l) zero (suc j) h = h
flag_stays (b ∷ l) (suc i) zero h = h
flag_stays (b ∷ l) (suc i) (suc j) h = flag_stays l i j h

crash_down : (d : Down) (r : Role) (i : ℕ) (role : Role) (id : ℕ) → is_down d role id ≡ true → is_down (crashed d r i) role id ≡ true
crash_down d Acceptor i Acceptor id h = flag_stays d.acceptors i id h
crash_down d Acceptor i Coord id h = h
crash_down d Acceptor i Proc id h = h
crash_down d Coord i Acceptor id h = h
crash_down d Coord i Coord id h = flag_stays d.coordinators i id h
crash_down d Coord i Proc id h = h
crash_down d Proc i Acceptor id h = h
crash_down d Proc i Coord id h = h
crash_down d Proc i Proc id h = flag_stays d.processes i id h

-- a process that comes back changes no other
back_down : (d : Down) (q : ℕ) (role : Role) (id : ℕ) → (role ≡ Proc → q ≡ id → ⊥) → is_down d role id ≡ true → is_down (up_again d q) role id ≡ true
back_down d q Acceptor id other h = h
back_down d q Coord id other h = h
back_down d q Proc id other h = get_or-set_other d.processes q id false false (λ e. other refl (sym e)) ∙ h

change_down : (p : Parts) (s : Step) (role : Role) (id : ℕ) → (StartsAgain s role id → ⊥)
    → is_down p.down role id ≡ true → is_down (change_of p s).parts.down role id ≡ true
unfolding change_of
change_down p (Setup n) role id again h = h
change_down p (Request e to) role id again h = h
change_down p (Open c i b) role id again h = h
change_down p (Propose c i b) role id again h = h
change_down p (Deliver m) role id again h = subst (λ (d : Down). is_down d role id ≡ true) (sym (delivered_down p (said_kind p.message))) h
change_down p (Tell c q tx) role id again h = h
change_down p (Restore c q) role id again h = h
change_down p (Follow c q tx) role id again h = h
change_down p (Crash r i) role id again h = crash_down p.down r i role id h
change_down p (Back q t) role id again h = back_down p.down q role id (λ r e. again (r, (t, ap (λ (n : ℕ). Back n t) e))) h

pub stays_down : CrashedStaysDown
stays_down w s role id again h =
    step_cases (λ (v : World). is_down v.down role id ≡ true) w s
    (subst (λ (d : Down). is_down d role id ≡ true) (sym (sent_down _ c.count _)) (change_down (parts_of w s) s role id again h))
    h
  where
    c : Change
    c = change_of (parts_of w s) s

-- ---- a process that comes back

-- a flag that is cleared is not set
flag_cleared : (l : List Bool) (i : ℕ) → get_or (set l i false) i false ≡ false
flag_cleared [] i = refl
flag_cleared (b ∷ l) zero = refl
flag_cleared (b ∷ l) (suc i) = flag_cleared l i

-- its number is within the limits
back_inside : (w : World) (p t : ℕ) → (step_of w (Back p t)).answer ≡ accepted → p < process_places
unfolding step_refusal first_refusal outside_step
back_inside w p t h = go (no_process p || no_turn t) refl (sym (answer_is_refusal w (Back p t)) ∙ h)
  where
    go : (b : Bool) → (no_process p || no_turn t) ≡ b → step_refusal (parts_of w (Back p t)) (Back p t) ≡ accepted → p < process_places
    go true e k = absurd (err_ok (rw e at k))
    go false e k = omega (arith, process_inside p (neither_left (no_process p) (no_turn t) e))

module _ (w : World) (p t : ℕ) (has : HasProcesses w) (inside : p < process_places) where
  -- the world after it
  back : World
  back = changed w (places_in w (Back p t)) (replay_in w (Back p t)) (change_of (parts_of w (Back p t)) (Back p t))

  place : p % process_places ≡ p
  place = mod-eq_of_lt inside

  -- what was stored by process stands there
  stored_here : {A : Type 0} (l : List A) (a d : A) → length l ≡ process_places → get_or (set l (p % process_places) a) p d ≡ a
  stored_here l a d size = ap (λ (n : ℕ). get_or (set l n a) p d) place ∙ get_or-set_same l p a d (omega (arith, size))

  -- and nowhere else
  stored_only : {A : Type 0} (l : List A) (a d : A) (q : ℕ) → q ≢ p → get_or (set l (p % process_places) a) q d ≡ get_or l q d
  stored_only l a d q other = ap (λ (n : ℕ). get_or (set l n a) q d) place ∙ get_or-set_other l p q a d other

  anew : StartedAnew w back p t
  unfolding back change_of send_to_all places_of
  anew = record {
    fresh = stored_here w.processes (started_in t) fresh_process has.processes;
    nothing_restored = stored_here w.restored no_replay no_replay has.restored;
    nothing_followed = stored_here w.follows no_follows no_follows has.follows;
    up = flag_cleared w.down.processes p;
  }

  others : OthersUnchanged w back p
  unfolding back change_of send_to_all places_of
  others = record {
    acceptors = refl;
    slots = same_slots w (places_in w (Back p t));
    coordinators = same_coordinators w (places_in w (Back p t));
    logs = same_logs w (places_in w (Back p t));
    processes = stored_only w.processes (started_in t) fresh_process;
    restored = stored_only w.restored no_replay no_replay;
    follows = stored_only w.follows no_follows no_follows;
    acceptors_down = λ id. refl;
    coordinators_down = λ id. refl;
    processes_down = λ q. get_or-set_other w.down.processes p q false false;
    messages = refl;
    replays = refl;
    sent = refl;
  }

pub starts_anew_lem : BackStartsAnew
unfolding step_of back
starts_anew_lem w p t has ok =
    subst (λ (v : World). StartedAnew w v p t × OthersUnchanged w v p) (sym is) (anew w p t has inside, others w p t has inside)
  where
    inside : p < process_places
    inside = back_inside w p t ok

    is : (step_of w (Back p t)).world ≡ back w p t has inside
    is = rw (sym (answer_is_refusal w (Back p t)) ∙ ok)
