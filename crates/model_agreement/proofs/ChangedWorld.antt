-- The world with one part changed, and that what a step changes is that.
use Prim.Native.Nat.{ℕ, suc, ◌+◌, ◌*◌}
use mathlib.Core.Path.{◌≡◌, ap, refl, ◌∙◌}
use lib.ListN.{set}
use Rattle.log_entry.specs.Refusal.{accepted}
use Rattle.log_core.specs.declared.Replay.{Replay}
use Rattle.log_core.specs.Enter.{feed}
use Rattle.log_core.specs.Replay.{no_replay, replay_of}
use Rattle.model_steps.specs.Limits.{instances}
use Rattle.model_protocol.specs.declared.AcceptorSlot.{AcceptorSlot}
use Rattle.model_protocol.specs.declared.Coordinator.{Coordinator}
use Rattle.model_protocol.specs.declared.Down.{Down}
use Rattle.model_protocol.specs.declared.Follows.{Follows}
use Rattle.model_protocol.specs.declared.Message.{Message}
use Rattle.model_protocol.specs.declared.Places.{Places}
use Rattle.model_protocol.specs.declared.Process.{Process}
use Rattle.model_protocol.specs.declared.World.{World}
use Rattle.model_protocol.specs.Batch.{Batch, entries_of}
use Rattle.model_protocol.specs.Change.{acceptors_now, slot_now, coordinator_now, done, down_now, gives_replay, keeps_follow, learns, process_now, sending, starts_anew, takes_replay}
use Rattle.model_protocol.specs.Message.{accept_to, prepare_to, said_store}
use Rattle.model_protocol.specs.Process.{with_follow}
use Rattle.model_protocol.specs.Send.{copy_of, send_to_all}
use Rattle.model_protocol.specs.Step.{changed, parts_at, put_back}
use Rattle.model_protocol.specs.World.{follows_of, log_of, no_follows, with_message}
use Rattle.model_agreement.proofs.SentMessages.{adding_both, outbox_of, posted}
use Rattle.model_protocol.proofs.PutBack.{all_back, none_sent, nothing_changed, same_slots, same_coordinators, same_logs, same_processes}

abbrev pub with_acceptors : World → ℕ → World
with_acceptors w n = record {
  acceptors = n;
  slots = w.slots;
  coordinators = w.coordinators;
  logs = w.logs;
  processes = w.processes;
  restored = w.restored;
  follows = w.follows;
  down = w.down;
  messages = w.messages;
  replays = w.replays;
  sent = w.sent;
}

abbrev pub with_slot : World → ℕ → ℕ → AcceptorSlot → World
with_slot w a i x = record {
  acceptors = w.acceptors;
  slots = set w.slots (a * instances + i) x;
  coordinators = w.coordinators;
  logs = w.logs;
  processes = w.processes;
  restored = w.restored;
  follows = w.follows;
  down = w.down;
  messages = w.messages;
  replays = w.replays;
  sent = w.sent;
}

abbrev pub with_coordinator : World → ℕ → Coordinator → World
with_coordinator w c x = record {
  acceptors = w.acceptors;
  slots = w.slots;
  coordinators = set w.coordinators c x;
  logs = w.logs;
  processes = w.processes;
  restored = w.restored;
  follows = w.follows;
  down = w.down;
  messages = w.messages;
  replays = w.replays;
  sent = w.sent;
}

abbrev pub with_process : World → ℕ → Process → World
with_process w p x = record {
  acceptors = w.acceptors;
  slots = w.slots;
  coordinators = w.coordinators;
  logs = w.logs;
  processes = set w.processes p x;
  restored = w.restored;
  follows = w.follows;
  down = w.down;
  messages = w.messages;
  replays = w.replays;
  sent = w.sent;
}

-- and takes the replay r
abbrev pub with_taken : World → ℕ → Process → Replay → World
with_taken w p x r = record {
  acceptors = w.acceptors;
  slots = w.slots;
  coordinators = w.coordinators;
  logs = w.logs;
  processes = set w.processes p x;
  restored = set w.restored p r;
  follows = w.follows;
  down = w.down;
  messages = w.messages;
  replays = w.replays;
  sent = w.sent;
}

-- and starts anew
abbrev pub with_started : World → ℕ → Process → Down → World
with_started w p x d = record {
  acceptors = w.acceptors;
  slots = w.slots;
  coordinators = w.coordinators;
  logs = w.logs;
  processes = set w.processes p x;
  restored = set w.restored p no_replay;
  follows = set w.follows p no_follows;
  down = d;
  messages = w.messages;
  replays = w.replays;
  sent = w.sent;
}

-- and keeps the follows fs
abbrev pub with_followed : World → ℕ → Process → Follows → World
with_followed w p x fs = record {
  acceptors = w.acceptors;
  slots = w.slots;
  coordinators = w.coordinators;
  logs = w.logs;
  processes = set w.processes p x;
  restored = w.restored;
  follows = set w.follows p fs;
  down = w.down;
  messages = w.messages;
  replays = w.replays;
  sent = w.sent;
}

abbrev pub with_down : World → Down → World
with_down w d = record {
  acceptors = w.acceptors;
  slots = w.slots;
  coordinators = w.coordinators;
  logs = w.logs;
  processes = w.processes;
  restored = w.restored;
  follows = w.follows;
  down = d;
  messages = w.messages;
  replays = w.replays;
  sent = w.sent;
}

-- coordinator c learned the batch
abbrev pub with_learned : World → ℕ → Coordinator → Batch → World
with_learned w c x b = record {
  acceptors = w.acceptors;
  slots = w.slots;
  coordinators = set w.coordinators c x;
  logs = set w.logs c (feed (log_of w c) (entries_of b));
  processes = w.processes;
  restored = w.restored;
  follows = w.follows;
  down = w.down;
  messages = w.messages;
  replays = w.replays;
  sent = w.sent;
}

-- ---- the messages sent

one_sent : (w : World) (m : Message) → send_to_all w 1 (copy_of m) ≡ with_message w m
unfolding send_to_all copy_of
one_sent w m = refl

same_sent : (w : World) (f g : ℕ → Message) → ((i : ℕ) → f i ≡ g i) → (n : ℕ) → send_to_all w n f ≡ send_to_all w n g
unfolding send_to_all
same_sent w f g same ℕ.zero = refl
same_sent w f g same (suc n) =
    ap (λ (v : World). with_message v (f n)) (same_sent w f g same n)
    ∙ ap (λ (m : Message). with_message (send_to_all w n g) m) (same n)

prepare_copy : (i b k : ℕ) → copy_of (prepare_to i b 0) k ≡ prepare_to i b k
unfolding copy_of
prepare_copy i b ℕ.zero = refl
prepare_copy i b (suc k) = refl

accept_copy : (i b : ℕ) (v : Batch) (k : ℕ) → copy_of (accept_to i b v 0) k ≡ accept_to i b v k
unfolding copy_of
accept_copy i b v ℕ.zero = refl
accept_copy i b v (suc k) = refl

-- ---- what a step changes

module _ (w : World) (at : Places) (r : Replay) (d : Message) where
  coordinator_back : (c : Coordinator) → put_back w at r (done (coordinator_now (parts_at w at d) c)) ≡ with_coordinator w at.coordinator c
  coordinator_back c = λ i. record {
    acceptors = w.acceptors;
    slots = same_slots w at i;
    coordinators = set w.coordinators at.coordinator c;
    logs = same_logs w at i;
    processes = same_processes w at i;
    restored = w.restored;
    follows = w.follows;
    down = w.down;
    messages = w.messages;
    replays = w.replays;
    sent = w.sent;
  }

  pub nothing : changed w at r (done (parts_at w at d)) ≡ w
  nothing = nothing_changed w at d r accepted

  pub acceptors_changed : (n : ℕ) → changed w at r (done (acceptors_now (parts_at w at d) n)) ≡ with_acceptors w n
  acceptors_changed n = none_sent _ _ ∙ ap (λ (v : World). with_acceptors v n) (all_back w at d r accepted)

  pub down_changed : (x : Down) → changed w at r (done (down_now (parts_at w at d) x)) ≡ with_down w x
  down_changed x = none_sent _ _ ∙ ap (λ (v : World). with_down v x) (all_back w at d r accepted)

  pub coordinator_changed : (c : Coordinator) → changed w at r (done (coordinator_now (parts_at w at d) c)) ≡ with_coordinator w at.coordinator c
  coordinator_changed c = none_sent _ _ ∙ coordinator_back c

  pub coordinator_learns : (c : Coordinator) (b : Batch)
      → changed w at r (learns (coordinator_now (parts_at w at d) c) b) ≡ with_learned w at.coordinator c b
  coordinator_learns c b = none_sent _ _ ∙ (λ i. record {
    acceptors = w.acceptors;
    slots = same_slots w at i;
    coordinators = set w.coordinators at.coordinator c;
    logs = set w.logs at.coordinator (feed (log_of w at.coordinator) (entries_of b));
    processes = same_processes w at i;
    restored = w.restored;
    follows = w.follows;
    down = w.down;
    messages = w.messages;
    replays = w.replays;
    sent = w.sent;
  })

  pub process_changed : (h : Process) → changed w at r (done (process_now (parts_at w at d) h)) ≡ with_process w at.process h
  process_changed h = none_sent _ _ ∙ (λ i. record {
    acceptors = w.acceptors;
    slots = same_slots w at i;
    coordinators = same_coordinators w at i;
    logs = same_logs w at i;
    processes = set w.processes at.process h;
    restored = w.restored;
    follows = w.follows;
    down = w.down;
    messages = w.messages;
    replays = w.replays;
    sent = w.sent;
  })

  pub process_takes : (h : Process) → changed w at r (takes_replay (process_now (parts_at w at d) h)) ≡ with_taken w at.process h r
  process_takes h = none_sent _ _ ∙ (λ i. record {
    acceptors = w.acceptors;
    slots = same_slots w at i;
    coordinators = same_coordinators w at i;
    logs = same_logs w at i;
    processes = set w.processes at.process h;
    restored = set w.restored at.process r;
    follows = w.follows;
    down = w.down;
    messages = w.messages;
    replays = w.replays;
    sent = w.sent;
  })

  pub process_follows : (h : Process)
      → changed w at r (keeps_follow (process_now (parts_at w at d) h)) ≡ with_followed w at.process h (with_follow (follows_of w at.process) d)
  process_follows h = none_sent _ _ ∙ (λ i. record {
    acceptors = w.acceptors;
    slots = same_slots w at i;
    coordinators = same_coordinators w at i;
    logs = same_logs w at i;
    processes = set w.processes at.process h;
    restored = w.restored;
    follows = set w.follows at.process (with_follow (follows_of w at.process) d);
    down = w.down;
    messages = w.messages;
    replays = w.replays;
    sent = w.sent;
  })

  pub process_starts : (h : Process) (x : Down)
      → changed w at r (starts_anew (down_now (process_now (parts_at w at d) h) x)) ≡ with_started w at.process h x
  process_starts h x = none_sent _ _ ∙ (λ i. record {
    acceptors = w.acceptors;
    slots = same_slots w at i;
    coordinators = same_coordinators w at i;
    logs = same_logs w at i;
    processes = set w.processes at.process h;
    restored = set w.restored at.process no_replay;
    follows = set w.follows at.process no_follows;
    down = x;
    messages = w.messages;
    replays = w.replays;
    sent = w.sent;
  })

  pub only_sends : (m : Message) → changed w at r (sending (parts_at w at d) 1 m) ≡ with_message w m
  only_sends m = one_sent _ m ∙ ap (λ (v : World). with_message v m) (all_back w at d r accepted)

  -- with its store's replay
  pub restore_sent : (m : Message)
      → changed w at r (gives_replay (parts_at w at d) m)
      ≡ posted w (adding_both (outbox_of w) w.sent m (replay_of (log_of w at.coordinator) (said_store m))) (w.sent + 1)
  restore_sent m =
      one_sent _ m
      ∙ ap (λ (v : World). posted v (adding_both (outbox_of v) v.sent m (replay_of (log_of w at.coordinator) (said_store m))) (v.sent + 1)) (all_back w at d r accepted)

  pub prepares_sent : (c : Coordinator) (n i b : ℕ)
      → changed w at r (sending (coordinator_now (parts_at w at d) c) n (prepare_to i b 0))
      ≡ send_to_all (with_coordinator w at.coordinator c) n (prepare_to i b)
  prepares_sent c n i b =
      same_sent _ (copy_of (prepare_to i b 0)) (prepare_to i b) (prepare_copy i b) n
      ∙ ap (λ (v : World). send_to_all v n (prepare_to i b)) (coordinator_back c)

  pub accepts_sent : (c : Coordinator) (n i b : ℕ) (v : Batch)
      → changed w at r (sending (coordinator_now (parts_at w at d) c) n (accept_to i b v 0))
      ≡ send_to_all (with_coordinator w at.coordinator c) n (accept_to i b v)
  accepts_sent c n i b v =
      same_sent _ (copy_of (accept_to i b v 0)) (accept_to i b v) (accept_copy i b v) n
      ∙ ap (λ (u : World). send_to_all u n (accept_to i b v)) (coordinator_back c)

-- at acceptor a's slot of instance i
abbrev pub slot_at : ℕ → ℕ → Places
slot_at a i = record { coordinator = 0; slot = a * instances + i; process = 0 }

pub slot_answers : (w : World) (r : Replay) (d : Message) (a i : ℕ) (x : AcceptorSlot) (m : Message)
    → changed w (slot_at a i) r (sending (slot_now (parts_at w (slot_at a i) d) x) 1 m) ≡ with_message (with_slot w a i x) m
slot_answers w r d a i x m = one_sent _ m ∙ (λ k. with_message (record {
  acceptors = w.acceptors;
  slots = set w.slots (a * instances + i) x;
  coordinators = same_coordinators w (slot_at a i) k;
  logs = same_logs w (slot_at a i) k;
  processes = same_processes w (slot_at a i) k;
  restored = w.restored;
  follows = w.follows;
  down = w.down;
  messages = w.messages;
  replays = w.replays;
  sent = w.sent;
}) m)
