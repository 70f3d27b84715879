-- The sent messages: which content has which number, and what sending adds.
use Prim.Native.Nat.{ℕ, zero, suc, ◌+◌, ◌≤◌, ◌<◌}
use mathlib.Core.Path.{◌≡◌, refl, sym, ap, subst, ◌∙◌}
use mathlib.Core.Logic.{◌⊎◌, inl, inr, ◌≢◌}
use mathlib.Core.List.{List}
use native.Mathlib.Decide.{ℕ_discrete}
use native.Mathlib.Omega.{arith}
use lib.ListN.{get_or, length, length-set, set}
use lib.Seq.{get_or-set_other, get_or-set_same}
use Rattle.log_core.specs.declared.Replay.{Replay}
use Rattle.model_steps.specs.Limits.{messages}
use Rattle.model_paxos.proofs.Grow.{New, NewAll, new, new_at}
use Rattle.model_protocol.specs.declared.Message.{Message}
use Rattle.model_protocol.specs.declared.World.{World}
use Rattle.log_core.specs.Replay.{no_replay}
use Rattle.model_protocol.specs.Message.{no_message}
use Rattle.model_protocol.specs.Send.{send_to_all}
use Rattle.model_agreement.specs.Content.{Content, content_of}

-- what was sent: the messages, and the replays that go with them
pub record Outbox : Type 0 where
  pub messages : List Message
  pub replays : List Replay

abbrev pub outbox_of : World → Outbox
outbox_of w = record { messages = w.messages; replays = w.replays }

-- what the message of number j says
abbrev pub content_in : Outbox → ℕ → Content
content_in ms j = content_of (get_or ms.messages j no_message) (get_or ms.replays j no_replay)

-- both rows have a place for every number
pub record Roomy (ms : Outbox) : Type 0 where
  pub message_row : length ms.messages ≡ messages
  pub replay_row : length ms.replays ≡ messages

-- of the first k of ms, the one of number j says x
pub record At (ms : Outbox) (k j : ℕ) (x : Content) : Type 0 where
  pub below : j < k
  pub is : content_in ms j ≡ x

pub record Sent (ms : Outbox) (k : ℕ) (x : Content) : Type 0 where
  pub number : ℕ
  pub at : At ms k number x

-- the first k' of ms' are the first k of ms and those that P tells, by number
pub record Posts (ms : Outbox) (k : ℕ) (ms' : Outbox) (k' : ℕ) (P : ℕ → Content → Type 0) : Type 0 where
  pub keeps : {j : ℕ} {x : Content} → At ms k j x → At ms' k' j x
  pub splits : {j : ℕ} {x : Content} → At ms' k' j x → At ms k j x ⊎ P j x
  pub room : Roomy ms'
  pub most : k' ≤ messages

-- one new message, of number k
abbrev pub OneNew : ℕ → Content → ℕ → Content → Type 0
OneNew k x j y = (j ≡ k) × New x y

abbrev pub AllNew : ℕ → (ℕ → Content) → ℕ → Content → Type 0
AllNew n f j y = NewAll n f y

-- ---- the message m is sent as number k, and its replay with it, where it has one

-- without a replay
abbrev pub adding : Outbox → ℕ → Message → Outbox
adding ms k m = record { messages = set ms.messages k m; replays = ms.replays }

abbrev pub adding_both : Outbox → ℕ → Message → Replay → Outbox
adding_both ms k m r = record { messages = set ms.messages k m; replays = set ms.replays k r }

-- rs are the replays then: only that of number k may be another
module _ (ms : Outbox) (k : ℕ) (m : Message) (rs : List Replay) (x : Content) (room : Roomy ms) (h : k < messages)
    (others : (j : ℕ) → j ≢ k → get_or rs j no_replay ≡ get_or ms.replays j no_replay) (size : length rs ≡ messages)
    (says : content_of m (get_or rs k no_replay) ≡ x) where
  abbrev after : Outbox
  after = record { messages = set ms.messages k m; replays = rs }

  one_new : At after (k + 1) k x
  one_new = record {
    below = omega arith;
    is = ap (λ y. content_of y (get_or rs k no_replay)) (get_or-set_same ms.messages k m no_message (rw room.message_row h)) ∙ says;
  }

  -- what an older one says
  older_same : (j : ℕ) → j ≢ k → content_in after j ≡ content_in ms j
  older_same j d = λ i. content_of (get_or-set_other ms.messages k j m no_message d i) (others j d i)

  one_kept : {j : ℕ} {y : Content} → At ms k j y → At after (k + 1) j y
  one_kept {j} a = record { below = omega (arith, a.below); is = older_same j (omega (arith, a.below)) ∙ a.is }

  one_split : {j : ℕ} {y : Content} → At after (k + 1) j y → At ms k j y ⊎ OneNew k x j y
  one_split {j} {y} a = go (ℕ_discrete j k)
    where
      go : Dec (j ≡ k) → At ms k j y ⊎ OneNew k x j y
      go (yes e) = inr (e, subst (λ z. New x z) (sym one_new.is ∙ rw e at a.is) new)
      go (no e) = inl (record { below = omega (arith, a.below); is = sym (older_same j e) ∙ a.is })

  one_posted : Posts ms k after (k + 1) (OneNew k x)
  one_posted = record {
    keeps = one_kept;
    splits = one_split;
    room = record { message_row = length-set ms.messages k m ∙ room.message_row; replay_row = size };
    most = omega arith;
  }

module _ (ms : Outbox) (k : ℕ) (m : Message) (room : Roomy ms) (h : k < messages) where
  pub at_new : At (adding ms k m) (k + 1) k (content_of m (get_or ms.replays k no_replay))
  at_new = one_new ms k m ms.replays _ room h (λ j d. refl) room.replay_row refl

  pub posts_one : Posts ms k (adding ms k m) (k + 1) (OneNew k (content_of m (get_or ms.replays k no_replay)))
  posts_one = one_posted ms k m ms.replays _ room h (λ j d. refl) room.replay_row refl

  pub posts_both : (r : Replay) → Posts ms k (adding_both ms k m r) (k + 1) (OneNew k (content_of m r))
  posts_both r =
      one_posted ms k m (set ms.replays k r) _ room h
      (λ j d. get_or-set_other ms.replays k j r no_replay d)
      (length-set ms.replays k r ∙ room.replay_row)
      (ap (λ y. content_of m y) (get_or-set_same ms.replays k r no_replay (rw room.replay_row h)))

-- ---- to each of n acceptors

-- with f 0, f 1 .. f (n - 1) from k on
abbrev pub filled : Outbox → ℕ → ℕ → (ℕ → Message) → Outbox
filled ms k zero f = ms
filled ms k (suc n) f = adding (filled ms k n f) (k + n) (f n)

-- the world with other messages
abbrev pub posted : World → Outbox → ℕ → World
posted w ms k = record {
  acceptors = w.acceptors;
  slots = w.slots;
  coordinators = w.coordinators;
  logs = w.logs;
  processes = w.processes;
  restored = w.restored;
  follows = w.follows;
  down = w.down;
  messages = ms.messages;
  replays = ms.replays;
  sent = k;
}

pub send_posts : (w : World) (n : ℕ) (f : ℕ → Message) → send_to_all w n f ≡ posted w (filled (outbox_of w) w.sent n f) (w.sent + n)
unfolding send_to_all
send_posts w zero f = ap (λ k. posted w (outbox_of w) k) (let e : w.sent ≡ w.sent + 0 = omega arith in e)
send_posts w (suc n) f =
    ap (λ v. posted v (adding (outbox_of v) v.sent (f n)) (v.sent + 1)) (send_posts w n f)
    ∙ ap (λ k. posted w (adding (filled (outbox_of w) w.sent n f) (w.sent + n) (f n)) k)
    (let e : w.sent + n + 1 ≡ w.sent + suc n = omega arith in e)

-- the messages f say x, and no replay goes with them
module _ (f : ℕ → Message) (x : ℕ → Content) (says : (a : ℕ) (r : Replay) → content_of (f a) r ≡ x a) where
  module _ {ms : Outbox} {k n : ℕ} (h : k + suc n ≤ messages) (before : Posts ms k (filled ms k n f) (k + n) (AllNew n x)) where
    older : {j : ℕ} {y : Content} → At ms k j y ⊎ NewAll n x y → At ms k j y ⊎ NewAll (suc n) x y
    older (inl a) = inl a
    older (inr (new_at a l)) = inr (new_at a (omega arith))

    last : {y : Content} → New (x n) y → NewAll (suc n) x y
    last new = new_at n (omega arith)

    either : {j : ℕ} {y : Content} → At (filled ms k n f) (k + n) j y ⊎ OneNew (k + n) (x n) j y → At ms k j y ⊎ NewAll (suc n) x y
    either (inl a) = older (before.splits a)
    either (inr p) = inr (last p.1)

    next : Posts (filled ms k n f) (k + n) (filled ms k (suc n) f) (k + n + 1) (OneNew (k + n) (x n))
    next =
        one_posted (filled ms k n f) (k + n) (f n) (filled ms k n f).replays (x n) before.room (omega arith) (λ j d. refl)
        before.room.replay_row (says n _)

    posts_more : Posts ms k (filled ms k (suc n) f) (k + suc n) (AllNew (suc n) x)
    posts_more = record {
      keeps = λ a. let b = next.keeps (before.keeps a) in record { below = omega (arith, b.below); is = b.is };
      splits = λ a. either (next.splits (record { below = omega (arith, a.below); is = a.is }));
      room = next.room;
      most = h;
    }

  pub posts_all : (ms : Outbox) (k n : ℕ) → Roomy ms → k + n ≤ messages → Posts ms k (filled ms k n f) (k + n) (AllNew n x)
  posts_all ms k zero e h = record {
    keeps = λ a. record { below = omega (arith, a.below); is = a.is };
    splits = λ a. inl (record { below = omega (arith, a.below); is = a.is });
    room = e;
    most = h;
  }
  posts_all ms k (suc n) e h = posts_more h (posts_all ms k n e (omega arith))
