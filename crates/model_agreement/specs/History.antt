-- Document 01, "Whole lists of steps": what was opened, sent and delivered, and its words that are
-- defined by that alone. The newest event stands first.
use Rattle.std.specs.Prelude.{ℕ, ◌≤◌, ◌<◌, Bool, false, cond, ◌&&◌, ◌||◌, not, List, [], ◌∷◌, ◌≢◌, T, eqb, is_ok, ltb}
use Rattle.log_entry.specs.declared.Entry.{Entry}
use Rattle.log_entry.specs.Bits.{has}
use Rattle.log_entry.specs.Limits.{first_turn}
use Rattle.log_votes.specs.declared.Outcome.{Outcome}
use Rattle.log_votes.specs.declared.Outcome.TheVariants as outcome
use Rattle.log_core.specs.declared.Replay.{Replay}
use Rattle.model_steps.specs.declared.Step.{Step}
use Rattle.model_steps.specs.declared.Step.TheVariants as step
use Rattle.model_steps.specs.declared.Step.TheVariants.{Setup, Request, Open, Propose, Deliver, Tell, Restore, Crash, Back}
use Rattle.model_paxos.specs.Majority.{Majority}
use Rattle.model_paxos.specs.Messages.{accept, accepted, prepare}
use Rattle.model_protocol.specs.Batch.{Batch}
use Rattle.model_protocol.specs.declared.World.{World}
use Rattle.log_core.specs.Replay.{no_replay}
use Rattle.model_protocol.specs.Step.{step_of}
use Rattle.model_protocol.specs.World.{fresh_world, message_of, replay_with}
use Rattle.model_agreement.specs.Content.{Content, content_of, follow, paxos, request, restore, tell}

-- ---- "Opened, sent and delivered mean by a step answered 0."

pub data Event : Type 0 where
  -- the number of acceptors
  setup : ℕ → Event
  -- an entry was sent by a `take` or `vote`
  asked : Entry → Event
  -- coordinator, instance, ballot
  opened : ℕ → ℕ → ℕ → Event
  -- coordinator, number of the message: a restore was sent
  restoring : ℕ → ℕ → Event
  -- number, content: a message was delivered
  delivered : ℕ → Content → Event
  -- process, turn: a process came back
  back : ℕ → ℕ → Event

abbrev pub note : World → Step → List Event → List Event
note w (Setup n) h = setup n ∷ h
note w (Request e to) h = asked e ∷ h
note w (Open c i b) h = opened c i b ∷ h
note w (Propose c i b) h = h
note w (Deliver m) h = delivered m (content_of (message_of w m) (replay_with w m)) ∷ h
note w (Tell c p tx) h = h
note w (Restore c p) h = restoring c w.sent ∷ h
note w (step.Follow c p tx) h = h
note w (Crash role id) h = h
note w (Back p t) h = back p t ∷ h

unfoldable pub noted : World → Step → List Event → List Event
noted w s h = cond (is_ok (step_of w s).answer) (note w s h) h

unfoldable pub history_from : World → List Event → List Step → List Event
history_from w h [] = h
history_from w h (s ∷ steps) = history_from (step_of w s).world (noted w s h) steps

-- the history of a list of steps from the fresh world
abbrev pub history : List Step → List Event
history steps = history_from fresh_world [] steps

-- how many acceptors there are, 0 before setup
abbrev pub acceptors : List Event → ℕ
acceptors [] = 0
acceptors (setup n ∷ h) = n
acceptors (asked e ∷ h) = acceptors h
acceptors (opened c i b ∷ h) = acceptors h
acceptors (restoring c m ∷ h) = acceptors h
acceptors (delivered m x ∷ h) = acceptors h
acceptors (back p t ∷ h) = acceptors h

-- the turn that p came back with last, "1 at setup"
abbrev pub turn_now : ℕ → List Event → ℕ
turn_now p [] = first_turn
turn_now p (setup n ∷ h) = turn_now p h
turn_now p (asked e ∷ h) = turn_now p h
turn_now p (opened c i b ∷ h) = turn_now p h
turn_now p (restoring c m ∷ h) = turn_now p h
turn_now p (delivered m x ∷ h) = turn_now p h
turn_now p (back q t ∷ h) = cond (eqb p q) t (turn_now p h)

-- the event e happened, and h₀ is the history before it
pub data Before (e : Event) (h₀ : List Event) : List Event → Type 0 where
  now : Before e h₀ (e ∷ h₀)
  earlier : {x : Event} {h : List Event} → Before e h₀ h → Before e h₀ (x ∷ h)

abbrev pub Happened : Event → List Event → Type 0
Happened e h = (h₀ : List Event) × Before e h₀ h

-- the content was delivered
pub data Got (x : Content) : List Event → Type 0 where
  here : {m : ℕ} {h : List Event} → Got x (delivered m x ∷ h)
  there : {e : Event} {h : List Event} → Got x h → Got x (e ∷ h)

-- ---- "An acceptor accepts a batch in an instance under b when an accept of all three is delivered
-- to it and no prepare or accept above b in that instance was delivered to it before."

pub record NoneAbove (i b a : ℕ) (h : List Event) : Type 0 where
  pub prepares : {c : ℕ} → Got (paxos (prepare i c a)) h → c ≤ b
  pub accepts : {c : ℕ} {v : Batch} → Got (paxos (accept i c a v)) h → c ≤ b

pub data Accepts (i b a : ℕ) (v : Batch) : List Event → Type 0 where
  first : {m : ℕ} {h : List Event} → NoneAbove i b a h → Accepts i b a v (delivered m (paxos (accept i b a v)) ∷ h)
  later : {e : Event} {h : List Event} → Accepts i b a v h → Accepts i b a v (e ∷ h)

-- "The sequence: the batches more than half of the acceptors accepted under one ballot"
pub record Decided (n i b : ℕ) (v : Batch) (h : List Event) : Type 0 where
  pub set : ℕ
  pub most : Majority n set
  pub all : (a : ℕ) → T (has set a) → Accepts i b a v h

-- ---- "A coordinator learns an instance when, for a ballot it opened there, acceptances from a
-- majority are delivered to it before it opens another." An acceptance goes to its ballot's
-- coordinator, who alone may open that ballot.

-- e is no opening by k
abbrev pub Other : ℕ → Event → Type 0
Other k (setup n) = Unit {0}
Other k (asked e) = Unit {0}
Other k (opened j i b) = k ≢ j
Other k (restoring j m) = Unit {0}
Other k (delivered m x) = Unit {0}
Other k (back p t) = Unit {0}

-- the last ballot that k opened is b, in i
pub data LastOpened (k i b : ℕ) : List Event → Type 0 where
  opening : {h : List Event} → LastOpened k i b (opened k i b ∷ h)
  without_messages : {e : Event} {h : List Event} → Other k e → LastOpened k i b h → LastOpened k i b (e ∷ h)

-- and since then the acceptance of a was delivered
pub data Since (k i b a : ℕ) : List Event → Type 0 where
  heard : {m : ℕ} {h : List Event} → LastOpened k i b h → Since k i b a (delivered m (paxos (accepted i b a)) ∷ h)
  kept : {e : Event} {h : List Event} → Other k e → Since k i b a h → Since k i b a (e ∷ h)

pub data Learns (n k i : ℕ) : List Event → Type 0 where
  learns : {h : List Event} (b set : ℕ) → Majority n set → ((a : ℕ) → T (has set a) → Since k i b a h) → Learns n k i h
  before : {e : Event} {h : List Event} → Learns n k i h → Learns n k i (e ∷ h)

-- "Its applied count [..] is how many it learned": it learned p instances, the first ones
pub record Applied (n k p : ℕ) (h : List Event) : Type 0 where
  pub learned : (i : ℕ) → i < p → Learns n k i h
  pub only : (i : ℕ) → Learns n k i h → i < p

-- ---- what the deliveries since process p last came back make of a value, the newest last. It has
-- the value `start` of its turn then, and at first

abbrev pub over_deliveries : {A : Type 0} → ℕ → (ℕ → Content → A → A) → (ℕ → A) → List Event → A
over_deliveries p f start [] = start first_turn
over_deliveries p f start (setup n ∷ h) = over_deliveries p f start h
over_deliveries p f start (asked e ∷ h) = over_deliveries p f start h
over_deliveries p f start (opened c i b ∷ h) = over_deliveries p f start h
over_deliveries p f start (restoring c m ∷ h) = over_deliveries p f start h
over_deliveries p f start (delivered m x ∷ h) = f m x (over_deliveries p f start h)
over_deliveries p f start (back q t ∷ h) = cond (eqb p q) (start t) (over_deliveries p f start h)

-- "A process heard what the tells delivered to it say."
abbrev pub hears : ℕ → ℕ → ℕ → Content → Outcome → Outcome
hears p tx m (paxos x) o = o
hears p tx m (request k e) o = o
hears p tx m (tell q t o') o = cond (eqb p q && eqb tx t) o' o
hears p tx m (restore q t s i r running) o = o
hears p tx m (follow q s t o' u) o = o

-- what p heard of tx last since it last came back, open if nothing
abbrev pub heard_of : ℕ → ℕ → List Event → Outcome
heard_of p tx h = over_deliveries p (hears p tx) (λ _. outcome.Open) h

-- a follow, as it was taken
pub record Follow : Type 0 where
  pub tx : ℕ
  pub outcome : Outcome
  pub update : ℕ

-- the restore that was taken last, and the follows taken since
pub record Restored : Type 0 where
  -- the turn in which the process is
  pub turn : ℕ
  -- of the message
  pub number : ℕ
  pub store : ℕ
  pub position : ℕ
  pub replay : Replay
  -- the transactions listed as running, as a set
  pub running : ℕ
  -- the newest first
  pub follows : List Follow

-- one for the transaction was taken
abbrev pub is_followed : ℕ → List Follow → Bool
is_followed tx [] = false
is_followed tx (f ∷ fs) = eqb tx f.tx || is_followed tx fs

-- a restore was taken, and the last one was of the store
abbrev pub is_of : Restored → ℕ → Bool
is_of r store = ltb 0 r.position && eqb r.store store

-- "exactly if it is for its last restore's store and a transaction listed there as running, and none
-- for that transaction was taken since that restore"
abbrev pub is_taken : Restored → ℕ → ℕ → Bool
is_taken r store tx = is_of r store && has r.running tx && not (is_followed tx r.follows)

abbrev pub with_follow : Restored → Follow → Restored
with_follow r f = record {
  turn = r.turn;
  number = r.number;
  store = r.store;
  position = r.position;
  replay = r.replay;
  running = r.running;
  follows = f ∷ r.follows;
}

-- a restore "exactly if its position is above the last it took, 0 at first", and "only at that
-- turn" which it names; and a follow
abbrev pub takes : ℕ → ℕ → Content → Restored → Restored
takes p m (paxos x) r = r
takes p m (request k e) r = r
takes p m (tell q t o) r = r
takes p m (restore q t s i rows running) r =
    cond (eqb p q && (eqb r.turn t && ltb r.position i))
    (record { turn = r.turn; number = m; store = s; position = i; replay = rows; running = running; follows = [] })
    r
takes p m (follow q s tx o u) r = cond (eqb p q && is_taken r s tx) (with_follow r (record { tx = tx; outcome = o; update = u })) r

-- in this turn none was taken yet
abbrev pub none_taken : ℕ → Restored
none_taken turn = record { turn = turn; number = 0; store = 0; position = 0; replay = no_replay; running = 0; follows = [] }

-- "Its restored store is that of the last restore it took", since it last came back; position 0 if
-- it took none
abbrev pub restored_of : ℕ → List Event → Restored
restored_of p h = over_deliveries p (takes p) none_taken h
