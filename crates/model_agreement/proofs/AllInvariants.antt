-- All invariants together hold after every list of steps.
use Prim.Native.Nat.{ℕ, ◌+◌, ◌*◌, ◌≤◌, ◌<◌}
use mathlib.Core.Path.{◌≡◌, refl, sym, subst, subst₂, ◌∙◌}
use mathlib.Core.Logic.{◌⊎◌, inl, inr}
use mathlib.Core.List.Memᴰ
use mathlib.Core.List.{List, [], ◌∷◌, ◌++◌}
use native.Mathlib.Omega.{arith}
use lib.ListN.{get_or, length, length-replicate, replicate}
use lib.Pow.{pow_pos}
use Rattle.log_entry.specs.declared.Entry.{Entry}
use Rattle.log_core.specs.Enter.{feed}
use Rattle.log_core.specs.Log.{empty_log}
use Rattle.model_steps.specs.declared.Step.{Step}
use Rattle.model_steps.specs.Limits.{coordinators, instances, messages, most_acceptors}
use Rattle.log_entry.specs.Limits.{first_turn, process_places, transactions}
use Rattle.model_paxos.specs.Messages.{Paxos}
use Rattle.model_paxos.specs.Rules.{Core}
use Rattle.model_paxos.proofs.Grow.{AccOk, CoOk}
use Rattle.model_paxos.proofs.Sets.{few_zero, has_zero, has←, meet}
use Rattle.model_protocol.specs.declared.World.{World}
use Rattle.model_protocol.specs.Batch.{Batch, no_entry}
use Rattle.model_protocol.specs.Limits.{slot_places, queue_places}
use Rattle.log_core.specs.Replay.{no_replay}
use Rattle.model_protocol.specs.Message.{no_message}
use Rattle.model_protocol.specs.Queue.{queue_of}
use Rattle.model_protocol.specs.Step.{run, step_of}
use Rattle.model_protocol.specs.World.{empty_slot, fresh_coordinator, fresh_process, fresh_world, no_follows}
use Rattle.model_agreement.specs.Bounds.{CellRange, CoRange}
use Rattle.model_agreement.specs.Plain.{plain_log}
use Rattle.model_agreement.specs.Content.{Content}
use Rattle.model_agreement.specs.History.{Accepts, Before, Event, Got, LastOpened, Learns, Since, acceptors, asked, back, before, delivered, earlier, here, history, heard_of, history_from, kept, later, learns, noted, opened, restored_of, restoring, setup, without_messages, there}
use Rattle.model_agreement.proofs.Arrays.{same_each}
use Rattle.model_agreement.proofs.HistoryKept.{Hist, hist_move}
use Rattle.model_agreement.proofs.BallotInvariant.{Inv, Said, attempt, holding, inv_move, sent_up}
use Rattle.model_agreement.proofs.FollowsKept.{KeepsAll}
use Rattle.model_agreement.proofs.ProcessesKeep.{Keeps, Kept, kept_move, started_follows, started_keeps}
use Rattle.model_agreement.proofs.Range.{Range, range_move}
use Rattle.model_agreement.proofs.Recorded.{AccHist, CoHist}
use Rattle.model_agreement.proofs.LogsAndProcesses.{CoFact, Later, Rest, more, rest_move, same}
use Rattle.model_agreement.proofs.Shape.{QueueOk, Shape, none_followed, none_heard, shape_move}
use Rattle.model_agreement.proofs.StepEffects.{Move, Trans, asks, comes_back_lem, counts, crashes, follows, hears, is_told, joins, moves, opens, passes_accept, passes_accepted, passes_follow, passes_prepare, passes_promise, passes_request, passes_restore, promises, proposes, refused, restores, sets_up, takes, takes_follow_lem, tells, trans, votes}
use Rattle.model_agreement.proofs.StepEffects as t
use Rattle.model_agreement.proofs.Turns.{AskedInTurn, in_turn_move}
use Rattle.model_agreement.proofs.SentMessages.{At, Outbox, Posts, Sent, outbox_of}
use Rattle.model_agreement.proofs.ChangedWorld.{with_acceptors}

-- ---- what was delivered was sent

pub record GotIn (ms : Outbox) (k : ℕ) (h : List Event) : Type 0 where
  pub was : {x : Content} → Got x h → Sent ms k x

abbrev pub Delivered : World → List Event → Type 0
Delivered w h = GotIn (outbox_of w) w.sent h

pub record Good (w : World) (h : List Event) : Type 0 where
  pub shape : Shape w
  pub few : w.acceptors ≤ most_acceptors
  pub range : Range w
  pub inv : Inv w
  pub hist : Hist w h
  pub rest : Rest w h
  pub kept : Kept w h
  pub got : Delivered w h
  pub asked_in_turn : AskedInTurn h
  pub number : acceptors h ≡ w.acceptors
  -- before setup nothing happens
  pub unset : w.acceptors ≡ 0 → (w ≡ fresh_world) × (h ≡ [])

module _ {ms : Outbox} {k : ℕ} {h : List Event} (G : GotIn ms k h) where
  got_more : {ms' : Outbox} {k' : ℕ} {P : ℕ → Content → Type 0} → Posts ms k ms' k' P → GotIn ms' k' h
  got_more p = record { was = λ g. sent_up p (G.was g) }

  -- the message of number j is delivered
  got_one : {j : ℕ} {y : Content} → At ms k j y → GotIn ms k (delivered j y ∷ h)
  got_one {j} {y} a = record { was = λ g. go a g }
    where
      go : {x y : Content} → At ms k j y → Got x (delivered j y ∷ h) → Sent ms k x
      go a here = record { number = j; at = a }
      go a (there g) = G.was g

  got_asked : {e : Entry} → GotIn ms k (asked e ∷ h)
  got_asked {e} = record { was = λ g. go g }
    where
      go : {x : Content} → Got x (asked e ∷ h) → Sent ms k x
      go (there g) = G.was g

  got_opened : {c i b : ℕ} → GotIn ms k (opened c i b ∷ h)
  got_opened {c} {i} {b} = record { was = λ g. go g }
    where
      go : {x : Content} → Got x (opened c i b ∷ h) → Sent ms k x
      go (there g) = G.was g

  got_back : {p t : ℕ} → GotIn ms k (back p t ∷ h)
  got_back {p} {t} = record { was = λ g. go g }
    where
      go : {x : Content} → Got x (back p t ∷ h) → Sent ms k x
      go (there g) = G.was g

  got_restoring : {c m : ℕ} → GotIn ms k (restoring c m ∷ h)
  got_restoring {c} {m} = record { was = λ g. go g }
    where
      go : {x : Content} → Got x (restoring c m ∷ h) → Sent ms k x
      go (there g) = G.was g

got_move : {w w' : World} {h h' : List Event} → Delivered w h → Move w h w' h' → Delivered w' h'
got_move G (asks e k ms c _ _ p) = got_asked (got_more G p)
got_move G (opens k i b ms c _ _ _ _ _ _ p) = got_opened (got_more G p)
got_move G (proposes k i b v ms c _ _ _ _ _ _ _ _ p) = got_more G p
got_move G (tells k q tx ms c _ _ _ p) = got_more G p
got_move G (restores k q ms c _ _ _ p) = got_restoring (got_more G p)
got_move G (follows k q tx ms c _ _ _ _ _ p) = got_more G p
got_move G (crashes d) = G
got_move G (comes_back_lem p t d _ _) = got_back G
got_move G (promises j i b a ms c s _ p) = got_more (got_one G s) p
got_move G (passes_prepare j i b a s _) = got_one G s
got_move G (votes j i b a v ms c s _ p _) = got_more (got_one G s) p
got_move G (passes_accept j i b a v s _) = got_one G s
got_move G (hears j i b a d v d' v' s _ _ _) = got_one G s
got_move G (passes_promise j i b a d v s) = got_one G s
got_move G (counts j i b a s _ _ _) = got_one G s
got_move G (t.learns j i b a s _ _ _) = got_one G s
got_move G (passes_accepted j i b a s _) = got_one G s
got_move G (joins j k e s _) = got_one G s
got_move G (passes_request j k e s) = got_one G s
got_move G (is_told j p tx o s) = got_one G s
got_move G (takes j p t z i r n s _) = got_one G s
got_move G (passes_restore j p t z i r n s _) = got_one G s
got_move G (takes_follow_lem j p z tx o u s _) = got_one G s
got_move G (passes_follow j p z tx o u s _) = got_one G s

-- ---- the number of acceptors stays, and the history grows by at most one event

pub record Goes (w : World) (h : List Event) (w' : World) (h' : List Event) : Type 0 where
  pub number : acceptors h' ≡ acceptors h
  pub kept : w'.acceptors ≡ w.acceptors
  pub later : Later h h'

goes : {w w' : World} {h h' : List Event} → Move w h w' h' → Goes w h w' h'
goes (asks e k ms c _ _ p) = record { number = refl; kept = refl; later = more _ }
goes (opens k i b ms c _ _ _ _ _ _ p) = record { number = refl; kept = refl; later = more _ }
goes (proposes k i b v ms c _ _ _ _ _ _ _ _ p) = record { number = refl; kept = refl; later = same }
goes (tells k q tx ms c _ _ _ p) = record { number = refl; kept = refl; later = same }
goes (restores k q ms c _ _ _ p) = record { number = refl; kept = refl; later = more _ }
goes (follows k q tx ms c _ _ _ _ _ p) = record { number = refl; kept = refl; later = same }
goes (crashes d) = record { number = refl; kept = refl; later = same }
goes (comes_back_lem p t d _ _) = record { number = refl; kept = refl; later = more _ }
goes (promises j i b a ms c s _ p) = record { number = refl; kept = refl; later = more _ }
goes (passes_prepare j i b a s _) = record { number = refl; kept = refl; later = more _ }
goes (votes j i b a v ms c s _ p _) = record { number = refl; kept = refl; later = more _ }
goes (passes_accept j i b a v s _) = record { number = refl; kept = refl; later = more _ }
goes (hears j i b a d v d' v' s _ _ _) = record { number = refl; kept = refl; later = more _ }
goes (passes_promise j i b a d v s) = record { number = refl; kept = refl; later = more _ }
goes (counts j i b a s _ _ _) = record { number = refl; kept = refl; later = more _ }
goes (t.learns j i b a s _ _ _) = record { number = refl; kept = refl; later = more _ }
goes (passes_accepted j i b a s _) = record { number = refl; kept = refl; later = more _ }
goes (joins j k e s _) = record { number = refl; kept = refl; later = more _ }
goes (passes_request j k e s) = record { number = refl; kept = refl; later = more _ }
goes (is_told j p tx o s) = record { number = refl; kept = refl; later = more _ }
goes (takes j p t z i r n s _) = record { number = refl; kept = refl; later = more _ }
goes (passes_restore j p t z i r n s _) = record { number = refl; kept = refl; later = more _ }
goes (takes_follow_lem j p z tx o u s _) = record { number = refl; kept = refl; later = more _ }
goes (passes_follow j p z tx o u s _) = record { number = refl; kept = refl; later = more _ }

-- ---- the fresh world, before setup and after

-- nothing happened, but for the setup of n acceptors
data Blank : ℕ → List Event → Type 0 where
  nothing : Blank 0 []
  only_setup : (n : ℕ) → Blank n (setup n ∷ [])

no_got : {n : ℕ} {h : List Event} {x : Content} → Blank n h → Got x h → ⊥
no_got nothing g = elim g [ ]
no_got (only_setup n) (there g) = elim g [ ]

no_asked : {n : ℕ} {h then : List Event} {e : Entry} → Blank n h → Before (asked e) then h → ⊥
no_asked nothing y = elim y [ ]
no_asked (only_setup n) (earlier y) = elim y [ ]

no_accepts : {n : ℕ} {h : List Event} {i b a : ℕ} {v : Batch} → Blank n h → Accepts i b a v h → ⊥
no_accepts nothing y = elim y [ ]
no_accepts (only_setup n) (later y) = elim y [ ]

no_last : {n : ℕ} {h : List Event} {k i b : ℕ} → Blank n h → LastOpened k i b h → ⊥
no_last nothing y = elim y [ ]
no_last (only_setup n) (without_messages o y) = elim y [ ]

no_since : {n : ℕ} {h : List Event} {k i b a : ℕ} → Blank n h → Since k i b a h → ⊥
no_since nothing y = elim y [ ]
no_since (only_setup n) (kept o y) = elim y [ ]

no_majority : {n k i m : ℕ} {h : List Event} → Blank m h → Learns n k i h → ⊥
no_majority {n = n} z (learns b q m f) = let t = meet n q q m m in no_since z (f t.0 (has← q t.0 t.1))
no_majority (only_setup m) (before y) = no_majority nothing y

nothing_sent : {ms : Outbox} {m : Paxos Batch} → Said ms 0 m → ⊥
nothing_sent s = omega (arith, s.sent.at.below)

at_none : {ms : Outbox} {j : ℕ} {x : Content} → At ms 0 j x → ⊥
at_none a = omega (arith, a.below)

-- the rows of the fresh world
abbrev empty_box : Outbox
empty_box = record { messages = replicate messages no_message; replays = replicate messages no_replay }

fresh_keeps : {n : ℕ} {h : List Event} → Blank n h → (p : ℕ) → Keeps (restored_of p h) (λ tx. heard_of p tx h) fresh_process
fresh_keeps nothing p = started_keeps first_turn
fresh_keeps (only_setup m) p = started_keeps first_turn

fresh_follows : {n : ℕ} {h : List Event} → Blank n h → (p : ℕ) → KeepsAll fresh_process no_follows (restored_of p h).follows
fresh_follows nothing p = started_follows first_turn no_follows
fresh_follows (only_setup m) p = started_follows first_turn no_follows

fresh_replay : {n : ℕ} {h : List Event} → Blank n h → (p : ℕ) → no_replay ≡ (restored_of p h).replay
fresh_replay nothing p = refl
fresh_replay (only_setup m) p = refl

not_taken : {n : ℕ} {h : List Event} → Blank n h → (p : ℕ) → 0 < (restored_of p h).position → ⊥
not_taken nothing p l = omega arith
not_taken (only_setup m) p l = omega arith

fresh_number : {n : ℕ} {h : List Event} → Blank n h → acceptors h ≡ n
fresh_number nothing = refl
fresh_number (only_setup m) = refl

module _ (n : ℕ) where
  fresh_shape : Shape (with_acceptors fresh_world n)
  unfolding fresh_world
  fresh_shape = record {
    slot_row = length-replicate slot_places empty_slot;
    co_row = length-replicate coordinators fresh_coordinator;
    log_row = length-replicate coordinators empty_log;
    process_row = length-replicate process_places fresh_process;
    restored_row = length-replicate process_places no_replay;
    follows_row = length-replicate process_places no_follows;
    room = record { message_row = length-replicate messages no_message; replay_row = length-replicate messages no_replay };
    sent_most = omega arith;
    heard = λ p. subst (λ x. length x.heard ≡ transactions) (same_each process_places p fresh_process) (none_heard first_turn);
    followed = λ p. subst (λ x. length x.of ≡ transactions) (same_each process_places p no_follows) none_followed;
    queues = λ k. subst (λ c. QueueOk c.queue) (same_each coordinators k fresh_coordinator) queue;
  }
    where
      queue : QueueOk fresh_coordinator.queue
      queue = unfold fresh_coordinator queue_of in record { places = length-replicate queue_places no_entry; count = omega arith }

  fresh_range : Range (with_acceptors fresh_world n)
  unfolding fresh_world fresh_coordinator
  fresh_range = record {
    sent = λ a. absurd (at_none a);
    slots = λ k. subst (λ x. CellRange x) (same_each slot_places k empty_slot) (record { promised = omega arith; ballot = omega arith });
    cos =
        λ k. subst (λ c. CoRange n c) (same_each coordinators k fresh_coordinator)
        (record {
          applied = omega arith;
          room = λ h. absurd (omega arith);
          ballot = omega arith;
          accepted = omega arith;
          promises = pow_pos n;
          acceptances = pow_pos n;
        });
  }

  fresh_core : {ms : Outbox} → Core n (Said ms 0)
  fresh_core = record {
    last = λ s. absurd (nothing_sent s);
    asked = λ s. absurd (nothing_sent s);
    one = λ s. absurd (nothing_sent s);
    positive = λ s. absurd (nothing_sent s);
    why = λ s. absurd (nothing_sent s);
    bound = λ s. absurd (nothing_sent s);
    accepted = λ s. absurd (nothing_sent s);
    prior = λ s. absurd (nothing_sent s);
  }

  fresh_co : {ms : Outbox} (k : ℕ) → CoOk n (Said ms 0) k fresh_coordinator.applied (attempt fresh_coordinator.round)
  unfolding fresh_coordinator
  fresh_co k = record {
    room = λ h. absurd (omega arith);
    own = λ h. absurd (omega arith);
    used = λ s. absurd (nothing_sent s);
    heard = λ a h. absurd (has_zero a h);
    best = inl refl;
    counted = λ a h. absurd (has_zero a h);
    earlier = λ j h. absurd (omega arith);
  }

  fresh_inv : Inv (with_acceptors fresh_world n)
  unfolding fresh_world
  fresh_inv = record {
    core = fresh_core;
    acc =
        λ a i g. subst (λ x. AccOk (Said empty_box 0) a i (holding x)) (same_each slot_places (a * instances + i) empty_slot)
        (record { promises = λ s. absurd (nothing_sent s); votes = λ s. absurd (nothing_sent s); order = omega arith; pair = inl refl });
    co =
        λ k. subst (λ c. CoOk n (Said empty_box 0) k c.applied (attempt c.round))
        (same_each coordinators k fresh_coordinator)
        (fresh_co k);
  }

  module _ {h : List Event} (z : Blank n h) where
    fresh_says : (k : ℕ) → CoHist n h k fresh_coordinator.applied fresh_coordinator.round.ballot fresh_coordinator.round.acceptances
    unfolding fresh_coordinator
    fresh_says k = record {
      now = record {
        last = λ y. absurd (omega arith);
        latest = λ y. absurd (no_last z y);
        in_set = λ a y. absurd (has_zero a y);
        set_in = λ a y. absurd (no_since z y);
        few = few_zero n;
      };
      learnt = λ i y. absurd (omega arith);
      counted = λ i y. absurd (no_majority z y);
    }

    fresh_hist : Hist (with_acceptors fresh_world n) h
    unfolding fresh_world
    fresh_hist = record {
      acc =
          λ a i g. subst (λ x. AccHist h (Said empty_box 0) a i x.promised) (same_each slot_places (a * instances + i) empty_slot)
          (record {
            top = record { prepares = λ y. absurd (no_got z y); accepts = λ y. absurd (no_got z y) };
            least = λ b N. omega arith;
            voted = λ s. absurd (nothing_sent s);
            told = λ y. absurd (no_accepts z y);
          });
      co =
          λ k. subst (λ c. CoHist n h k c.applied c.round.ballot c.round.acceptances) (same_each coordinators k fresh_coordinator)
          (fresh_says k);
    }

    fresh_fact : {ms : Outbox} → CoFact n h (Said ms 0) fresh_coordinator empty_log
    unfolding fresh_coordinator plain_log feed queue_of
    fresh_fact = record {
      fed = record { batches = []; size = refl; front = record { each = λ j g. absurd (omega arith) }; is = refl };
      queue = λ e t. absurd (Memᴰ.not-nil t);
    }

    fresh_rest : Rest (with_acceptors fresh_world n) h
    unfolding fresh_world
    fresh_rest = record {
      sent = λ a. absurd (at_none a);
      cos =
          λ k. subst (λ c. CoFact n h (Said empty_box 0) c (get_or (replicate coordinators empty_log) k empty_log)) (same_each coordinators k fresh_coordinator)
          (subst (λ l. CoFact n h (Said empty_box 0) fresh_coordinator l) (same_each coordinators k empty_log) fresh_fact);
    }

  fresh_kept : {h : List Event} → Blank n h → Kept (with_acceptors fresh_world n) h
  unfolding fresh_world
  fresh_kept {h} z = record {
    each = λ p. subst (λ x. Keeps (restored_of p h) (λ tx. heard_of p tx h) x) (same_each process_places p fresh_process) (fresh_keeps z p);
    replays = λ p. sym (same_each process_places p no_replay) ∙ fresh_replay z p;
    follows =
        λ p. subst₂ (λ x y. KeepsAll x y (restored_of p h).follows) (same_each process_places p fresh_process) (same_each process_places p no_follows) (fresh_follows z p);
    taken = λ p l. absurd (not_taken z p l);
  }

  good_fresh : {h : List Event} → n ≤ most_acceptors → Blank n h
      → (n ≡ 0 → (with_acceptors fresh_world n ≡ fresh_world) × (h ≡ [])) → Good (with_acceptors fresh_world n) h
  good_fresh g z f = record {
    shape = fresh_shape;
    few = g;
    range = fresh_range;
    inv = fresh_inv;
    hist = fresh_hist z;
    rest = fresh_rest z;
    kept = fresh_kept z;
    got = record { was = λ y. absurd (no_got z y) };
    asked_in_turn = λ e then y. absurd (no_asked z y);
    number = fresh_number z;
    unset = f;
  }

-- ---- the steps

good_move : {w w' : World} {h h' : List Event} → 0 < w.acceptors → Good w h → Move w h w' h' → Good w' h'
good_move {w} {w'} {h} l G m =
    let e = goes m in
    record {
      shape = shape_move G.shape m;
      few = rw e.kept G.few;
      range = range_move G.range m;
      inv = inv_move G.shape G.few G.range G.inv m;
      hist = hist_move G.shape G.few G.range G.inv G.hist m;
      rest = rest_move G.shape G.range G.inv G.hist G.rest m;
      kept = kept_move h G.shape G.range G.kept m;
      got = got_move G.got m;
      asked_in_turn = in_turn_move w h G.kept G.asked_in_turn m;
      number = e.number ∙ G.number ∙ sym e.kept;
      unset = λ d. absurd (omega (arith, e.kept));
    }

good_setup : {w : World} {h : List Event} (n : ℕ) → 0 < n → n ≤ most_acceptors → (w ≡ fresh_world) × (h ≡ [])
    → Good (with_acceptors w n) (setup n ∷ h)
good_setup n l g e = rw (e.0, e.1) (good_fresh n g (only_setup n) (λ d. absurd (omega arith)))

good_trans : {w w' : World} {h h' : List Event} → Good w h → Trans w h w' h' → Good w' h'
good_trans G refused = G
good_trans G (sets_up n e (inl d)) = good_setup n (omega arith) (omega arith) (G.unset e)
good_trans G (sets_up n e (inr d)) = good_setup n (omega arith) (omega arith) (G.unset e)
good_trans G (moves l m) = good_move l G m

pub good_step : (s : Step) (w : World) (h : List Event) → Good w h → Good (step_of w s).world (noted w s h)
good_step s w h G = good_trans G (trans w h G.shape.room G.few (λ _ _ a. G.range.sent a) s)

good_run : (steps : List Step) (w : World) (h : List Event) → Good w h → Good (run w steps) (history_from w h steps)
unfolding run history_from
good_run [] w h G = G
good_run (s ∷ steps) w h G = good_run steps (step_of w s).world (noted w s h) (good_step s w h G)

pub good : (steps : List Step) → Good (run fresh_world steps) (history steps)
unfolding fresh_world
good steps = good_run steps fresh_world [] (good_fresh 0 (omega arith) nothing (λ _. (refl, refl)))

-- ---- a longer list of steps

-- h' is h with more events, and with as many acceptors if those were set up
pub record Extends (h h' : List Event) : Type 0 where
  pub accepts : {i b a : ℕ} {v : Batch} → Accepts i b a v h → Accepts i b a v h'
  pub got : {x : Content} → Got x h → Got x h'
  pub number : (acceptors h ≡ 0) ⊎ (acceptors h' ≡ acceptors h)

extends_same : (h : List Event) → Extends h h
extends_same h = record { accepts = λ y. y; got = λ y. y; number = inr refl }

extends_trans : {h h' h'' : List Event} → Extends h h' → Extends h' h'' → Extends h h''
extends_trans {h} {h'} {h''} x y =
    record { accepts = λ z. y.accepts (x.accepts z); got = λ z. y.got (x.got z); number = go x.number y.number }
  where
    go : (acceptors h ≡ 0) ⊎ (acceptors h' ≡ acceptors h) → (acceptors h' ≡ 0) ⊎ (acceptors h'' ≡ acceptors h')
        → (acceptors h ≡ 0) ⊎ (acceptors h'' ≡ acceptors h)
    go (inl e) d = inl e
    go (inr e) (inl d) = inl (sym e ∙ d)
    go (inr e) (inr d) = inr (d ∙ e)

extends_later : {h h' : List Event} → (acceptors h ≡ 0) ⊎ (acceptors h' ≡ acceptors h) → Later h h' → Extends h h'
extends_later n same = extends_same _
extends_later n (more e) = record { accepts = λ y. later y; got = λ y. there y; number = n }

extends_step : {w w' : World} {h h' : List Event} → Good w h → Trans w h w' h' → Extends h h'
extends_step G refused = extends_same _
extends_step G (sets_up n e d) = extends_later (inl (G.number ∙ e)) (more _)
extends_step G (moves l m) = extends_later (inr (goes m).number) (goes m).later

extends_run : (steps : List Step) (w : World) (h : List Event) → Good w h → Extends h (history_from w h steps)
unfolding history_from
extends_run [] w h G = extends_same h
extends_run (s ∷ steps) w h G =
    extends_trans (extends_step G (trans w h G.shape.room G.few (λ _ _ a. G.range.sent a) s)) (extends_run steps (step_of w s).world (noted w s h) (good_step s w h G))

pub history_append : (steps next : List Step) (w : World) (h : List Event)
    → history_from w h (steps ++ next) ≡ history_from (run w steps) (history_from w h steps) next
unfolding run history_from
history_append [] next w h = refl
history_append (s ∷ steps) next w h = history_append steps next (step_of w s).world (noted w s h)

pub history_extends : (steps next : List Step) → Extends (history steps) (history (steps ++ next))
history_extends steps next =
    rw (history_append steps next fresh_world []) (extends_run next (run fresh_world steps) (history steps) (good steps))
