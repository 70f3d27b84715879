-- Every number in a message, a slot and a round is in its range, and sets of acceptors hold
-- acceptors only.
use Prim.Native.Nat.{ℕ, ◌≤◌, ◌<◌}
use mathlib.Core.Logic.{◌⊎◌, inl, inr}
use mathlib.Core.List.{List}
use native.Mathlib.Omega.{arith}
use lib.ListN.{get_or, set}
use lib.Pow.{pow_pos}
use Rattle.model_steps.specs.Limits.{ballots}
use Rattle.model_owners.specs.Owners.{owner}
use Rattle.model_paxos.proofs.Grow.{New, NewAll, new, new_at}
use Rattle.model_paxos.proofs.Sets.{with_lt}
use Rattle.model_protocol.specs.Batch.{Batch}
use Rattle.model_protocol.specs.declared.AcceptorSlot.{AcceptorSlot}
use Rattle.model_protocol.specs.declared.Coordinator.{Coordinator}
use Rattle.model_protocol.specs.declared.World.{World}
use Rattle.model_protocol.specs.Coordinator.{hearing, learning}
use Rattle.model_protocol.specs.World.{coordinator_of, empty_slot, fresh_coordinator}
use Rattle.model_agreement.specs.Bounds.{CellRange, CoRange, InRange}
use Rattle.model_agreement.specs.Content.{Content}
use Rattle.model_agreement.specs.History.{Event}
use Rattle.model_agreement.proofs.Arrays.{set_all}
use Rattle.model_agreement.proofs.StepEffects.{Higher, Move, asks, comes_back_lem, counts, crashes, follows, hears, is_told, joins, learns, opens, ours, passes_accept, passes_accepted, passes_follow, passes_prepare, passes_promise, passes_request, passes_restore, promises, proposes, restores, takes, takes_follow_lem, tells, theirs, votes}
use Rattle.model_agreement.proofs.SentMessages.{AllNew, At, OneNew, Outbox, Posts, outbox_of}

pub record Range (w : World) : Type 0 where
  pub sent : {j : ℕ} {x : Content} → At (outbox_of w) w.sent j x → InRange w.acceptors x
  pub slots : (k : ℕ) → CellRange (get_or w.slots k empty_slot)
  pub cos : (k : ℕ) → CoRange w.acceptors (coordinator_of w k)

module _ {w : World} (R : Range w) where
  more_one : {ms : Outbox} {c : ℕ} {y : Content} → Posts (outbox_of w) w.sent ms c (OneNew w.sent y) → InRange w.acceptors y
      → {j : ℕ} {x : Content} → At ms c j x → InRange w.acceptors x
  more_one {ms} {c} {y} p g a = go g (p.splits a)
    where
      go : {j : ℕ} {x : Content} → InRange w.acceptors y
          → At (outbox_of w) w.sent j x ⊎ OneNew w.sent y j x → InRange w.acceptors x
      go g (inl s) = R.sent s
      go g (inr t) = one g t.1
        where
          one : {x : Content} → InRange w.acceptors y → New y x → InRange w.acceptors x
          one g new = g

  more_all : {ms : Outbox} {c : ℕ} {f : ℕ → Content} → Posts (outbox_of w) w.sent ms c (AllNew w.acceptors f)
      → ((a : ℕ) → a < w.acceptors → InRange w.acceptors (f a))
      → {j : ℕ} {x : Content} → At ms c j x → InRange w.acceptors x
  more_all {ms} {c} {f} p g a = go (p.splits a)
    where
      go : {j : ℕ} {x : Content} → At (outbox_of w) w.sent j x ⊎ NewAll w.acceptors f x → InRange w.acceptors x
      go (inl s) = R.sent s
      go (inr (new_at a l)) = g a l

  co_set : (k : ℕ) (c : Coordinator) → CoRange w.acceptors c → (j : ℕ)
      → CoRange w.acceptors (get_or (set w.coordinators k c) j fresh_coordinator)
  co_set k c o = set_all (λ x. CoRange w.acceptors x) w.coordinators fresh_coordinator k c o R.cos

  slot_set : (k : ℕ) (x : AcceptorSlot) → CellRange x → (j : ℕ) → CellRange (get_or (set w.slots k x) j empty_slot)
  slot_set k x o = set_all (λ y. CellRange y) w.slots empty_slot k x o R.slots

  heard_range : (a : ℕ) (c : Coordinator) {d d' : ℕ} {v v' : Batch} → a < w.acceptors → d ≤ ballots → CoRange w.acceptors c
      → Higher c.round d v d' v'
      → CoRange w.acceptors (record { applied = c.applied; queue = c.queue; round = hearing c.round a d' v' })
  heard_range a c l g o (theirs _) =
      record {
        applied = o.applied;
        room = o.room;
        ballot = o.ballot;
        accepted = g;
        promises = with_lt _ a _ l o.promises;
        acceptances = o.acceptances;
      }
  heard_range a c l g o (ours _) =
      record {
        applied = o.applied;
        room = o.room;
        ballot = o.ballot;
        accepted = o.accepted;
        promises = with_lt _ a _ l o.promises;
        acceptances = o.acceptances;
      }

  pub range_move : {w' : World} {h h' : List Event} → Move w h w' h' → Range w'
  unfolding learning
  range_move (asks e k ms c g _ p) = record { sent = more_one p g; slots = R.slots; cos = R.cos }
  range_move (opens k i b ms c _ g l e _ u p) =
      record {
        sent = more_all p (λ a z. record { inst = g; positive = omega arith; ballot = l; acceptor = z });
        slots = R.slots;
        cos =
            co_set k _
            (record {
              applied = (R.cos k).applied;
              room = λ _. omega arith;
              ballot = l;
              accepted = omega arith;
              promises = pow_pos w.acceptors;
              acceptances = pow_pos w.acceptors;
            });
      }
  range_move (proposes k i b v ms c _ d e z _ _ _ _ p) =
      record {
        sent =
            more_all p
            (λ a l. record {
              inst = omega (arith, (R.cos k).room (rw e at z));
              positive = z;
              ballot = omega (arith, (R.cos k).ballot);
              acceptor = l;
            });
        slots = R.slots;
        cos =
            co_set k _
            (let o = R.cos k in
            record {
              applied = o.applied;
              room = o.room;
              ballot = o.ballot;
              accepted = o.accepted;
              promises = o.promises;
              acceptances = o.acceptances;
            });
      }
  range_move (tells k q tx ms c g l _ p) = record { sent = more_one p (g, l); slots = R.slots; cos = R.cos }
  range_move (restores k q ms c z g _ p) = record { sent = more_one p (z, g, (R.cos k).applied); slots = R.slots; cos = R.cos }
  range_move (follows k q tx ms c z g l _ y p) = record { sent = more_one p (z, g, l, y); slots = R.slots; cos = R.cos }
  range_move (crashes d) = record { sent = R.sent; slots = R.slots; cos = R.cos }
  range_move (comes_back_lem p t d _ _) = record { sent = R.sent; slots = R.slots; cos = R.cos }
  range_move (promises j i b a ms c s _ p) =
      record {
        sent = more_one p (R.sent s, (R.slots _).ballot);
        slots = slot_set _ _ (record { promised = (R.sent s).ballot; ballot = (R.slots _).ballot });
        cos = R.cos;
      }
  range_move (passes_prepare j i b a _ _) = R
  range_move (votes j i b a v ms c s _ p _) =
      record {
        sent = more_one p (R.sent s);
        slots = slot_set _ _ (record { promised = (R.sent s).ballot; ballot = (R.sent s).ballot });
        cos = R.cos;
      }
  range_move (passes_accept j i b a v _ _) = R
  range_move (hears j i b a d v d' v' s _ _ g) =
      record {
        sent = R.sent;
        slots = R.slots;
        cos = co_set _ _ (heard_range a (coordinator_of w (owner b)) (R.sent s).0.acceptor (R.sent s).1 (R.cos (owner b)) g);
      }
  range_move (passes_promise j i b a d v _) = R
  range_move (counts j i b a s _ _ _) =
      record {
        sent = R.sent;
        slots = R.slots;
        cos =
            co_set _ _
            (let o = R.cos (owner b) in
            record {
              applied = o.applied;
              room = o.room;
              ballot = o.ballot;
              accepted = o.accepted;
              promises = o.promises;
              acceptances = with_lt _ a _ (R.sent s).acceptor o.acceptances;
            });
      }
  range_move (learns j i b a s _ _ _) =
      record {
        sent = R.sent;
        slots = R.slots;
        cos =
            co_set _ _
            (record {
              applied = omega arith;
              room = λ z. absurd (omega arith);
              ballot = omega arith;
              accepted = omega arith;
              promises = pow_pos w.acceptors;
              acceptances = pow_pos w.acceptors;
            });
      }
  range_move (passes_accepted j i b a _ _) = R
  range_move (joins j k e _ _) =
      record {
        sent = R.sent;
        slots = R.slots;
        cos =
            co_set _ _
            (let o = R.cos k in
            record {
              applied = o.applied;
              room = o.room;
              ballot = o.ballot;
              accepted = o.accepted;
              promises = o.promises;
              acceptances = o.acceptances;
            });
      }
  range_move (passes_request j k e _) = R
  range_move (is_told j p tx o _) = record { sent = R.sent; slots = R.slots; cos = R.cos }
  range_move (takes j p t z i r n _ _) = record { sent = R.sent; slots = R.slots; cos = R.cos }
  range_move (passes_restore j p t z i r n _ _) = R
  range_move (takes_follow_lem j p z tx o u _ _) = record { sent = R.sent; slots = R.slots; cos = R.cos }
  range_move (passes_follow j p z tx o u _ _) = R
