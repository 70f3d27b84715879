-- The turns of processes: an entry is sent in the turn that it names, and a restore is taken in the
-- one that it names.
use Prim.Native.Nat.{ℕ, ◌<◌}
use mathlib.Core.Path.{◌≡◌, refl, sym, subst₂, ◌∙◌}
use mathlib.Core.Bool.{Bool, true, false, ◌&&◌, cond}
use mathlib.Core.List.{List, [], ◌∷◌}
use native.Mathlib.Omega.{arith}
use lib.Dec.{T, eqb, eqb→eq, ltb}
use Rattle.log_entry.specs.declared.Entry.{Entry}
use Rattle.model_protocol.specs.declared.World.{World}
use Rattle.model_agreement.specs.Claim.{TakenInTurn}
use Rattle.model_agreement.specs.Content.{Content, follow, paxos, request, restore, tell}
use Rattle.model_agreement.specs.History.{Before, Event, Follow, Restored, asked, back, delivered, earlier, is_taken, none_taken, now, opened, restored_of, restoring, setup, turn_now, with_follow}
use Rattle.model_agreement.specs.History as history
use Rattle.model_agreement.proofs.ProcessesKeep.{Kept}
use Rattle.model_agreement.proofs.StepEffects.{Move, asks, comes_back_lem, counts, crashes, follows, hears, is_told, joins, learns, opens, passes_accept, passes_accepted, passes_follow, passes_prepare, passes_promise, passes_request, passes_restore, promises, proposes, restores, takes, takes_follow_lem, tells, votes}

-- ---- the turn in which a process is

-- nothing that is delivered changes it
same_turn : (p m : ℕ) (x : Content) (r : Restored) → (history.takes p m x r).turn ≡ r.turn
same_turn p m (paxos x) r = refl
same_turn p m (request k e) r = refl
same_turn p m (tell q tx o) r = refl
same_turn p m (restore q v s i y n) r = go (eqb p q && (eqb r.turn v && ltb r.position i))
  where
    go : (b : Bool) → (cond b (record { turn = r.turn; number = m; store = s; position = i; replay = y; running = n; follows = [] }) r).turn ≡ r.turn
    go true = refl
    go false = refl
same_turn p m (follow q s tx o u) r = go (eqb p q && is_taken r s tx)
  where
    go : (b : Bool) → (cond b (with_follow r (record { tx = tx; outcome = o; update = u })) r).turn ≡ r.turn
    go true = refl
    go false = refl

pub restored_turn : (p : ℕ) (h : List Event) → (restored_of p h).turn ≡ turn_now p h
restored_turn p [] = refl
restored_turn p (setup n ∷ h) = restored_turn p h
restored_turn p (asked e ∷ h) = restored_turn p h
restored_turn p (opened c i b ∷ h) = restored_turn p h
restored_turn p (restoring c m ∷ h) = restored_turn p h
restored_turn p (delivered m x ∷ h) = same_turn p m x (restored_of p h) ∙ restored_turn p h
restored_turn p (back q v ∷ h) = go (eqb p q) (restored_turn p h)
  where
    go : (b : Bool) → (restored_of p h).turn ≡ turn_now p h → (cond b (none_taken v) (restored_of p h)).turn ≡ cond b v (turn_now p h)
    go true e = refl
    go false e = e

-- ---- the last restore was taken in the turn that it names

-- one event later
still : {p : ℕ} {r : Restored} {h : List Event} (x : Event) → turn_now p (x ∷ h) ≡ turn_now p h → TakenInTurn p r h → TakenInTurn p r (x ∷ h)
still x same k = record { before = k.before; delivery = earlier k.delivery; turn_then = k.turn_then; turn_still = same ∙ k.turn_still }

-- and a follow was taken
with_one : {p : ℕ} {r : Restored} {h : List Event} (f : Follow) → TakenInTurn p r h → TakenInTurn p (with_follow r f) h
with_one f k = record { before = k.before; delivery = k.delivery; turn_then = k.turn_then; turn_still = k.turn_still }

pub taken_in_turn : (p : ℕ) (h : List Event) → 0 < (restored_of p h).position → TakenInTurn p (restored_of p h) h
taken_in_turn p [] l = absurd (omega arith)
taken_in_turn p (setup n ∷ h) l = still _ refl (taken_in_turn p h l)
taken_in_turn p (asked e ∷ h) l = still _ refl (taken_in_turn p h l)
taken_in_turn p (opened c i b ∷ h) l = still _ refl (taken_in_turn p h l)
taken_in_turn p (restoring c m ∷ h) l = still _ refl (taken_in_turn p h l)
taken_in_turn p (delivered m (paxos x) ∷ h) l = still _ refl (taken_in_turn p h l)
taken_in_turn p (delivered m (request k e) ∷ h) l = still _ refl (taken_in_turn p h l)
taken_in_turn p (delivered m (tell q tx o) ∷ h) l = still _ refl (taken_in_turn p h l)
taken_in_turn p (delivered m (restore q v s i y n) ∷ h) l =
    go (eqb p q) (eqb r.turn v) (ltb r.position i) (eqb→eq p q) (eqb→eq r.turn v) (taken_in_turn p h) l
  where
    r : Restored
    r = restored_of p h

    new : Restored
    new = record { turn = r.turn; number = m; store = s; position = i; replay = y; running = n; follows = [] }

    go : (a b c : Bool) → (T a → p ≡ q) → (T b → r.turn ≡ v) → (0 < r.position → TakenInTurn p r h)
        → 0 < (cond (a && (b && c)) new r).position → TakenInTurn p (cond (a && (b && c)) new r) (delivered m (restore q v s i y n) ∷ h)
    go true true true f g k l = record {
      before = h;
      delivery =
          subst₂ (λ (x z : ℕ). Before (delivered m (restore p r.turn s i y n)) h (delivered m (restore x z s i y n) ∷ h)) (f tt) (g tt) now;
      turn_then = sym (restored_turn p h);
      turn_still = sym (restored_turn p h);
    }
    go true true false f g k l = still _ refl (k l)
    go true false c f g k l = still _ refl (k l)
    go false b c f g k l = still _ refl (k l)
taken_in_turn p (delivered m (follow q s tx o u) ∷ h) l = go (eqb p q && is_taken r s tx) (taken_in_turn p h) l
  where
    r : Restored
    r = restored_of p h

    says : Follow
    says = record { tx = tx; outcome = o; update = u }

    go : (b : Bool) → (0 < r.position → TakenInTurn p r h)
        → 0 < (cond b (with_follow r says) r).position → TakenInTurn p (cond b (with_follow r says) r) (delivered m (follow q s tx o u) ∷ h)
    go true k l = with_one says (still _ refl (k l))
    go false k l = still _ refl (k l)
taken_in_turn p (back q v ∷ h) l = go (eqb p q) refl (taken_in_turn p h) l
  where
    go : (b : Bool) → eqb p q ≡ b → (0 < (restored_of p h).position → TakenInTurn p (restored_of p h) h)
        → 0 < (cond b (none_taken v) (restored_of p h)).position → TakenInTurn p (cond b (none_taken v) (restored_of p h)) (back q v ∷ h)
    go true e k l = absurd (omega arith)
    go false e k l = still _ (rw e) (k l)

-- ---- each entry was sent in the turn that it names

abbrev pub AskedInTurn : List Event → Type 0
AskedInTurn h = (e : Entry) (then : List Event) → Before (asked e) then h → turn_now e.process then ≡ e.turn

-- an event that sends no entry
asks_none : Event → Type 0
asks_none (setup n) = Unit {0}
asks_none (asked e) = ⊥
asks_none (opened c i b) = Unit {0}
asks_none (restoring c m) = Unit {0}
asks_none (delivered m x) = Unit {0}
asks_none (back p v) = Unit {0}

none_asked : (h : List Event) (x : Event) → asks_none x → AskedInTurn h → AskedInTurn (x ∷ h)
unfolding asks_none
none_asked h (setup n) o k e then (earlier y) = k e then y
none_asked h (asked x) o k e then y = absurd o
none_asked h (opened c i b) o k e then (earlier y) = k e then y
none_asked h (restoring c m) o k e then (earlier y) = k e then y
none_asked h (delivered m x) o k e then (earlier y) = k e then y
none_asked h (back p v) o k e then (earlier y) = k e then y

one_asked : (h : List Event) (e : Entry) → turn_now e.process h ≡ e.turn → AskedInTurn h → AskedInTurn (asked e ∷ h)
one_asked h e o k x then now = o
one_asked h e o k x then (earlier y) = k x then y

module _ (w : World) (h : List Event) (K : Kept w h) (A : AskedInTurn h) where
  pub in_turn_move : {w' : World} {h' : List Event} → Move w h w' h' → AskedInTurn h'
  unfolding asks_none
  in_turn_move (asks e k ms c _ o p) = one_asked h e (sym (restored_turn e.process h) ∙ sym (K.each e.process).turn ∙ o) A
  in_turn_move (opens k i b ms c _ _ _ _ _ _ p) = none_asked h _ tt A
  in_turn_move (proposes k i b v ms c _ _ _ _ _ _ _ _ p) = A
  in_turn_move (tells k q tx ms c _ _ _ p) = A
  in_turn_move (restores k q ms c _ _ _ p) = none_asked h _ tt A
  in_turn_move (follows k q tx ms c _ _ _ _ _ p) = A
  in_turn_move (crashes d) = A
  in_turn_move (comes_back_lem p t d _ _) = none_asked h _ tt A
  in_turn_move (promises j i b a ms c s _ p) = none_asked h _ tt A
  in_turn_move (passes_prepare j i b a s _) = none_asked h _ tt A
  in_turn_move (votes j i b a v ms c s _ p _) = none_asked h _ tt A
  in_turn_move (passes_accept j i b a v s _) = none_asked h _ tt A
  in_turn_move (hears j i b a d v d' v' s _ _ _) = none_asked h _ tt A
  in_turn_move (passes_promise j i b a d v s) = none_asked h _ tt A
  in_turn_move (counts j i b a s _ _ _) = none_asked h _ tt A
  in_turn_move (learns j i b a s _ _ _) = none_asked h _ tt A
  in_turn_move (passes_accepted j i b a s _) = none_asked h _ tt A
  in_turn_move (joins j k e s _) = none_asked h _ tt A
  in_turn_move (passes_request j k e s) = none_asked h _ tt A
  in_turn_move (is_told j p tx o s) = none_asked h _ tt A
  in_turn_move (takes j p t z i r n s _) = none_asked h _ tt A
  in_turn_move (passes_restore j p t z i r n s _) = none_asked h _ tt A
  in_turn_move (takes_follow_lem j p z tx o u s _) = none_asked h _ tt A
  in_turn_move (passes_follow j p z tx o u s _) = none_asked h _ tt A
