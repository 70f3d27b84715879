-- Processes keep what the history says they heard, and the last restore that it says they took.
use Prim.Native.Nat.{ℕ, ◌≤◌, ◌<◌}
use mathlib.Core.Path.{◌≡◌, refl, sym, ap, subst, subst₂, ◌∙◌}
use mathlib.Core.Logic.{◌≢◌}
use mathlib.Core.Bool.{Bool, true, false, ◌&&◌, not, cond}
use mathlib.Core.List.{List, []}
use native.Mathlib.Omega.{arith}
use borrow.Author.Tests.{eq-eqb, ne_eqb}
use lib.Dec.{T, eqb, eqb→eq, ltb}
use lib.ListN.{get_or, length, replicate, set}
use lib.Seq.{get_or-set_other, get_or-set_same}
use Rattle.log_entry.specs.Bits.{has}
use Rattle.log_entry.specs.Limits.{processes, transactions}
use Rattle.log_votes.specs.declared.Outcome.{Outcome}
use Rattle.log_votes.specs.declared.Outcome.TheVariants.{Open}
use Rattle.log_core.specs.declared.Replay.{Replay}
use Rattle.model_protocol.specs.declared.Follows.{Follows}
use Rattle.model_protocol.specs.declared.Heard.{Heard}
use Rattle.model_protocol.specs.declared.Process.{Process}
use Rattle.model_protocol.specs.declared.World.{World}
use Rattle.log_core.specs.Replay.{no_replay}
use Rattle.model_protocol.specs.Process.{believes, following, hearing_outcome, taking, takes_follow, takes_restore}
use Rattle.model_protocol.specs.World.{follows_of, fresh_process, no_follows, process_of, started_in}
use Rattle.model_agreement.specs.Content.{Content, follow, restore, tell}
use Rattle.model_agreement.specs.History.{Event, Follow, Restored, heard_of, is_taken, none_taken, restored_of, with_follow}
use Rattle.log_entry.proofs.Tests.{opposed}
use Rattle.model_agreement.proofs.Arrays.{each_case, same_each, set_ind}
use Rattle.model_agreement.proofs.FollowsKept.{KeepsAll, followed_is, keeps_none, keeps_one}
use Rattle.model_agreement.proofs.Range.{Range}
use Rattle.model_agreement.proofs.Shape.{Shape}
use Rattle.model_agreement.proofs.Tests.{both, is_false, is_true}
use Rattle.model_agreement.proofs.StepEffects.{Move, asks, comes_back_lem, counts, crashes, follows, hears, is_told, joins, learns, opens, passes_accept, passes_accepted, passes_follow, passes_prepare, passes_promise, passes_request, passes_restore, promises, proposes, restores, takes, takes_follow_lem, tells, votes}
use Rattle.model_agreement.proofs.SentMessages.{At, Outbox, Posts, outbox_of}

abbrev outcome_in : List Heard → ℕ → Outcome
outcome_in hs tx = (get_or hs tx (record { outcome = Open })).outcome

-- the process x keeps the restore r, all but its replay and the follows, and the outcomes f
pub record Keeps (r : Restored) (f : ℕ → Outcome) (x : Process) : Type 0 where
  pub turn : x.turn ≡ r.turn
  pub store : x.store ≡ r.store
  pub position : x.position ≡ r.position
  pub running : x.running ≡ r.running
  pub heard : (tx : ℕ) → outcome_in x.heard tx ≡ f tx

abbrev IsMessage : Outbox → ℕ → ℕ → Restored → Type 0
IsMessage ms k p r = 0 < r.position → At ms k r.number (restore p r.turn r.store r.position r.replay r.running)

pub record KeptOf (rs : ℕ → Restored) (fs : ℕ → ℕ → Outcome) (ms : Outbox) (k : ℕ) (ps : List Process) (ys : List Replay) (zs : List Follows) : Type 0 where
  pub each : (p : ℕ) → Keeps (rs p) (fs p) (get_or ps p fresh_process)
  pub replays : (p : ℕ) → get_or ys p no_replay ≡ (rs p).replay
  pub follows : (p : ℕ) → KeepsAll (get_or ps p fresh_process) (get_or zs p no_follows) (rs p).follows
  pub taken : (p : ℕ) → IsMessage ms k p (rs p)

abbrev pub Kept : World → List Event → Type 0
Kept w h = KeptOf (λ p. restored_of p h) (λ p tx. heard_of p tx h) (outbox_of w) w.sent w.processes w.restored w.follows

-- ---- a process that starts

silent : (tx : ℕ) → outcome_in (replicate transactions (record { outcome = Open })) tx ≡ Open
silent tx = sym (ap (λ (x : Heard). x.outcome) (same_each transactions tx (record { outcome = Open })))

pub started_keeps : (turn : ℕ) → Keeps (none_taken turn) (λ _. Open) (started_in turn)
unfolding started_in
started_keeps turn = record { turn = refl; store = refl; position = refl; running = refl; heard = silent }

pub started_follows : (turn : ℕ) (fs : Follows) → KeepsAll (started_in turn) fs []
unfolding started_in
started_follows turn fs = keeps_none (started_in turn) 0 0 0 fs

-- what holds of a process that starts, and of one that does not
chosen : (P : Restored → (ℕ → Outcome) → Type 0) (t : Bool) (turn : ℕ) (r : Restored) (f : ℕ → Outcome)
    → (t ≡ true → P (none_taken turn) (λ _. Open)) → (t ≡ false → P r f) → P (cond t (none_taken turn) r) (λ tx. cond t Open (f tx))
chosen P true turn r f new old = new refl
chosen P false turn r f new old = old refl

module _ {w : World} (h : List Event) (s : Shape w) (R : Range w) (K : Kept w h) where
  more : {ms : Outbox} {c : ℕ} {P : ℕ → Content → Type 0} → Posts (outbox_of w) w.sent ms c P
      → KeptOf (λ p. restored_of p h) (λ p tx. heard_of p tx h) ms c w.processes w.restored w.follows
  more p = record { each = K.each; replays = K.replays; follows = K.follows; taken = λ q z. p.keeps (K.taken q z) }

  process_in : {p : ℕ} → p ≤ processes → p < length w.processes
  process_in g = rw s.process_row (omega arith)

  restored_in : {p : ℕ} → p ≤ processes → p < length w.restored
  restored_in g = rw s.restored_row (omega arith)

  follows_in : {p : ℕ} → p ≤ processes → p < length w.follows
  follows_in g = rw s.follows_row (omega arith)

  -- ---- a tell

  module _ (j q t : ℕ) (o : Outcome) (a : At (outbox_of w) w.sent j (tell q t o)) where
    abbrev said : ℕ → ℕ → Outcome
    said p tx = cond (eqb p q && eqb tx t) o (heard_of p tx h)

    mine : (tx : ℕ) → outcome_in (set (process_of w q).heard t (record { outcome = o })) tx ≡ said q tx
    mine =
        each_case (λ tx. outcome_in (set (process_of w q).heard t (record { outcome = o })) tx ≡ said q tx) t
        (rw (eq-eqb q q refl, eq-eqb t t refl)
        (ap (λ x. x.outcome) (get_or-set_same (process_of w q).heard t _ _ (rw (s.heard q) (R.sent a).1))))
        (λ tx d.
        rw (eq-eqb q q refl, ne_eqb tx t (λ e. d (sym e)))
        (ap (λ x. x.outcome) (get_or-set_other (process_of w q).heard t tx _ _ (λ e. d (sym e))) ∙ (K.each q).heard tx))

    other : (p : ℕ) → q ≢ p → (tx : ℕ) → outcome_in (process_of w p).heard tx ≡ said p tx
    other p d tx = rw (ne_eqb p q (λ e. d (sym e))) ((K.each p).heard tx)

    kept_told : KeptOf (λ p. restored_of p h) said (outbox_of w) w.sent (set w.processes q (hearing_outcome (process_of w q) t o)) w.restored w.follows
    kept_told = record {
      each =
          set_ind (λ p x. Keeps (restored_of p h) (said p) x) w.processes fresh_process q _ (process_in (R.sent a).0)
          (let k = K.each q in record { turn = k.turn; store = k.store; position = k.position; running = k.running; heard = mine })
          (λ p d. let k = K.each p in record { turn = k.turn; store = k.store; position = k.position; running = k.running; heard = other p d });
      replays = K.replays;
      follows =
          set_ind (λ p x. KeepsAll x (follows_of w p) (restored_of p h).follows) w.processes fresh_process q _ (process_in (R.sent a).0)
          (K.follows q) (λ p d. K.follows p);
      taken = K.taken;
    }

  -- ---- a restore

  module _ (j q v z i : ℕ) (r : Replay) (n : ℕ) (a : At (outbox_of w) w.sent j (restore q v z i r n)) where
    abbrev test : ℕ → Bool
    test p = eqb p q && (eqb (restored_of p h).turn v && ltb (restored_of p h).position i)

    abbrev latest : ℕ → Restored
    latest p = record { turn = (restored_of p h).turn; number = j; store = z; position = i; replay = r; running = n; follows = [] }

    abbrev then : ℕ → Restored
    then p = cond (test p) (latest p) (restored_of p h)

    test_mine : takes_restore (process_of w q) v i ≡ test q
    test_mine = rw (eq-eqb q q refl, (K.each q).turn, (K.each q).position)

    test_other : (p : ℕ) → q ≢ p → test p ≡ false
    test_other p d = rw (ne_eqb p q (λ e. d (sym e)))

    changed : (p : ℕ) → test p ≡ true → latest p ≡ then p
    changed p e = rw e

    unchanged : (p : ℕ) → test p ≡ false → restored_of p h ≡ then p
    unchanged p e = rw e

    kept_takes : T (takes_restore (process_of w q) v i)
        → KeptOf then (λ p tx. heard_of p tx h) (outbox_of w) w.sent (set w.processes q (taking (process_of w q) z i n)) (set w.restored q r) w.follows
    kept_takes g =
        record {
          each =
              set_ind (λ p x. Keeps (then p) (λ tx. heard_of p tx h) x) w.processes fresh_process q _ (process_in (R.sent a).1)
              (subst (λ y. Keeps y (λ tx. heard_of q tx h) (taking (process_of w q) z i n)) (changed q yes')
              (record { turn = (K.each q).turn; store = refl; position = refl; running = refl; heard = (K.each q).heard }))
              (λ p d. subst (λ y. Keeps y (λ tx. heard_of p tx h) (process_of w p)) (unchanged p (test_other p d)) (K.each p));
          replays =
              set_ind (λ p y. y ≡ (then p).replay) w.restored no_replay q r (restored_in (R.sent a).1)
              (ap (λ y. y.replay) (changed q yes'))
              (λ p d. K.replays p ∙ ap (λ y. y.replay) (unchanged p (test_other p d)));
          follows =
              set_ind (λ p x. KeepsAll x (follows_of w p) (then p).follows) w.processes fresh_process q _ (process_in (R.sent a).1)
              (subst (λ y. KeepsAll (taking (process_of w q) z i n) (follows_of w q) y.follows) (changed q yes') (keeps_none (process_of w q) z i n (follows_of w q)))
              (λ p d. subst (λ y. KeepsAll (process_of w p) (follows_of w p) y.follows) (unchanged p (test_other p d)) (K.follows p));
          taken =
              each_case (λ p. IsMessage (outbox_of w) w.sent p (then p)) q
              (subst (λ y. IsMessage (outbox_of w) w.sent q y) (changed q yes') (λ _. rw (K.each q).turn at named))
              (λ p d. subst (λ y. IsMessage (outbox_of w) w.sent p y) (unchanged p (test_other p d)) (K.taken p));
        }
      where
        yes' : test q ≡ true
        yes' = sym test_mine ∙ is_true (takes_restore (process_of w q) v i) g

        -- the message is of its turn
        named : At (outbox_of w) w.sent j (restore q (process_of w q).turn z i r n)
        named =
            let x = process_of w q in
            subst (λ t. At (outbox_of w) w.sent j (restore q t z i r n)) (sym (eqb→eq x.turn v (both (eqb x.turn v) (ltb x.position i) g).0)) a

    kept_passes : T (not (takes_restore (process_of w q) v i)) → KeptOf then (λ p tx. heard_of p tx h) (outbox_of w) w.sent w.processes w.restored w.follows
    kept_passes g =
        record {
          each = λ p. subst (λ y. Keeps y (λ tx. heard_of p tx h) (process_of w p)) (unchanged p (none p)) (K.each p);
          replays = λ p. K.replays p ∙ ap (λ y. y.replay) (unchanged p (none p));
          follows = λ p. subst (λ y. KeepsAll (process_of w p) (follows_of w p) y.follows) (unchanged p (none p)) (K.follows p);
          taken = λ p. subst (λ y. IsMessage (outbox_of w) w.sent p y) (unchanged p (none p)) (K.taken p);
        }
      where
        none : (p : ℕ) → test p ≡ false
        none = each_case (λ p. test p ≡ false) q (sym test_mine ∙ is_false (takes_restore (process_of w q) v i) g) test_other

  -- ---- a follow

  module _ (j q z t : ℕ) (o : Outcome) (u : ℕ) (a : At (outbox_of w) w.sent j (follow q z t o u)) where
    abbrev says : Follow
    says = record { tx = t; outcome = o; update = u }

    abbrev test' : ℕ → Bool
    test' p = eqb p q && is_taken (restored_of p h) z t

    abbrev after : ℕ → Restored
    after p = cond (test' p) (with_follow (restored_of p h) says) (restored_of p h)

    test_mine' : takes_follow (process_of w q) z t ≡ test' q
    test_mine' = let k = K.each q in rw (eq-eqb q q refl, k.position, k.store, k.running, followed_is (process_of w q) (follows_of w q) _ (K.follows q) t)

    test_other' : (p : ℕ) → q ≢ p → test' p ≡ false
    test_other' p d = rw (ne_eqb p q (λ e. d (sym e)))

    changed' : (p : ℕ) → test' p ≡ true → with_follow (restored_of p h) says ≡ after p
    changed' p e = rw e

    unchanged' : (p : ℕ) → test' p ≡ false → restored_of p h ≡ after p
    unchanged' p e = rw e

    kept_follows : T (takes_follow (process_of w q) z t)
        → KeptOf after (λ p tx. heard_of p tx h) (outbox_of w) w.sent (set w.processes q (following (process_of w q) t)) w.restored
        (set w.follows q (record { of = set (follows_of w q).of t (record { outcome = o; update = u }) }))
    kept_follows g =
        record {
          each =
              set_ind (λ p x. Keeps (after p) (λ tx. heard_of p tx h) x) w.processes fresh_process q _ (process_in (R.sent a).1)
              (subst (λ y. Keeps y (λ tx. heard_of q tx h) (following (process_of w q) t)) (changed' q yes')
              (let k = K.each q in record { turn = k.turn; store = k.store; position = k.position; running = k.running; heard = k.heard }))
              (λ p d. subst (λ y. Keeps y (λ tx. heard_of p tx h) (process_of w p)) (unchanged' p (test_other' p d)) (K.each p));
          replays =
              each_case (λ p. get_or w.restored p no_replay ≡ (after p).replay) q
              (K.replays q ∙ ap (λ y. y.replay) (changed' q yes'))
              (λ p d. K.replays p ∙ ap (λ y. y.replay) (unchanged' p (test_other' p d)));
          follows =
              set_ind (λ p x. KeepsAll x (get_or (set w.follows q new) p no_follows) (after p).follows) w.processes fresh_process q _ (process_in (R.sent a).1)
              (subst₂ (λ y c. KeepsAll (following (process_of w q) t) y c)
              (sym (get_or-set_same w.follows q new no_follows (follows_in (R.sent a).1)))
              (ap (λ y. y.follows) (changed' q yes'))
              (keeps_one (process_of w q) (follows_of w q) _ says (rw (s.followed q) (R.sent a).2) free (K.follows q)))
              (λ p d. subst₂ (λ y c. KeepsAll (process_of w p) y c)
              (sym (get_or-set_other w.follows q p new no_follows (λ e. d (sym e))))
              (ap (λ y. y.follows) (unchanged' p (test_other' p d)))
              (K.follows p));
          taken =
              each_case (λ p. IsMessage (outbox_of w) w.sent p (after p)) q
              (subst (λ y. IsMessage (outbox_of w) w.sent q y) (changed' q yes') (K.taken q))
              (λ p d. subst (λ y. IsMessage (outbox_of w) w.sent p y) (unchanged' p (test_other' p d)) (K.taken p));
        }
      where
        new : Follows
        new = record { of = set (follows_of w q).of t (record { outcome = o; update = u }) }

        yes' : test' q ≡ true
        yes' = sym test_mine' ∙ is_true (takes_follow (process_of w q) z t) g

        free : has (process_of w q).followed t ≡ false
        free =
            let x = process_of w q in
            is_false (has x.followed t) (both (believes x z && has x.running t) (not (has x.followed t)) g).1

    kept_follow_passes : T (not (takes_follow (process_of w q) z t))
        → KeptOf after (λ p tx. heard_of p tx h) (outbox_of w) w.sent w.processes w.restored w.follows
    kept_follow_passes g =
        record {
          each = λ p. subst (λ y. Keeps y (λ tx. heard_of p tx h) (process_of w p)) (unchanged' p (none p)) (K.each p);
          replays = λ p. K.replays p ∙ ap (λ y. y.replay) (unchanged' p (none p));
          follows = λ p. subst (λ y. KeepsAll (process_of w p) (follows_of w p) y.follows) (unchanged' p (none p)) (K.follows p);
          taken = λ p. subst (λ y. IsMessage (outbox_of w) w.sent p y) (unchanged' p (none p)) (K.taken p);
        }
      where
        none : (p : ℕ) → test' p ≡ false
        none = each_case (λ p. test' p ≡ false) q (sym test_mine' ∙ is_false (takes_follow (process_of w q) z t) g) test_other'

  -- ---- a process that comes back

  module _ (q v : ℕ) (g : q ≤ processes) where
    abbrev anew : ℕ → Restored
    anew p = cond (eqb p q) (none_taken v) (restored_of p h)

    abbrev unheard : ℕ → ℕ → Outcome
    unheard p tx = cond (eqb p q) Open (heard_of p tx h)

    started : eqb q q ≡ true
    started = eq-eqb q q refl

    others : (p : ℕ) → q ≢ p → eqb p q ≡ false
    others p d = ne_eqb p q (λ e. d (sym e))

    kept_back : KeptOf anew unheard (outbox_of w) w.sent (set w.processes q (started_in v)) (set w.restored q no_replay) (set w.follows q no_follows)
    kept_back = record {
      each =
          set_ind (λ p x. Keeps (anew p) (unheard p) x) w.processes fresh_process q _ (process_in g)
          (chosen (λ r f. Keeps r f (started_in v)) (eqb q q) v (restored_of q h) (λ tx. heard_of q tx h) (λ _. started_keeps v) (λ e. absurd (opposed started e)))
          (λ p d. chosen (λ r f. Keeps r f (process_of w p)) (eqb p q) v (restored_of p h) (λ tx. heard_of p tx h) (λ e. absurd (opposed e (others p d))) (λ _. K.each p));
      replays =
          set_ind (λ p y. y ≡ (anew p).replay) w.restored no_replay q no_replay (restored_in g)
          (rw started)
          (λ p d. rw (others p d) (K.replays p));
      follows =
          set_ind (λ p x. KeepsAll x (get_or (set w.follows q no_follows) p no_follows) (anew p).follows) w.processes fresh_process q _ (process_in g)
          (rw started (started_follows v (get_or (set w.follows q no_follows) q no_follows)))
          (λ p d. rw (others p d)
          (subst (λ y. KeepsAll (process_of w p) y (restored_of p h).follows) (sym (get_or-set_other w.follows q p no_follows no_follows (λ e. d (sym e)))) (K.follows p)));
      taken =
          each_case (λ p. IsMessage (outbox_of w) w.sent p (anew p)) q
          (rw started (λ l. absurd (omega arith)))
          (λ p d. rw (others p d) (K.taken p));
    }

  pub kept_move : {w' : World} {h' : List Event} → Move w h w' h' → Kept w' h'
  kept_move (asks e k ms c _ _ p) = more p
  kept_move (opens k i b ms c _ _ _ _ _ _ p) = more p
  kept_move (proposes k i b v ms c _ _ _ _ _ _ _ _ p) = more p
  kept_move (tells k q tx ms c _ _ _ p) = more p
  kept_move (restores k q ms c _ _ _ p) = more p
  kept_move (follows k q tx ms c _ _ _ _ _ p) = more p
  kept_move (crashes d) = K
  kept_move (comes_back_lem p t d g _) = kept_back p t g
  kept_move (promises j i b a ms c _ _ p) = more p
  kept_move (passes_prepare j i b a _ _) = K
  kept_move (votes j i b a v ms c _ _ p _) = more p
  kept_move (passes_accept j i b a v _ _) = K
  kept_move (hears j i b a d v d' v' _ _ _ _) = K
  kept_move (passes_promise j i b a d v _) = K
  kept_move (counts j i b a _ _ _ _) = K
  kept_move (learns j i b a _ _ _ _) = K
  kept_move (passes_accepted j i b a _ _) = K
  kept_move (joins j k e _ _) = K
  kept_move (passes_request j k e _) = K
  kept_move (is_told j p tx o a) = kept_told j p tx o a
  kept_move (takes j p t z i r n a g) = kept_takes j p t z i r n a g
  kept_move (passes_restore j p t z i r n a g) = kept_passes j p t z i r n a g
  kept_move (takes_follow_lem j p z t o u a g) = kept_follows j p z t o u a g
  kept_move (passes_follow j p z t o u a g) = kept_follow_passes j p z t o u a g
