-- A store that was taken over: what its holder holds of the updates that earlier holders voted for.
use Prim.Native.Nat.{ℕ}
use mathlib.Core.Path.{◌≡◌, refl, sym, ap, subst, ◌∙◌}
use mathlib.Core.Bool.{Bool, true, false, ◌&&◌, not, cond}
use mathlib.Core.List.Memᴰ
use mathlib.Core.List.{List, [], ◌∷◌, ◌++◌, Memᴰ}
use mathlib.Core.Logic.{◌⊎◌, inl, inr, ◌≢◌, ⊎_elim}
use borrow.Author.Tests.{eqb-true}
use lib.Dec.{T, eqb, eqb→eq, ltb}
use Rattle.log_entry.specs.declared.Entry.{Entry}
use Rattle.log_entry.specs.Bits.{has}
use Rattle.log_entry.proofs.Tests.{and_left, and_right}
use Rattle.log_core.specs.declared.Log.{Log}
use Rattle.log_votes.specs.Vote.{vote_commit, vote_kept, vote_process, vote_turn, vote_update}
use Rattle.log_votes.specs.declared.Outcome.{Outcome}
use Rattle.log_votes.specs.declared.Outcome.TheVariants.{Commit, Open}
use Rattle.log_votes.specs.declared.Vote.{Vote}
use Rattle.log_votes.specs.Outcome.{is_committed}
use Rattle.log_core.specs.Follow.{awaited_of}
use Rattle.log_core.specs.Log.{holder_of, outcome_of, turn_of, vote_at}
use Rattle.log_core.specs.Replay.{replay_of}
use Rattle.log_laws.specs.Conditions.{Took}
use Rattle.log_laws.specs.Reached.{reached}
use Rattle.log_laws.specs.TakenOver.{CommittedUpdate, RowIn}
use Rattle.log_laws.specs.Votes.{Kept, KeptCommit}
use Rattle.log_laws.proofs.Theorems.{kept_vote_stays, lost_store_votes_no_more, outcome_never_changes, replayed_or_awaited, row_stays_committed}
use Rattle.model_protocol.specs.Step.{update_of}
use Rattle.model_agreement.specs.Content.{follow, paxos, request, restore, tell}
use Rattle.model_agreement.specs.History.{Event, Follow, Got, Restored, asked, back, delivered, here, is_followed, is_of, is_taken, none_taken, opened, restored_of, restoring, setup, there, with_follow}
use Rattle.model_agreement.specs.TakenOver.{AllFollowed, CommitFollowed, FollowedWell, Holds}
use Rattle.model_agreement.proofs.FollowsKept.{followed_in}

-- ---- a follow that was taken was delivered, to the process and for its store

pub taken_got : (p : ℕ) (h : List Event) (f : Follow) → Memᴰ f (restored_of p h).follows
    → Got (follow p (restored_of p h).store f.tx f.outcome f.update) h
taken_got p [] f t = absurd (Memᴰ.not-nil t)
taken_got p (setup n ∷ h) f t = there (taken_got p h f t)
taken_got p (asked e ∷ h) f t = there (taken_got p h f t)
taken_got p (opened c i b ∷ h) f t = there (taken_got p h f t)
taken_got p (restoring c m ∷ h) f t = there (taken_got p h f t)
taken_got p (back q v ∷ h) f t = go (eqb p q) (taken_got p h f) t
  where
    go : (b : Bool) → (Memᴰ f (restored_of p h).follows → Got (follow p (restored_of p h).store f.tx f.outcome f.update) h)
        → Memᴰ f (cond b (none_taken v) (restored_of p h)).follows
        → Got (follow p (cond b (none_taken v) (restored_of p h)).store f.tx f.outcome f.update) (back q v ∷ h)
    go true r t = absurd (Memᴰ.not-nil t)
    go false r t = there (r t)
taken_got p (delivered m (paxos x) ∷ h) f t = there (taken_got p h f t)
taken_got p (delivered m (request k e) ∷ h) f t = there (taken_got p h f t)
taken_got p (delivered m (tell q x o) ∷ h) f t = there (taken_got p h f t)
taken_got p (delivered m (restore q v s i rows n) ∷ h) f t =
    go (eqb p q && (eqb (restored_of p h).turn v && ltb (restored_of p h).position i)) (taken_got p h f) t
  where
    new : Restored
    new = record { turn = (restored_of p h).turn; number = m; store = s; position = i; replay = rows; running = n; follows = [] }

    go : (b : Bool) → (Memᴰ f (restored_of p h).follows → Got (follow p (restored_of p h).store f.tx f.outcome f.update) h)
        → Memᴰ f (cond b new (restored_of p h)).follows
        → Got (follow p (cond b new (restored_of p h)).store f.tx f.outcome f.update) (delivered m (restore q v s i rows n) ∷ h)
    go true r t = absurd (Memᴰ.not-nil t)
    go false r t = there (r t)
taken_got p (delivered m (follow q s x o u) ∷ h) f t =
    go (eqb p q) (is_taken (restored_of p h) s x) (eqb→eq p q) its_store (taken_got p h f) t
  where
    old : Restored
    old = restored_of p h

    says : Follow
    says = record { tx = x; outcome = o; update = u }

    its_store : is_taken old s x ≡ true → old.store ≡ s
    its_store e =
        eqb-true old.store s
        (and_right (ltb 0 old.position) (eqb old.store s)
        (and_left (is_of old s) (has old.running x) (and_left (is_of old s && has old.running x) (not (is_followed x old.follows)) e)))

    go : (a b : Bool) → (T a → p ≡ q) → (b ≡ true → old.store ≡ s)
        → (Memᴰ f old.follows → Got (follow p old.store f.tx f.outcome f.update) h)
        → Memᴰ f (cond (a && b) (with_follow old says) old).follows
        → Got (follow p (cond (a && b) (with_follow old says) old).store f.tx f.outcome f.update) (delivered m (follow q s x o u) ∷ h)
    go true true c d r t =
        ⊎_elim (λ (e : f ≡ says). rw (d refl, e, c tt) here) (λ y. there (r y)) (Memᴰ.cases_cons t)
    go true false c d r t = there (r t)
    go false b c d r t = there (r t)

-- ---- by the plain log fed more

module _ (es more : List Entry) (store tx : ℕ) where
  abbrev before : Log
  before = reached es

  abbrev after : Log
  after = reached (es ++ more)

  -- what a follow says stays so
  pub followed_stays : (o : Outcome) (u : ℕ) → o ≢ Open → o ≡ outcome_of before tx → KeptCommit before tx store → u ≡ update_of before tx store
      → FollowedWell after store tx o u
  followed_stays o u d e k i =
      record {
        decided = d;
        outcome = e ∙ sym outcome;
        kept_commit = subst (λ (v : Vote). (vote_kept v ≡ true) × (vote_commit v ≡ true)) (sym vote) k;
        is = i ∙ (λ j. cond (is_committed (sym outcome j)) (vote_update (sym vote j)) 0);
      }
    where
      outcome : outcome_of after tx ≡ outcome_of before tx
      outcome = outcome_never_changes es more tx (λ z. d (e ∙ z))

      vote : vote_at after tx store ≡ vote_at before tx store
      vote = kept_vote_stays es more tx store k.0

-- ---- the restore r of process p, sent by a log fed es

module _ (es more : List Entry) (p : ℕ) (r : Restored)
    (rows : r.replay ≡ replay_of (reached es) r.store) (running : r.running ≡ awaited_of (reached es) r.store)
    (holder : holder_of (reached es) r.store ≡ p) (turn : turn_of (reached es) r.store ≡ r.turn)
    (follows : (f : Follow) → Memᴰ f r.follows → FollowedWell (reached (es ++ more)) r.store f.tx f.outcome f.update) where
  abbrev then : Log
  then = reached es

  abbrev now : Log
  now = reached (es ++ more)

  abbrev vote_now : ℕ → Vote
  vote_now tx = vote_at now tx r.store

  module _ (tx : ℕ) (kept : KeptCommit now tx r.store) (committed : outcome_of now tx ≡ Commit) where
    -- a follow of the transaction is one with commit and this update
    brought : (f : Follow) → f.tx ≡ tx → Memᴰ f r.follows → CommitFollowed r.follows tx (vote_update (vote_now tx))
    brought f e t = subst (λ (x : Follow). Memᴰ x r.follows) (λ i. record { tx = e i; outcome = outcome i; update = update i }) t
      where
        outcome : f.outcome ≡ Commit
        outcome = (follows f t).outcome ∙ ap (outcome_of now) e ∙ committed

        update : f.update ≡ vote_update (vote_now tx)
        update =
            (follows f t).is ∙ ap (λ (i : ℕ). update_of now i r.store) e ∙ ap (λ (o : Outcome). cond (is_committed o) (vote_update (vote_now tx)) 0) committed

    -- a vote that was kept by then
    held : AllFollowed r → KeptCommit then tx r.store → Holds r tx (vote_update (vote_now tx))
    held all k = go (replayed_or_awaited es more tx r.store k committed)
      where
        same : vote_now tx ≡ vote_at then tx r.store
        same = kept_vote_stays es more tx r.store k.0

        go : RowIn (replay_of then r.store) tx (vote_update (vote_at then tx r.store)) ⊎ (has (awaited_of then r.store) tx ≡ true)
            → Holds r tx (vote_update (vote_now tx))
        go (inl x) = inl (rw (rows, same) x)
        go (inr x) = let t = followed_in tx r.follows (all tx (rw running x)) in inr (brought t.0 t.1 t.2)

    pub lost_none : AllFollowed r → Took es (vote_process (vote_now tx)) (vote_turn (vote_now tx)) r.store
        → (vote_process (vote_now tx) ≡ p → vote_turn (vote_now tx) ≢ r.turn) → Holds r tx (vote_update (vote_now tx))
    lost_none all took another =
        held all (before, ap (λ (v : Vote). vote_commit v) (sym (kept_vote_stays es more tx r.store before)) ∙ kept.1)
      where
        before : Kept then tx r.store
        before =
            lost_store_votes_no_more es more tx r.store (vote_process (vote_now tx)) (vote_turn (vote_now tx)) took
            (λ z. another (sym z.0 ∙ holder) (sym z.1 ∙ turn)) kept refl refl

  pub invented_none : (tx update : ℕ) → Holds r tx update → CommittedUpdate now tx r.store update
  invented_none tx update (inl x) = row_stays_committed es more tx r.store update (rw rows at x)
  invented_none tx update (inr t) =
      let f = follows (record { tx = tx; outcome = Commit; update = update }) t in
      record {
        committed = sym f.outcome;
        kept_commit = f.kept_commit;
        is = ap (λ (o : Outcome). cond (is_committed o) (vote_update (vote_now tx)) 0) f.outcome ∙ sym f.is;
      }
