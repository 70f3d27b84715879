-- Demand 3, from the invariants.
use Prim.Native.Nat.{ℕ, ◌≤◌, ◌<◌, min}
use mathlib.Core.Path.{◌≡◌, refl, sym, ap, subst, ◌∙◌}
use mathlib.Core.Logic.{◌⊎◌, inl, inr, ◌≢◌}
use mathlib.Core.Bool.{Bool, true, false, ◌&&◌, not, cond}
use mathlib.Core.List.{List, [], ◌∷◌, ◌++◌, Memᴰ}
use native.Mathlib.Nat.{le_antisymm}
use native.Mathlib.Omega.{arith}
use lib.Count.{ones_in}
use lib.Dec.{T, eqb, eqb→eq}
use lib.ListN.{drop, length, length-take, take}
use lib.Seq.{ext_get_or, take-length, take-take}
use Rattle.log_entry.specs.declared.Entry.{Entry}
use Rattle.log_core.specs.declared.Replay.{Replay}
use Rattle.log_votes.specs.Vote.{vote_commit, vote_kept, vote_update}
use Rattle.log_votes.specs.declared.Outcome.{Outcome}
use Rattle.log_votes.specs.declared.Outcome.TheVariants.{Open, Commit, Abort}
use Rattle.log_core.specs.Enter.{feed}
use Rattle.log_core.specs.Follow.{awaited_of}
use Rattle.log_core.specs.Log.{holder_of, outcome_of, turn_of, vote_at}
use Rattle.log_votes.specs.Outcome.{is_open}
use Rattle.log_core.specs.Replay.{replay_of}
use Rattle.model_steps.specs.declared.Step.{Step}
use Rattle.model_steps.specs.Limits.{instances}
use Rattle.log_entry.proofs.Tests.{and_left, and_right}
use Rattle.log_laws.specs.Reached.{reached}
use Rattle.log_laws.specs.TakenOver.{CommittedUpdate}
use Rattle.log_laws.proofs.Replicated.{decided_stays}
use Rattle.model_paxos.specs.Majority.{Majority}
use Rattle.model_paxos.specs.Messages.{Paxos, accept}
use Rattle.model_paxos.specs.Rules.{Chosen, Has}
use Rattle.model_paxos.proofs.Sequence.{all_below, chosen_front, chosen_in, chosen_is, prefix, seq_chosen, seq_from}
use Rattle.model_paxos.proofs.Sets.{has←, has→, meet}
use Rattle.model_protocol.specs.declared.World.{World}
use Rattle.model_protocol.specs.Batch.{Batch, entries_of, no_batch}
use Rattle.model_protocol.specs.Step.{run}
use Rattle.model_protocol.specs.World.{coordinator_of, fresh_world, log_of}
use Rattle.model_agreement.specs.Claim.{Demand3, IsSequence, RestoredWell, batch_at, kept_of}
use Rattle.model_agreement.specs.Content.{follow, paxos, request, restore, tell}
use Rattle.model_agreement.specs.Plain.{all_entries, plain_log}
use Rattle.model_agreement.specs.TakenOver.{AllFollowed, EarlierCommit, FollowedWell, Holds, TakenOver}
use Rattle.model_agreement.specs.History.{Accepts, Applied, Decided, Event, Follow, Got, Restored, Happened, acceptors, asked, back, delivered, first, heard_of, here, history, later, opened, restored_of, restoring, setup, there}
use Rattle.model_agreement.proofs.Collected.{collected, is_collected, was_said}
use Rattle.model_agreement.proofs.AllInvariants.{Extends, Good, good, history_extends}
use Rattle.model_agreement.proofs.BallotInvariant.{Said}
use Rattle.model_agreement.proofs.Plain.{plain_reached, plain_split}
use Rattle.model_agreement.proofs.LogsAndProcesses.{Front, Given, Told, brought_of, fine_of, given_of, told_of}
use Rattle.model_agreement.proofs.SentMessages.{outbox_of}
use Rattle.model_agreement.proofs.TakenOver.{followed_stays, invented_none, lost_none, taken_got}
use Rattle.model_agreement.proofs.Turns.{restored_turn, taken_in_turn}

-- ---- sequences of one history, and of a longer one

-- what the longer history decides, the shorter one's sequence begins
decided_later : {h h' : List Event} {i b : ℕ} {v : Batch} → Extends h h' → Decided (acceptors h) i b v h → Decided (acceptors h') i b v h'
decided_later {h} {h'} {i} {b} {v} x d = go x.number
  where
    few : (n q : ℕ) → n ≡ 0 → Majority n q → ⊥
    few n q e m = none (rw e at m)
      where
        none : Majority 0 q → ⊥
        none m = unfold Majority ones_in in omega arith

    go : (acceptors h ≡ 0) ⊎ (acceptors h' ≡ acceptors h) → Decided (acceptors h') i b v h'
    go (inl e) = absurd (few (acceptors h) d.set e d.most)
    go (inr e) = record { set = d.set; most = rw e d.most; all = λ a t. x.accepts (d.all a t) }

begins : {h h' : List Event} (s t : List Batch) → Extends h h' → IsSequence h s → IsSequence h' t → s ≡ take (length s) t
begins s t x P Q =
    prefix no_batch s t (all_below (length s) (length t) (λ j g. (Q.all (decided_later x (P.decided j g).1)).0))
    (λ j g. sym (Q.all (decided_later x (P.decided j g).1)).1)

pub one_sequence : {h : List Event} (s t : List Batch) → IsSequence h s → IsSequence h t → s ≡ t
one_sequence s t P Q =
    ext_get_or no_batch s t
    (le_antisymm
    (all_below (length s) (length t) (λ j g. (Q.all (P.decided j g).1).0))
    (all_below (length t) (length s) (λ j g. (P.all (Q.decided j g).1).0)))
    (λ j g. sym (Q.all (P.decided j g).1).1)

-- ---- the words of the document and the messages

accepts_got : {i b a : ℕ} {v : Batch} {h : List Event} → Accepts i b a v h → Got (paxos (accept i b a v)) h
accepts_got (first N) = here
accepts_got (later y) = there (accepts_got y)

-- what a process heard last, it was told
heard_told : (p tx : ℕ) (h : List Event) → heard_of p tx h ≢ Open → Got (tell p tx (heard_of p tx h)) h
heard_told p tx [] d = absurd (d refl)
heard_told p tx (setup n ∷ h) d = there (heard_told p tx h d)
heard_told p tx (asked e ∷ h) d = there (heard_told p tx h d)
heard_told p tx (opened c i b ∷ h) d = there (heard_told p tx h d)
heard_told p tx (restoring c m ∷ h) d = there (heard_told p tx h d)
heard_told p tx (back q v ∷ h) d = go (eqb p q) (heard_told p tx h) d
  where
    go : (b : Bool) → (heard_of p tx h ≢ Open → Got (tell p tx (heard_of p tx h)) h)
        → cond b Open (heard_of p tx h) ≢ Open → Got (tell p tx (cond b Open (heard_of p tx h))) (back q v ∷ h)
    go true r d = absurd (d refl)
    go false r d = there (r d)
heard_told p tx (delivered m (paxos x) ∷ h) d = there (heard_told p tx h d)
heard_told p tx (delivered m (request k e) ∷ h) d = there (heard_told p tx h d)
heard_told p tx (delivered m (restore q v s i r n) ∷ h) d = there (heard_told p tx h d)
heard_told p tx (delivered m (follow q s t o u) ∷ h) d = there (heard_told p tx h d)
heard_told p tx (delivered m (tell q t o) ∷ h) d = go (eqb p q) (eqb tx t) (eqb→eq p q) (eqb→eq tx t) (heard_told p tx h) d
  where
    go : (a b : Bool)
        → (T a → p ≡ q)
        → (T b → tx ≡ t)
        → (heard_of p tx h ≢ Open → Got (tell p tx (heard_of p tx h)) h)
        → cond (a && b) o (heard_of p tx h) ≢ Open
        → Got (tell p tx (cond (a && b) o (heard_of p tx h))) (delivered m (tell q t o) ∷ h)
    go true true f g r d = rw (f tt, g tt) here
    go true false f g r d = there (r d)
    go false b f g r d = there (r d)

-- the law of the plain log that is used: a decided outcome stays
stays : (bs : List Batch) (es : List Entry) (tx : ℕ) → outcome_of (plain_log bs) tx ≢ Open
    → outcome_of (feed (plain_log bs) es) tx ≡ outcome_of (plain_log bs) tx
unfolding plain_log
stays bs es tx d = decided_stays (all_entries bs) es tx d

pub not_open : (o : Outcome) → T (not (is_open o)) → o ≢ Open
not_open Open t e = t
not_open Commit t e = let z : ◌≡◌ {A = ℕ} 0 1 = cc in omega arith
not_open Abort t e = let z : ◌≡◌ {A = ℕ} 0 1 = cc in omega arith

module _ {w : World} {h : List Event} (G : Good w h) where
  abbrev n : ℕ
  n = w.acceptors

  abbrev S : Paxos Batch → Type 0
  S = Said (outbox_of w) w.sent

  -- what is decided is of an instance within the limits, since it was sent
  in_limits : {i b : ℕ} {v : Batch} → Decided n i b v h → i < instances
  in_limits d =
      let t = meet n d.set d.set d.most d.most in
      (G.range.sent (G.got.was (accepts_got (d.all t.0 (has← d.set t.0 t.1)))).at).inst

  decided_chosen : {i b : ℕ} {v : Batch} → Decided n i b v h → Chosen n S i b v
  decided_chosen {i} {b} {v} d =
      let g = in_limits d in
      let t = meet n d.set d.set d.most d.most in
      record {
        set = d.set;
        most = d.most;
        all = λ a y. ((G.hist.acc a i g).told (d.all a (has← d.set a y))).0;
        who = t.0;
        asked = ((G.hist.acc t.0 i g).told (d.all t.0 (has← d.set t.0 t.1))).1;
      }

  chosen_decided : {i b : ℕ} {v : Batch} → Chosen n S i b v → Decided n i b v h
  chosen_decided {i} {b} {v} c = record { set = c.set; most = c.most; all = λ a y. all a (has→ c.set a y) }
    where
      g : i < instances
      g = G.inv.core.bound c.asked

      all : (a : ℕ) → Has c.set a → Accepts i b a v h
      all a y =
          let z = (G.hist.acc a i g).voted (c.all a y) in
          rw (G.inv.core.one ((G.hist.acc a i g).told z.1).1 c.asked) at z.1

  -- ---- the sequence

  abbrev all : List (Paxos Batch)
  all = collected (outbox_of w) w.sent

  pub sequence : List Batch
  sequence = seq_from n all instances 0

  in_sequence : {i b : ℕ} {v : Batch} → Chosen n S i b v → (i < length sequence) × (batch_at sequence i ≡ v)
  unfolding sequence
  in_sequence c = (
    chosen_in G.inv.core all (is_collected (outbox_of w) w.sent) (was_said (outbox_of w) w.sent) no_batch c,
    chosen_is G.inv.core all (is_collected (outbox_of w) w.sent) (was_said (outbox_of w) w.sent) no_batch c,
  )

  at_sequence : (i : ℕ) → i < length sequence → (b : ℕ) × Chosen n S i b (batch_at sequence i)
  unfolding sequence
  at_sequence = seq_chosen G.inv.core all (is_collected (outbox_of w) w.sent) (was_said (outbox_of w) w.sent) no_batch

  front : (l : List Batch) → Front n S l → (length l ≤ length sequence) × (l ≡ take (length l) sequence)
  unfolding sequence
  front l f = chosen_front G.inv.core all (is_collected (outbox_of w) w.sent) (was_said (outbox_of w) w.sent) no_batch l f.each

  is_sequence : IsSequence h sequence
  is_sequence = record {
    decided = λ i g. let t = at_sequence i g in (t.0, rw G.number (chosen_decided t.1));
    all = λ d. in_sequence (decided_chosen (rw G.number at d));
  }

  -- ---- logs, outcomes and restores

  applied_now : (k : ℕ) → Applied (acceptors h) k (coordinator_of w k).applied h
  applied_now k = rw G.number (record { learned = (G.hist.co k).learnt; only = (G.hist.co k).counted })

  within : (k : ℕ) → (coordinator_of w k).applied ≤ length sequence
  within k = let f = (G.rest.cos k).fed in omega (arith, (front f.batches f.front).0, f.size)

  log_is : (k : ℕ) → log_of w k ≡ plain_log (take (coordinator_of w k).applied sequence)
  log_is k =
      let f = (G.rest.cos k).fed in
      f.is ∙ ap (λ l. plain_log l) ((front f.batches f.front).1 ∙ ap (λ x. take x sequence) f.size)

  entry_asked : (i : ℕ) → i < length sequence → (e : Entry) → Memᴰ e (entries_of (batch_at sequence i)) → Happened (asked e) h
  entry_asked i g e t = (fine_of (G.rest.sent (at_sequence i g).1.asked.sent.at)).asked e t

  told_is : {tx : ℕ} {o : Outcome} → Told n S tx o → o ≡ outcome_of (plain_log sequence) tx
  told_is {tx} {o} t =
      t.is
      ∙ sym
      (ap (λ l. outcome_of l tx)
      (plain_split (length t.batches) sequence ∙ ap (λ l. feed (plain_log l) rest) (sym (front t.batches t.front).1))
      ∙ stays t.batches rest tx (subst (λ x. x ≢ Open) t.is (not_open o t.shut)))
    where
      rest : List Entry
      rest = all_entries (drop (length t.batches) sequence)

  heard_is : {p tx : ℕ} {o : Outcome} → Got (tell p tx o) h → o ≡ outcome_of (plain_log sequence) tx
  heard_is g = told_is (told_of (G.rest.sent (G.got.was g).at))

  kept_is : (p tx : ℕ) → kept_of w p tx ≢ Open → kept_of w p tx ≡ outcome_of (plain_log sequence) tx
  kept_is p tx d =
      let e = (G.kept.each p).heard tx in
      e ∙ heard_is (heard_told p tx h (subst (λ x. x ≢ Open) e d))

  restored_well : (p : ℕ) → 0 < (restored_of p h).position → RestoredWell p (restored_of p h) h sequence
  restored_well p l =
      let g = given_of (G.rest.sent (G.kept.taken p l)) in
      let f = front g.batches g.front in
      let e = f.1 ∙ ap (λ x. take x sequence) g.size in
      record {
        sender = g.sender;
        then = g.then;
        sent = g.sent;
        position = rw G.number g.position;
        within = omega (arith, f.0, g.size);
        rows = g.rows ∙ ap (λ l. replay_of (plain_log l) (restored_of p h).store) e;
        holder = ap (λ l. holder_of (plain_log l) (restored_of p h).store) (sym e) ∙ g.holder;
        turn = ap (λ l. turn_of (plain_log l) (restored_of p h).store) (sym e) ∙ g.turn;
        taken = taken_in_turn p h l;
        running = g.running ∙ ap (λ l. awaited_of (plain_log l) (restored_of p h).store) e;
      }

  -- ---- a store that was taken over, by the plain log fed s, which begins with the sequence

  module _ (s : List Batch) (b : sequence ≡ take (length sequence) s) where
    -- a log fed chosen batches is fed more
    begins_with : (l : List Batch) → Front n S l → take (length l) s ≡ l
    begins_with l f =
        let z = front l f in
        sym (take-take (length l) (length sequence) s z.0) ∙ ap (λ x. take (length l) x) (sym b) ∙ sym z.1

    fed_more : (l : List Batch) → Front n S l → plain_log s ≡ reached (all_entries l ++ all_entries (drop (length l) s))
    fed_more l f = plain_reached (length l) s ∙ ap (λ x. reached (all_entries x ++ all_entries (drop (length l) s))) (begins_with l f)

    follow_is : {p store tx update : ℕ} {o : Outcome} → Got (follow p store tx o update) h → FollowedWell (plain_log s) store tx o update
    unfolding plain_log
    follow_is {p} {store} {tx} {update} {o} g =
        let f = brought_of (G.rest.sent (G.got.was g).at) in
        let v = vote_at (plain_log f.batches) tx store in
        subst (λ l. FollowedWell l store tx o update) (sym (fed_more f.batches f.front))
        (followed_stays (all_entries f.batches) _ store tx o update (not_open o f.shut) f.is
        (and_left (vote_kept v) (vote_commit v) f.kept, and_right (vote_kept v) (vote_commit v) f.kept) f.update)

    module _ (p : ℕ) (l : 0 < (restored_of p h).position) where
      abbrev r : Restored
      r = restored_of p h

      sent : Given n h S r.number p r.turn r.store r.position r.replay r.running
      sent = given_of (G.rest.sent (G.kept.taken p l))

      abbrev es : List Entry
      es = all_entries sent.batches

      abbrev rest : List Entry
      rest = all_entries (drop (length sent.batches) s)

      is : plain_log s ≡ reached (es ++ rest)
      is = fed_more sent.batches sent.front

      its_follows : (f : Follow) → Memᴰ f r.follows → FollowedWell (reached (es ++ rest)) r.store f.tx f.outcome f.update
      its_follows f t = subst (λ x. FollowedWell x r.store f.tx f.outcome f.update) is (follow_is (taken_got p h f t))

      no_loss : (tx : ℕ) → AllFollowed r → EarlierCommit p r s tx → Holds r tx (vote_update (vote_at (plain_log s) tx r.store))
      unfolding plain_log
      no_loss tx all e =
          rw is
          (lost_none es rest p r sent.rows sent.running sent.holder sent.turn its_follows tx (rw is at e.kept_commit) (rw is at e.committed) all
          (rw (is, at_position) at e.took)
          (rw is at e.another))
        where
          at_position : take r.position s ≡ sent.batches
          at_position = ap (λ x. take x s) (sym sent.size) ∙ begins_with sent.batches sent.front

      no_invention : (tx update : ℕ) → Holds r tx update → CommittedUpdate (plain_log s) tx r.store update
      unfolding plain_log
      no_invention tx update t = rw is (invented_none es rest p r sent.rows sent.running sent.holder sent.turn its_follows tx update t)

    list_is : {p turn store position running : ℕ} {y : Replay} → Got (restore p turn store position y running) h
        → (position ≤ length s) × (running ≡ awaited_of (plain_log (take position s)) store)
    list_is {p} {turn} {store} g =
        let f = given_of (G.rest.sent (G.got.was g).at) in
        let longer : length sequence ≡ min (length sequence) (length s) = ap length b ∙ length-take (length sequence) s in (
          omega (arith, longer, (front f.batches f.front).0, f.size),
          f.running ∙ ap (λ l. awaited_of (plain_log l) store) (sym (begins_with f.batches f.front) ∙ ap (λ x. take x s) f.size),
        )

    pub holds_over : TakenOver h s
    holds_over = record {
      listed = list_is;
      followed = follow_is;
      none_lost = λ p tx l. no_loss p l tx;
      none_invented = λ p tx update l t. no_invention p l tx update t;
    }

-- what was heard stays so, whatever steps follow
heard_stays : (steps more : List Step) (s : List Batch) {p tx : ℕ} {o : Outcome}
    → IsSequence (history (steps ++ more)) s → Got (tell p tx o) (history steps)
    → o ≡ outcome_of (plain_log s) tx
heard_stays steps more s {p} {tx} P g =
    let G = good (steps ++ more) in
    heard_is G ((history_extends steps more).got g) ∙ ap (λ l. outcome_of (plain_log l) tx) (one_sequence (sequence G) s (is_sequence G) P)

-- demand 3 holds of every list of steps
pub demand_3 : Demand3
demand_3 steps = record {
  sequence = sequence G;
  is_sequence = is_sequence G;
  only_grows = λ more s P. begins (sequence G) s (history_extends steps more) (is_sequence G) P;
  applied = applied_now G;
  applied_within = within G;
  logs = log_is G;
  entries = entry_asked G;
  entries_in_turn = λ y. G.asked_in_turn _ _ y;
  heard = heard_is G;
  heard_stays = λ g more s P. heard_stays steps more s P g;
  heard_kept = λ p tx. (G.kept.each p).heard tx;
  kept_outcome = kept_is G;
  restored = restored_well G;
  present_turn = λ p. (G.kept.each p).turn ∙ restored_turn p (history steps);
  restored_store = λ p. (G.kept.each p).store;
  restored_position = λ p. (G.kept.each p).position;
  restored_replay = G.kept.replays;
  restored_running = λ p. (G.kept.each p).running;
  restored_follows = G.kept.follows;
  taken_over = holds_over G (sequence G) (sym (take-length (sequence G)));
  taken_over_stays = λ more s P. holds_over G s (begins (sequence G) s (history_extends steps more) (is_sequence G) P);
}
  where
    G : Good (run fresh_world steps) (history steps)
    G = good steps
