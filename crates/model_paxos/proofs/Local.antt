-- The state of the party that acts.
use Prim.Native.Nat.{ℕ, suc, ◌≤◌, ◌<◌}
use mathlib.Core.Path.{◌≡◌, refl, sym, ◌∙◌}
use mathlib.Core.Logic.{◌⊎◌, inl, inr, ◌≢◌}
use mathlib.Core.Bool.{true, false}
use native.Mathlib.Decide.{dec_le}
use native.Mathlib.Omega.{arith}
use Rattle.log_entry.specs.Bits.{with}
use Rattle.model_steps.specs.Limits.{instances}
use Rattle.model_owners.specs.Owners.{owner}
use Rattle.model_paxos.specs.Majority.{Majority}
use Rattle.model_paxos.specs.Messages.{Paxos, accept, accepted, promise}
use Rattle.model_paxos.specs.Rules.{Chosen, Core, Has}
use Rattle.model_paxos.proofs.Sets.{has_with, has_zero, meet}
use Rattle.model_paxos.proofs.Grow.{AccOk, Attempt, Best, CoOk, Holding, New, NewAll, UsedBy, best_up, chosen_up, co_up, is_new, kind, new_at, now, pair_up, past, under}

-- ---- acceptors

module _ {X : Type 0} {S S' : Paxos X → Type 0} (up : (m : Paxos X) → S m → S' m) (i b a : ℕ) (x : Holding X) (ok : AccOk S a i x) where
  pub acc_promise : x.promised < b
      → ((m : Paxos X) → S' m → S m ⊎ New (promise i b a x.ballot x.value) m)
      → ((m : Paxos X) → kind m ≢ 1 → S' m → S m)
      → AccOk S' a i (record { promised = b; ballot = x.ballot; value = x.value })
  acc_promise h dn old =
      record {
        promises = λ s. promises (dn _ s);
        votes = λ s. ok.votes (old _ (omega arith) s);
        order = omega (arith, ok.order);
        pair = pair_up up ok.pair;
      }
    where
      promises : {b' d : ℕ} {v : X} → S (promise i b' a d v) ⊎ New (promise i b a x.ballot x.value) (promise i b' a d v) → b' ≤ b
      promises (inl s) = omega (arith, ok.promises s)
      promises {b'} (inr t) = let e = is_new t in let f : b ≡ b' = cc in omega arith

  pub acc_accepted : (v : X)
      → x.promised ≤ b
      → S (accept i b a v)
      → ((m : Paxos X) → S' m → S m ⊎ New (accepted i b a) m)
      → ((m : Paxos X) → kind m ≢ 3 → S' m → S m)
      → AccOk S' a i (record { promised = b; ballot = b; value = v })
  acc_accepted v h r dn old =
      record {
        promises = λ s. omega (arith, ok.promises (old _ (omega arith) s));
        votes = λ s. votes (dn _ s);
        order = omega arith;
        pair = inr (up _ r);
      }
    where
      votes : {c : ℕ} → S (accepted i c a) ⊎ New {A = Paxos X} (accepted i b a) (accepted i c a) → c ≤ b
      votes (inl s) = omega (arith, ok.votes s, ok.order)
      votes {c} (inr t) = let e = is_new t in let f : b ≡ c = cc in omega arith

-- ---- coordinators: what a round becomes

module _ {X : Type 0} where
  abbrev pub opening : ℕ → X → Attempt X
  opening b z = record { ballot = b; promises = 0; accepted = 0; value = z; proposed = false; proposal = z; acceptances = 0 }

  abbrev pub hearing : Attempt X → ℕ → ℕ → X → Attempt X
  hearing r a d v = record {
    ballot = r.ballot;
    promises = with r.promises a;
    accepted = d;
    value = v;
    proposed = r.proposed;
    proposal = r.proposal;
    acceptances = r.acceptances;
  }

  abbrev pub proposing : Attempt X → X → Attempt X
  proposing r v = record {
    ballot = r.ballot;
    promises = r.promises;
    accepted = r.accepted;
    value = r.value;
    proposed = true;
    proposal = v;
    acceptances = r.acceptances;
  }

  abbrev pub counting : Attempt X → ℕ → Attempt X
  counting r a = record {
    ballot = r.ballot;
    promises = r.promises;
    accepted = r.accepted;
    value = r.value;
    proposed = r.proposed;
    proposal = r.proposal;
    acceptances = with r.acceptances a;
  }

-- ---- coordinators: nothing is sent

module _ {X : Type 0} {n : ℕ} {S : Paxos X → Type 0} {k p : ℕ} {r : Attempt X} (o : CoOk n S k p r) where
  pub co_open : (b : ℕ) (z : X) → owner b ≡ k → r.ballot < b → p < instances → CoOk n S k p (opening b z)
  co_open b z e h g =
      record {
        room = λ _. g;
        own = λ _. e;
        used = λ s f. used (o.used s f);
        heard = λ a g. absurd (has_zero a g);
        best = inl refl;
        counted = λ a g. absurd (has_zero a g);
        earlier = o.earlier;
      }
    where
      used : {i d : ℕ} {v : X} → UsedBy p r i d v → UsedBy p (opening b z) i d v
      used (past t) = past t
      used (under t u) = under t (omega arith)
      used (now t u f q) = under t (omega arith)

  pub co_hear : (a d : ℕ) (v : X) (d' : ℕ) (v' : X)
      → S (promise p r.ballot a d v)
      → d ≤ d'
      → r.accepted ≤ d'
      → Best S p (hearing r a d' v')
      → CoOk n S k p (hearing r a d' v')
  co_hear a d v d' v' s g h t =
      record {
        room = o.room;
        own = o.own;
        used = o.used;
        heard = λ x f. heard x (has_with a x r.promises f);
        best = t;
        counted = o.counted;
        earlier = o.earlier;
      }
    where
      heard : (x : ℕ) → (a ≡ x) ⊎ Has r.promises x → (y : ℕ) × (w : X) × S (promise p r.ballot x y w) × (y ≤ d')
      heard x (inl e) = (d, v, rw e at s, g)
      heard x (inr f) = let t = o.heard x f in (t.0, t.1, t.2, omega (arith, t.3))

  pub co_count : (a : ℕ) → S (accepted p r.ballot a) → CoOk n S k p (counting r a)
  co_count a s =
      record {
        room = o.room;
        own = o.own;
        used = o.used;
        heard = o.heard;
        best = o.best;
        counted = λ x f. counted x (has_with a x r.acceptances f);
        earlier = o.earlier;
      }
    where
      counted : (x : ℕ) → (a ≡ x) ⊎ Has r.acceptances x → S (accepted p r.ballot x)
      counted x (inl e) = rw e at s
      counted x (inr f) = o.counted x f

  -- a majority accepted: what it accepted is what was proposed
  module _ (C : Core n S) (q : Majority n r.acceptances) where
    voted : (a : ℕ) × S (accept p r.ballot a r.proposal)
    voted = go (o.used s (o.own (C.positive s)))
      where
        m : (a : ℕ) × Has r.acceptances a × Has r.acceptances a
        m = meet n r.acceptances r.acceptances q q

        t : (v : X) × S (accept p r.ballot m.0 v)
        t = C.asked (o.counted m.0 m.1)

        s : S (accept p r.ballot m.0 t.0)
        s = t.1

        go : UsedBy p r p r.ballot t.0 → (a : ℕ) × S (accept p r.ballot a r.proposal)
        go (past e) = absurd (omega arith)
        go (under e h) = absurd (omega arith)
        go (now e h f g) = (m.0, rw g at s)

    pub learns_chosen : Chosen n S p r.ballot r.proposal
    learns_chosen = record { set = r.acceptances; most = q; all = o.counted; who = voted.0; asked = voted.1 }

    pub co_learn : (z : X) → CoOk n S k (suc p) (opening 0 z)
    co_learn z =
        record {
          room = λ g. absurd (omega arith);
          own = λ g. absurd (omega arith);
          used = λ s f. used (o.used s f);
          heard = λ a g. absurd (has_zero a g);
          best = inl refl;
          counted = λ a g. absurd (has_zero a g);
          earlier = λ j h. earlier j (dec_le (suc j) p) h;
        }
      where
        used : {i b : ℕ} {w : X} → UsedBy p r i b w → UsedBy (suc p) (opening 0 z) i b w
        used (past t) = past (omega arith)
        used (under t u) = past (omega arith)
        used (now t u f g) = past (omega arith)

        earlier : (j : ℕ) → Dec (j < p) → j < suc p → (b : ℕ) × (v : X) × Chosen n S j b v
        earlier j (yes h) g = o.earlier j h
        earlier j (no h) g = let e : j ≡ p = omega arith in (r.ballot, r.proposal, rw e learns_chosen)

-- ---- coordinators: k proposes

module _ {X : Type 0} {n : ℕ} {S S' : Paxos X → Type 0} (up : (m : Paxos X) → S m → S' m) {k p : ℕ} {r : Attempt X} (v : X)
    (o : CoOk n S k p r) (e : r.proposed ≡ false) (dn : (m : Paxos X) → S' m → S m ⊎ NewAll n (λ a. accept p r.ballot a v) m) where
  pub co_propose : CoOk n S' k p (proposing r v)
  co_propose =
      record {
        room = o.room;
        own = o.own;
        used = λ s f. used (dn _ s) f;
        heard = λ a h. let t = o.heard a h in (t.0, t.1, up _ t.2, t.3);
        best = best_up up p r o.best;
        counted = λ a h. up _ (o.counted a h);
        earlier = λ j h. let t = o.earlier j h in (t.0, t.1, chosen_up up t.2);
      }
    where
      without_messages : {i b : ℕ} {w : X} → UsedBy p r i b w → UsedBy p (proposing r v) i b w
      without_messages (past t) = past t
      without_messages (under t u) = under t u
      without_messages (now t u f q) = absurd (let z : ◌≡◌ {A = ℕ} 0 1 = cc in omega arith)

      used : {i b a : ℕ} {w : X}
          → S (accept i b a w) ⊎ NewAll n (λ a. accept p r.ballot a v) (accept i b a w)
          → owner b ≡ k
          → UsedBy p (proposing r v) i b w
      used (inl s) f = without_messages (o.used s f)
      used (inr (new_at a l)) f = now refl refl refl refl

  -- another coordinator
  pub co_others : {j q : ℕ} {t : Attempt X} → 0 < r.ballot → k ≢ j → CoOk n S j q t → CoOk n S' j q t
  co_others {j} {q} {t} h f c = co_up up c (λ i b a w g s. go g (dn _ s))
    where
      go : {i b a : ℕ} {w : X} → owner b ≡ j
          → S (accept i b a w) ⊎ NewAll n (λ a. accept p r.ballot a v) (accept i b a w)
          → S (accept i b a w)
      go g (inl s) = s
      go g (inr (new_at a l)) = absurd (f (sym (o.own h) ∙ g))
