-- What an acceptor's and a coordinator's state say of the sent messages, and how what is known of
-- those survives when more are sent.
use Prim.Native.Nat.{ℕ, ◌≤◌, ◌<◌}
use mathlib.Core.Path.{◌≡◌, refl}
use mathlib.Core.Logic.{◌⊎◌, inl, inr, ◌≢◌}
use mathlib.Core.Bool.{Bool, true, false}
use native.Mathlib.Omega.{arith}
use Rattle.model_steps.specs.Limits.{instances}
use Rattle.model_owners.specs.Owners.{owner}
use Rattle.model_paxos.specs.Majority.{Majority}
use Rattle.model_paxos.specs.Messages.{Paxos, accept, accepted, prepare, promise}
use Rattle.model_paxos.specs.Rules.{Chosen, Core, Has, Why}

-- what an acceptor holds of an instance
pub record Holding (X : Type 0) : Type 0 where
  pub promised : ℕ
  pub ballot : ℕ
  pub value : X

-- the ballot that a coordinator opened last in its current instance, and what came of it
pub record Attempt (X : Type 0) : Type 0 where
  pub ballot : ℕ
  pub promises : ℕ
  pub accepted : ℕ
  pub value : X
  pub proposed : Bool
  pub proposal : X
  pub acceptances : ℕ

module _ {X : Type 0} where
  abbrev pub kind : Paxos X → ℕ
  kind (prepare i b a) = 0
  kind (promise i b a d v) = 1
  kind (accept i b a v) = 2
  kind (accepted i b a) = 3

-- m is x
pub data New {A : Type 0} (x : A) : A → Type 0 where
  new : New x x

-- m is one of the first n of f
pub data NewAll {A : Type 0} (n : ℕ) (f : ℕ → A) : A → Type 0 where
  new_at : (a : ℕ) → a < n → NewAll n f (f a)

pub is_new : {A : Type 0} {x y : A} → New x y → x ≡ y
is_new new = refl

pub is_of : {A : Type 0} {n : ℕ} {f : ℕ → A} {y : A} → NewAll n f y → (a : ℕ) × (f a ≡ y)
is_of (new_at a l) = (a, refl)

-- acceptor a in instance i
pub record AccOk {X : Type 0} (S : Paxos X → Type 0) (a i : ℕ) (x : Holding X) : Type 0 where
  pub promises : {b d : ℕ} {v : X} → S (promise i b a d v) → b ≤ x.promised
  pub votes : {b : ℕ} → S (accepted i b a) → b ≤ x.ballot
  pub order : x.ballot ≤ x.promised
  pub pair : (x.ballot ≡ 0) ⊎ S (accept i x.ballot a x.value)

-- what an accept for (i, b, v) is to its coordinator, which has applied p instances, opened l last
-- and, if f, proposed u
pub data Used (p l : ℕ) (f : Bool) {X : Type 0} (u : X) (i b : ℕ) (v : X) : Type 0 where
  past : i < p → Used p l f u i b v
  under : i ≡ p → b < l → Used p l f u i b v
  now : i ≡ p → b ≡ l → f ≡ true → v ≡ u → Used p l f u i b v

abbrev pub UsedBy : {X : Type 0} → ℕ → Attempt X → ℕ → ℕ → X → Type 0
UsedBy p r i b v = Used p r.ballot r.proposed r.proposal i b v

-- the pair that a coordinator would propose again
abbrev pub Best : {X : Type 0} → (Paxos X → Type 0) → ℕ → Attempt X → Type 0
Best S p r = (r.accepted ≡ 0) ⊎ ((r.accepted < r.ballot) × ((a : ℕ) × S (accept p r.accepted a r.value)))

-- coordinator k, which has applied p instances
pub record CoOk {X : Type 0} (n : ℕ) (S : Paxos X → Type 0) (k p : ℕ) (r : Attempt X) : Type 0 where
  pub room : 0 < r.ballot → p < instances
  pub own : 0 < r.ballot → owner r.ballot ≡ k
  pub used : {i b a : ℕ} {v : X} → S (accept i b a v) → owner b ≡ k → UsedBy p r i b v
  pub heard : (a : ℕ) → Has r.promises a → (d : ℕ) × (w : X) × S (promise p r.ballot a d w) × (d ≤ r.accepted)
  pub best : Best S p r
  pub counted : (a : ℕ) → Has r.acceptances a → S (accepted p r.ballot a)
  pub earlier : (j : ℕ) → j < p → (b : ℕ) × (v : X) × Chosen n S j b v

module _ {X : Type 0} {S S' : Paxos X → Type 0} (up : (m : Paxos X) → S m → S' m) where
  pub pair_up : {i d a : ℕ} {v : X} → (d ≡ 0) ⊎ S (accept i d a v) → (d ≡ 0) ⊎ S' (accept i d a v)
  pair_up (inl e) = inl e
  pair_up (inr s) = inr (up _ s)

  -- an acceptor that sent nothing new
  pub acc_up : {a i : ℕ} {x : Holding X}
      → AccOk S a i x
      → ((b d : ℕ) (v : X) → S' (promise i b a d v) → S (promise i b a d v))
      → ((b : ℕ) → S' (accepted i b a) → S (accepted i b a))
      → AccOk S' a i x
  acc_up k p q =
      record { promises = λ s. k.promises (p _ _ _ s); votes = λ s. k.votes (q _ s); order = k.order; pair = pair_up k.pair }

  pub best_up : (p : ℕ) (r : Attempt X) → Best S p r → Best S' p r
  best_up p r (inl e) = inl e
  best_up p r (inr t) = inr (t.0, (t.1.0, up _ t.1.1))

module _ {X : Type 0} {n : ℕ} {S S' : Paxos X → Type 0} (up : (m : Paxos X) → S m → S' m) where
  pub why_up : {i b : ℕ} {v : X} → Why n S i b v → Why n S' i b v
  why_up {i} {b} {v} y =
      record {
        from = y.from;
        below = y.below;
        set = y.set;
        most = y.most;
        heard = λ a h. let t = y.heard a h in (t.0, t.1, up _ t.2, t.3);
        same = go y.same;
      }
    where
      go : (y.from ≡ 0) ⊎ ((a : ℕ) × S (accept i y.from a v)) → (y.from ≡ 0) ⊎ ((a : ℕ) × S' (accept i y.from a v))
      go (inl e) = inl e
      go (inr t) = inr (t.0, up _ t.1)

  pub chosen_up : {i b : ℕ} {v : X} → Chosen n S i b v → Chosen n S' i b v
  chosen_up c = record { set = c.set; most = c.most; all = λ a h. up _ (c.all a h); who = c.who; asked = up _ c.asked }

  -- a coordinator that did nothing
  pub co_up : {k p : ℕ} {r : Attempt X}
      → CoOk n S k p r
      → ((i b a : ℕ) (v : X) → owner b ≡ k → S' (accept i b a v) → S (accept i b a v))
      → CoOk n S' k p r
  co_up {k} {p} {r} o f = record {
    room = o.room;
    own = o.own;
    used = λ s e. o.used (f _ _ _ _ e s) e;
    heard = λ a h. let t = o.heard a h in (t.0, t.1, up _ t.2, t.3);
    best = best_up up p r o.best;
    counted = λ a h. up _ (o.counted a h);
    earlier = λ j h. let t = o.earlier j h in (t.0, t.1, chosen_up t.2);
  }

  module _ (C : Core n S) where
    held_up : {i b a d : ℕ} {v : X} → S (promise i b a d v) → (d < b) × ((d ≡ 0) ⊎ S' (accept i d a v))
    held_up s = let t = C.accepted s in (t.0, pair_up up t.1)

    prior_up : {i b a : ℕ} {v : X} → S (accept i b a v) → (j : ℕ) → j < i → (c : ℕ) × (w : X) × Chosen n S' j c w
    prior_up s j h = let t = C.prior s j h in (t.0, t.1, chosen_up t.2)

    asked_up : {i b a : ℕ} → S (accepted i b a) → (v : X) × S' (accept i b a v)
    asked_up s = let t = C.asked s in (t.0, up _ t.1)

    -- only prepares are new, or nothing of Paxos
    pub core_open : ((m : Paxos X) → kind m ≢ 0 → S' m → S m) → Core n S'
    core_open old = record {
      last = λ s t. C.last (old _ (omega arith) s) (old _ (omega arith) t);
      asked = λ s. asked_up (old _ (omega arith) s);
      one = λ s t. C.one (old _ (omega arith) s) (old _ (omega arith) t);
      positive = λ s. C.positive (old _ (omega arith) s);
      why = λ s. why_up (C.why (old _ (omega arith) s));
      bound = λ s. C.bound (old _ (omega arith) s);
      accepted = λ s. held_up (old _ (omega arith) s);
      prior = λ s. prior_up (old _ (omega arith) s);
    }

    -- the acceptor a in the state x promises b
    module _ (i b a : ℕ) (x : Holding X) (ok : AccOk S a i x) (h : x.promised < b) where
      pub core_promise : ((m : Paxos X) → S' m → S m ⊎ New (promise i b a x.ballot x.value) m)
          → ((m : Paxos X) → kind m ≢ 1 → S' m → S m)
          → Core n S'
      core_promise dn old =
          record {
            last = λ s t g. last (dn _ s) (old _ (omega arith) t) g;
            asked = λ s. asked_up (old _ (omega arith) s);
            one = λ s t. C.one (old _ (omega arith) s) (old _ (omega arith) t);
            positive = λ s. C.positive (old _ (omega arith) s);
            why = λ s. why_up (C.why (old _ (omega arith) s));
            bound = λ s. C.bound (old _ (omega arith) s);
            accepted = λ s. accepted (dn _ s);
            prior = λ s. prior_up (old _ (omega arith) s);
          }
        where
          last : {i' b' a' d c : ℕ} {v : X}
              → S (promise i' b' a' d v) ⊎ New (promise i b a x.ballot x.value) (promise i' b' a' d v)
              → S (accepted i' c a')
              → c < b'
              → c ≤ d
          last (inl s) t g = C.last s t g
          last (inr new) t g = ok.votes t

          accepted : {i' b' a' d : ℕ} {v : X}
              → S (promise i' b' a' d v) ⊎ New (promise i b a x.ballot x.value) (promise i' b' a' d v)
              → (d < b') × ((d ≡ 0) ⊎ S' (accept i' d a' v))
          accepted (inl s) = held_up s
          accepted (inr new) = (omega (arith, ok.order), pair_up up ok.pair)

    -- the acceptor a in the state x accepts v under b
    module _ (i b a : ℕ) (v : X) (x : Holding X) (ok : AccOk S a i x) (h : x.promised ≤ b) (r : S (accept i b a v)) where
      pub core_accepted : ((m : Paxos X) → S' m → S m ⊎ New (accepted i b a) m)
          → ((m : Paxos X) → kind m ≢ 3 → S' m → S m)
          → Core n S'
      core_accepted dn old =
          record {
            last = λ s t g. last (old _ (omega arith) s) (dn _ t) g;
            asked = λ s. asked (dn _ s);
            one = λ s t. C.one (old _ (omega arith) s) (old _ (omega arith) t);
            positive = λ s. C.positive (old _ (omega arith) s);
            why = λ s. why_up (C.why (old _ (omega arith) s));
            bound = λ s. C.bound (old _ (omega arith) s);
            accepted = λ s. held_up (old _ (omega arith) s);
            prior = λ s. prior_up (old _ (omega arith) s);
          }
        where
          last : {i' b' a' d c : ℕ} {w : X}
              → S (promise i' b' a' d w)
              → S (accepted i' c a') ⊎ New {A = Paxos X} (accepted i b a) (accepted i' c a')
              → c < b'
              → c ≤ d
          last s (inl t) g = C.last s t g
          last s (inr new) g = absurd (omega (arith, ok.promises s))

          asked : {i' b' a' : ℕ}
              → S (accepted i' b' a') ⊎ New {A = Paxos X} (accepted i b a) (accepted i' b' a')
              → (w : X) × S' (accept i' b' a' w)
          asked (inl s) = asked_up s
          asked (inr new) = (v, up _ r)

    -- the coordinator k, which has applied p instances, proposes v
    module _ (k p : ℕ) (r : Attempt X) (v : X) (o : CoOk n S k p r) (h : 0 < r.ballot) (e : r.proposed ≡ false) (q : Majority n r.promises)
        (g : (r.accepted ≡ 0) ⊎ (v ≡ r.value)) where
      -- it has not proposed under this ballot
      unused : {a : ℕ} {w : X} → S (accept p r.ballot a w) → ⊥
      unused {a} {w} s = go (o.used s (o.own h))
        where
          go : UsedBy p r p r.ballot w → ⊥
          go (past t) = omega arith
          go (under t u) = omega arith
          go (now t u f z) = let y : ◌≡◌ {A = ℕ} 0 1 = cc in omega arith

      reason : Why n S p r.ballot v
      reason = record { from = r.accepted; below = below o.best; set = r.promises; most = q; heard = o.heard; same = same g o.best }
        where
          below : Best S p r → r.accepted < r.ballot
          below (inl z) = omega arith
          below (inr t) = t.0

          same : (r.accepted ≡ 0) ⊎ (v ≡ r.value) → Best S p r → (r.accepted ≡ 0) ⊎ ((a : ℕ) × S (accept p r.accepted a v))
          same (inl z) t = inl z
          same (inr z) (inl t) = inl t
          same (inr z) (inr t) = inr (t.1.0, rw z t.1.1)

      abbrev Proposed : Paxos X → Type 0
      Proposed m = NewAll n (λ a. accept p r.ballot a v) m

      pub core_propose : ((m : Paxos X) → S' m → S m ⊎ Proposed m) → ((m : Paxos X) → kind m ≢ 2 → S' m → S m) → Core n S'
      core_propose dn old =
          record {
            last = λ s t. C.last (old _ (omega arith) s) (old _ (omega arith) t);
            asked = λ s. asked_up (old _ (omega arith) s);
            one = λ s t. one (dn _ s) (dn _ t);
            positive = λ s. positive (dn _ s);
            why = λ s. why (dn _ s);
            bound = λ s. bound (dn _ s);
            accepted = λ s. held_up (old _ (omega arith) s);
            prior = λ s. prior (dn _ s);
          }
        where
          one : {i b a d : ℕ} {u w : X} → S (accept i b a u) ⊎ Proposed (accept i b a u)
              → S (accept i b d w) ⊎ Proposed (accept i b d w) → u ≡ w
          one (inl s) (inl t) = C.one s t
          one (inl s) (inr (new_at a l)) = absurd (unused s)
          one (inr (new_at a l)) (inl t) = absurd (unused t)
          one {u = u} {w = w} (inr s) (inr t) = let (a, f) = is_of s in let (d, g) = is_of t in cc

          positive : {i b a : ℕ} {u : X} → S (accept i b a u) ⊎ Proposed (accept i b a u) → 0 < b
          positive (inl s) = C.positive s
          positive (inr (new_at a l)) = h

          bound : {i b a : ℕ} {u : X} → S (accept i b a u) ⊎ Proposed (accept i b a u) → i < instances
          bound (inl s) = C.bound s
          bound (inr (new_at a l)) = o.room h

          why : {i b a : ℕ} {u : X} → S (accept i b a u) ⊎ Proposed (accept i b a u) → Why n S' i b u
          why (inl s) = why_up (C.why s)
          why (inr (new_at a l)) = why_up reason

          prior : {i b a : ℕ} {u : X} → S (accept i b a u) ⊎ Proposed (accept i b a u) → (j : ℕ) → j < i
              → (d : ℕ) × (w : X) × Chosen n S' j d w
          prior (inl s) j f = prior_up s j f
          prior (inr (new_at a l)) j f = let t = o.earlier j f in (t.0, t.1, chosen_up t.2)
