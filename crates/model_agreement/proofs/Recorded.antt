-- What the history says of a coordinator and of an acceptor, beside what they keep.
use Prim.Native.Nat.{ℕ, suc, ◌≤◌, ◌<◌}
use mathlib.Core.Path.{◌≡◌, refl}
use mathlib.Core.Logic.{◌⊎◌, inl, inr}
use mathlib.Core.List.{List, ◌∷◌}
use native.Mathlib.Decide.{dec_le}
use native.Mathlib.Omega.{arith}
use lib.Dec.{T}
use Rattle.log_entry.specs.Bits.{has, with}
use Rattle.model_paxos.specs.Majority.{Majority}
use Rattle.model_paxos.specs.Messages.{Paxos, accept, accepted, prepare}
use Rattle.model_paxos.specs.Rules.{Has}
use Rattle.model_paxos.proofs.Sets.{few_zero, has_with, has_zero, has←, has→, meet, most_mono, with_has, with_keeps}
use Rattle.model_protocol.specs.Batch.{Batch}
use Rattle.model_agreement.specs.Content.{Content, paxos}
use Rattle.model_agreement.specs.History.{Accepts, Event, Got, LastOpened, Learns, NoneAbove, Other, Since, before, delivered, first, heard, here, kept, later, learns, opened, opening, without_messages, there}

-- ---- how each fact about a history came about, by its newest event

last_cases : {k i b : ℕ} {e : Event} {h : List Event} → LastOpened k i b (e ∷ h) → (e ≡ opened k i b) ⊎ Other k e
last_cases opening = inl refl
last_cases (without_messages o y) = inr o

since_cases : {k i b a : ℕ} {e : Event} {h : List Event} → Since k i b a (e ∷ h) → ((m : ℕ) × (e ≡ delivered m (paxos (accepted i b a)))) ⊎ Since k i b a h
since_cases (heard {m = m} o) = inl (m, refl)
since_cases (kept o y) = inr y

got_cases : {x : Content} {e : Event} {h : List Event} → Got x (e ∷ h) → ((m : ℕ) × (e ≡ delivered m x)) ⊎ Got x h
got_cases (here {m = m}) = inl (m, refl)
got_cases (there y) = inr y

accepts_cases : {i b a : ℕ} {v : Batch} {e : Event} {h : List Event} → Accepts i b a v (e ∷ h)
    → ((m : ℕ) × (e ≡ delivered m (paxos (accept i b a v))) × NoneAbove i b a h) ⊎ Accepts i b a v h
accepts_cases (first {m = m} N) = inl (m, refl, N)
accepts_cases (later y) = inr y

-- ---- coordinator k, which has applied p instances, opened l last in its current one, and counted
-- the acceptances of q

pub record CoNow (n : ℕ) (h : List Event) (k p l q : ℕ) : Type 0 where
  pub last : 0 < l → LastOpened k p l h
  pub latest : {i b : ℕ} → LastOpened k i b h → (i < p) ⊎ ((i ≡ p) × (b ≡ l))
  pub in_set : (a : ℕ) → Has q a → Since k p l a h
  pub set_in : (a : ℕ) → Since k p l a h → Has q a
  pub few : Majority n q → ⊥

pub record CoHist (n : ℕ) (h : List Event) (k p l q : ℕ) : Type 0 where
  pub now : CoNow n h k p l q
  pub learnt : (i : ℕ) → i < p → Learns n k i h
  pub counted : (i : ℕ) → Learns n k i h → i < p

since_opened : {k i b a : ℕ} {h : List Event} → Since k i b a h → LastOpened k i b h
since_opened (heard o) = without_messages tt o
since_opened (kept e s) = without_messages e (since_opened s)

-- a majority since the last opening, but the set is no majority: that was in an earlier instance
early : {n k p l q i b : ℕ} {h : List Event} (r : ℕ) → CoNow n h k p l q → Majority n r → ((a : ℕ) → T (has r a) → Since k i b a h) → i < p
early {n} {k} {p} {l} {q} {i} {b} {h} r N m f = go (N.latest (since_opened (f t.0 (has← r t.0 t.1))))
  where
    t : (a : ℕ) × Has r a × Has r a
    t = meet n r r m m

    go : (i < p) ⊎ ((i ≡ p) × (b ≡ l)) → i < p
    go (inl g) = g
    go (inr g) = absurd (N.few (most_mono n r q (λ a x. N.set_in a (rw (g.0, g.1) at (f a (has← r a x)))) m))

close : {n k p l q p' l' q' : ℕ} {e : Event} {h : List Event}
    → CoNow n (e ∷ h) k p' l' q'
    → CoHist n h k p l q
    → p ≤ p'
    → (i : ℕ)
    → Learns n k i (e ∷ h)
    → i < p'
close N H g i (learns b r m f) = early r N m f
close N H g i (before y) = omega (arith, H.counted i y)

-- an event that is nothing to k
pub co_frame : {n k p l q : ℕ} {e : Event} {h : List Event}
    → CoHist n h k p l q
    → Other k e
    → ((a : ℕ) → Since k p l a (e ∷ h) → Since k p l a h)
    → ((i b : ℕ) → LastOpened k i b (e ∷ h) → LastOpened k i b h)
    → CoHist n (e ∷ h) k p l q
co_frame {n} {k} {p} {l} {q} {e} {h} H o f g = record { now = N; learnt = λ i y. before (H.learnt i y); counted = close N H (omega arith) }
  where
    N : CoNow n (e ∷ h) k p l q
    N = record {
      last = λ y. without_messages o (H.now.last y);
      latest = λ y. H.now.latest (g _ _ y);
      in_set = λ a y. kept o (H.now.in_set a y);
      set_in = λ a y. H.now.set_in a (f a y);
      few = H.now.few;
    }

-- k opens b
pub co_opens : {n k p l q : ℕ} {h : List Event} (b : ℕ) → CoHist n h k p l q → CoHist n (opened k p b ∷ h) k p b 0
co_opens {n} {k} {p} {l} {q} {h} b H = record { now = N; learnt = λ i y. before (H.learnt i y); counted = close N H (omega arith) }
  where
    latest : {i d : ℕ} → LastOpened k i d (opened k p b ∷ h) → (i < p) ⊎ ((i ≡ p) × (d ≡ b))
    latest {i} {d} y = go (last_cases y)
      where
        go : (opened k p b ≡ opened k i d) ⊎ Other k (opened k p b) → (i < p) ⊎ ((i ≡ p) × (d ≡ b))
        go (inl e) = let f : i ≡ p = cc in let g : d ≡ b = cc in inr (f, g)
        go (inr o) = absurd (o refl)

    set_in : {a : ℕ} → Since k p b a (opened k p b ∷ h) → Has 0 a
    set_in (kept o y) = absurd (o refl)

    N : CoNow n (opened k p b ∷ h) k p b 0
    N = record {
      last = λ _. opening;
      latest = λ y. latest y;
      in_set = λ a y. absurd (has_zero a y);
      set_in = λ a y. set_in y;
      few = few_zero n;
    }

-- an acceptance is delivered to k
module _ {n k p l q : ℕ} {h : List Event} (j a : ℕ) (H : CoHist n h k p l q) (g : 0 < l) where
  latest : {i d : ℕ} → LastOpened k i d (delivered j (paxos (accepted p l a)) ∷ h) → (i < p) ⊎ ((i ≡ p) × (d ≡ l))
  latest (without_messages o y) = H.now.latest y

  in_set : (x : ℕ) → Has (with q a) x → Since k p l x (delivered j (paxos (accepted p l a)) ∷ h)
  in_set x y = go (has_with a x q y)
    where
      go : {x : ℕ} → (a ≡ x) ⊎ Has q x → Since k p l x (delivered j (paxos (accepted p l a)) ∷ h)
      go (inl e) = rw (← e) (heard (H.now.last g))
      go (inr y) = kept tt (H.now.in_set _ y)

  set_in : {x : ℕ} → Since k p l x (delivered j (paxos (accepted p l a)) ∷ h) → Has (with q a) x
  set_in {x} y = go (since_cases y)
    where
      go : ((m : ℕ) × (delivered j (paxos (accepted p l a)) ≡ delivered m (paxos (accepted p l x)))) ⊎ Since k p l x h → Has (with q a) x
      go (inl t) = let e = t.1 in let f : a ≡ x = cc in rw (← f) (with_has a q)
      go (inr y) = with_keeps a x q (H.now.set_in x y)

  pub co_counts : (Majority n (with q a) → ⊥) → CoHist n (delivered j (paxos (accepted p l a)) ∷ h) k p l (with q a)
  co_counts f = record { now = N; learnt = λ i y. before (H.learnt i y); counted = close N H (omega arith) }
    where
      N : CoNow n (delivered j (paxos (accepted p l a)) ∷ h) k p l (with q a)
      N = record {
        last = λ y. without_messages tt (H.now.last y);
        latest = λ y. latest y;
        in_set = in_set;
        set_in = λ x y. set_in y;
        few = f;
      }

  pub co_learns : Majority n (with q a) → CoHist n (delivered j (paxos (accepted p l a)) ∷ h) k (suc p) 0 0
  co_learns m = record { now = N; learnt = λ i y. learnt i (dec_le (suc i) p) y; counted = close N H (omega arith) }
    where
      latest' : {i d : ℕ} → (i < p) ⊎ ((i ≡ p) × (d ≡ l)) → (i < suc p) ⊎ ((i ≡ suc p) × (d ≡ 0))
      latest' (inl y) = inl (omega arith)
      latest' (inr y) = inl (omega arith)

      none' : {d : ℕ} → (suc p < p) ⊎ ((suc p ≡ p) × (d ≡ l)) → ⊥
      none' (inl y) = omega arith
      none' (inr y) = omega arith

      N : CoNow n (delivered j (paxos (accepted p l a)) ∷ h) k (suc p) 0 0
      N = record {
        last = λ y. absurd (omega arith);
        latest = λ y. latest' (latest y);
        in_set = λ x y. absurd (has_zero x y);
        set_in = λ x y. absurd (none' (latest (since_opened y)));
        few = few_zero n;
      }

      learnt : (i : ℕ) → Dec (i < p) → i < suc p → Learns n k i (delivered j (paxos (accepted p l a)) ∷ h)
      learnt i (yes y) z = before (H.learnt i y)
      learnt i (no y) z = let e : i ≡ p = omega arith in rw e (learns l (with q a) m (λ x t. in_set x (has→ (with q a) x t)))

-- ---- acceptor a in instance i, which has promised t

pub record AccHist (h : List Event) (S : Paxos Batch → Type 0) (a i t : ℕ) : Type 0 where
  -- t is the highest ballot delivered
  pub top : NoneAbove i t a h
  pub least : (b : ℕ) → NoneAbove i b a h → t ≤ b
  pub voted : {b : ℕ} → S (accepted i b a) → (v : Batch) × Accepts i b a v h
  pub told : {b : ℕ} {v : Batch} → Accepts i b a v h → S (accepted i b a) × S (accept i b a v)

none_above : {i b a : ℕ} {e : Event} {h : List Event} → NoneAbove i b a (e ∷ h) → NoneAbove i b a h
none_above N = record { prepares = λ y. N.prepares (there y); accepts = λ y. N.accepts (there y) }

module _ {S S' : Paxos Batch → Type 0} (up : (m : Paxos Batch) → S m → S' m) {h : List Event} {a i t : ℕ} (H : AccHist h S a i t) where
  told_up : {b : ℕ} {v : Batch} → Accepts i b a v h → S' (accepted i b a) × S' (accept i b a v)
  told_up y = let z = H.told y in (up _ z.0, up _ z.1)

  -- messages are sent, none of them an acceptance of a's in i
  pub acc_sent : ((b : ℕ) → S' (accepted i b a) → S (accepted i b a)) → AccHist h S' a i t
  acc_sent f = record { top = H.top; least = H.least; voted = λ s. H.voted (f _ s); told = told_up }

  -- an event that is nothing to a in i
  pub acc_frame : (e : Event)
      → ((b : ℕ) → S' (accepted i b a) → S (accepted i b a))
      → ((c : ℕ) → Got (paxos (prepare i c a)) (e ∷ h) → Got (paxos (prepare i c a)) h)
      → ((c : ℕ) (v : Batch) → Got (paxos (accept i c a v)) (e ∷ h) → Got (paxos (accept i c a v)) h)
      → ((c : ℕ) (v : Batch) → Accepts i c a v (e ∷ h) → Accepts i c a v h)
      → AccHist (e ∷ h) S' a i t
  acc_frame e f p q r = record {
    top = record { prepares = λ y. H.top.prepares (p _ y); accepts = λ y. H.top.accepts (q _ _ y) };
    least = λ b N. H.least b (none_above N);
    voted = λ s. let z = H.voted (f _ s) in (z.0, later z.1);
    told = λ y. told_up (r _ _ y);
  }

  -- a prepare of b is delivered to it: t' is the higher of the two
  pub acc_prepares : (j b t' : ℕ)
      → ((c : ℕ) → S' (accepted i c a) → S (accepted i c a))
      → t ≤ t'
      → b ≤ t'
      → (t' ≡ t) ⊎ (t' ≡ b)
      → AccHist (delivered j (paxos (prepare i b a)) ∷ h) S' a i t'
  acc_prepares j b t' f x y z =
      record {
        top = record { prepares = λ u. prepares u; accepts = λ u. accepts u };
        least = λ c N. least z c N;
        voted = λ s. let z = H.voted (f _ s) in (z.0, later z.1);
        told = λ u. told u;
      }
    where
      prepares : {c : ℕ} → Got (paxos (prepare i c a)) (delivered j (paxos (prepare i b a)) ∷ h) → c ≤ t'
      prepares {c} u = go (got_cases u)
        where
          go : ((m : ℕ) × (delivered j (paxos (prepare i b a)) ≡ delivered m (paxos (prepare i c a)))) ⊎ Got (paxos (prepare i c a)) h → c ≤ t'
          go (inl t) = let e = t.1 in let f : b ≡ c = cc in omega arith
          go (inr u) = omega (arith, H.top.prepares u)

      accepts : {c : ℕ} {v : Batch} → Got (paxos (accept i c a v)) (delivered j (paxos (prepare i b a)) ∷ h) → c ≤ t'
      accepts (there u) = omega (arith, H.top.accepts u)

      least : (t' ≡ t) ⊎ (t' ≡ b) → (c : ℕ) → NoneAbove i c a (delivered j (paxos (prepare i b a)) ∷ h) → t' ≤ c
      least (inl e) c N = omega (arith, H.least c (none_above N))
      least (inr e) c N = omega (arith, N.prepares here)

      told : {c : ℕ} {v : Batch} → Accepts i c a v (delivered j (paxos (prepare i b a)) ∷ h) → S' (accepted i c a) × S' (accept i c a v)
      told (later u) = told_up u

  -- an accept of b and v is delivered to it: t' is the higher of the two
  module _ (j b : ℕ) (v : Batch) (t' : ℕ) (x : t ≤ t') (y : b ≤ t') (z : (t' ≡ t) ⊎ (t' ≡ b)) where
    top : NoneAbove i t' a (delivered j (paxos (accept i b a v)) ∷ h)
    top = record { prepares = λ u. prepares u; accepts = λ u. accepts u }
      where
        prepares : {c : ℕ} → Got (paxos (prepare i c a)) (delivered j (paxos (accept i b a v)) ∷ h) → c ≤ t'
        prepares (there u) = omega (arith, H.top.prepares u)

        accepts : {c : ℕ} {w : Batch} → Got (paxos (accept i c a w)) (delivered j (paxos (accept i b a v)) ∷ h) → c ≤ t'
        accepts {c} {w} u = go (got_cases u)
          where
            go : ((m : ℕ) × (delivered j (paxos (accept i b a v)) ≡ delivered m (paxos (accept i c a w)))) ⊎ Got (paxos (accept i c a w)) h → c ≤ t'
            go (inl t) = let e = t.1 in let f : b ≡ c = cc in omega arith
            go (inr u) = omega (arith, H.top.accepts u)

    least : (c : ℕ) → NoneAbove i c a (delivered j (paxos (accept i b a v)) ∷ h) → t' ≤ c
    least c N = go z
      where
        go : (t' ≡ t) ⊎ (t' ≡ b) → t' ≤ c
        go (inl e) = omega (arith, H.least c (none_above N))
        go (inr e) = omega (arith, N.accepts here)

    -- below the promised ballot: nothing
    pub acc_passes : ((c : ℕ) → S' (accepted i c a) → S (accepted i c a)) → b < t
        → AccHist (delivered j (paxos (accept i b a v)) ∷ h) S' a i t'
    acc_passes f g = record { top = top; least = least; voted = λ s. let z = H.voted (f _ s) in (z.0, later z.1); told = λ u. told u }
      where
        told : {c : ℕ} {w : Batch} → Accepts i c a w (delivered j (paxos (accept i b a v)) ∷ h) → S' (accepted i c a) × S' (accept i c a w)
        told {c} {w} u = go (accepts_cases u)
          where
            go : ((m : ℕ) × (delivered j (paxos (accept i b a v)) ≡ delivered m (paxos (accept i c a w))) × NoneAbove i c a h) ⊎ Accepts i c a w h
                → S' (accepted i c a) × S' (accept i c a w)
            go (inl t) = let e = t.1 in let f : b ≡ c = cc in absurd (omega (arith, H.least _ t.2))
            go (inr u) = told_up u

    -- else it accepts
    pub acc_votes : ((c : ℕ) → S' (accepted i c a) → S (accepted i c a) ⊎ (c ≡ b))
        → t ≤ b
        → S' (accepted i b a)
        → S (accept i b a v)
        → AccHist (delivered j (paxos (accept i b a v)) ∷ h) S' a i t'
    acc_votes f g s r = record { top = top; least = least; voted = λ s. voted (f _ s); told = λ u. told u }
      where
        now' : NoneAbove i b a h
        now' = record { prepares = λ u. omega (arith, H.top.prepares u); accepts = λ u. omega (arith, H.top.accepts u) }

        voted : {c : ℕ} → S (accepted i c a) ⊎ (c ≡ b) → (w : Batch) × Accepts i c a w (delivered j (paxos (accept i b a v)) ∷ h)
        voted (inl s) = let z = H.voted s in (z.0, later z.1)
        voted (inr e) = (v, rw e (first now'))

        told : {c : ℕ} {w : Batch} → Accepts i c a w (delivered j (paxos (accept i b a v)) ∷ h) → S' (accepted i c a) × S' (accept i c a w)
        told {c} {w} u = go (accepts_cases u)
          where
            go : ((m : ℕ) × (delivered j (paxos (accept i b a v)) ≡ delivered m (paxos (accept i c a w))) × NoneAbove i c a h) ⊎ Accepts i c a w h
                → S' (accepted i c a) × S' (accept i c a w)
            go (inl t) = let e = t.1 in let f : b ≡ c = cc in let g : v ≡ w = cc in (rw (← f) s, rw (← f, ← g) (up _ r))
            go (inr u) = told_up u
