-- The sequence of the chosen values, computed from the sent messages: it has exactly the chosen
-- ones, by instance from 0.
use Prim.Native.Nat.{ℕ, zero, suc, ◌+◌, ◌≤◌, ◌<◌, ◌*◌}
use mathlib.Core.Path.{◌≡◌, refl, sym, subst, ◌∙◌}
use mathlib.Core.Logic.{◌⊎◌, inl, inr}
use mathlib.Core.Bool.{Bool, true, false, cond}
use mathlib.Core.Option.{Option, none, some}
use mathlib.Core.List.Memᴰ
use mathlib.Core.List.{List, [], ◌∷◌, Memᴰ}
use native.Mathlib.Decide.{dec_le, ℕ_discrete}
use native.Mathlib.Omega.{arith}
use lib.Count.{ones_in}
use lib.Dec.{T, eqb, eqb→eq, eqb_refl, ltb, ltb→lt, lt→ltb}
use lib.ListN.{get_or, length, length-take, take}
use lib.Seq.{ext_get_or, get_or-take}
use Rattle.log_entry.specs.Bits.{with}
use Rattle.model_steps.specs.Limits.{instances}
use Rattle.model_paxos.specs.Majority.{Majority}
use Rattle.model_paxos.specs.Messages.{Paxos, accept, accepted, prepare, promise}
use Rattle.model_paxos.specs.Rules.{Chosen, Core, Has}
use Rattle.model_paxos.proofs.Core.{chosen_agree}
use Rattle.model_paxos.proofs.Sets.{has_with, has_zero, most_mono, with_has, with_keeps}

abbrev is_most : ℕ → ℕ → Bool
is_most n q = ltb n (2 * ones_in n q)

module _ {X : Type 0} where
  -- ---- the set of acceptors that accepted in i under b

  abbrev vote : ℕ → ℕ → Paxos X → ℕ → ℕ
  vote i b (prepare j c a) q = q
  vote i b (promise j c a d v) q = q
  vote i b (accept j c a v) q = q
  vote i b (accepted j c a) q = cond (eqb i j) (cond (eqb b c) (with q a) q) q

  abbrev voters : ℕ → ℕ → List (Paxos X) → ℕ
  voters i b [] = 0
  voters i b (m ∷ l) = vote i b m (voters i b l)

  voters→ : (i b a : ℕ) (l : List (Paxos X)) → Has (voters i b l) a → Memᴰ (accepted i b a) l
  voters→ i b a [] h = absurd (has_zero a h)
  voters→ i b a (m ∷ l) h = go m (voters→ i b a l) h
    where
      go : (m : Paxos X) → (Has (voters i b l) a → Memᴰ (accepted i b a) l)
          → Has (vote i b m (voters i b l)) a → Memᴰ (accepted i b a) (m ∷ l)
      go (prepare j c x) r h = Memᴰ.tail (r h)
      go (promise j c x d v) r h = Memᴰ.tail (r h)
      go (accept j c x v) r h = Memᴰ.tail (r h)
      go (accepted j c x) r h = two (eqb i j) (eqb b c) (eqb→eq i j) (eqb→eq b c) h
        where
          two : (t u : Bool)
              → (T t → i ≡ j)
              → (T u → b ≡ c)
              → Has (cond t (cond u (with (voters i b l) x) (voters i b l)) (voters i b l)) a
              → Memᴰ (accepted i b a) (accepted j c x ∷ l)
          two true true f g h = last (has_with x a _ h)
            where
              last : (x ≡ a) ⊎ Has (voters i b l) a → Memᴰ (accepted i b a) (accepted j c x ∷ l)
              last (inl e) =
                  let p : i ≡ j = f tt in
                  let q : b ≡ c = g tt in
                  let z : ◌≡◌ {A = Paxos X} (accepted i b a) (accepted j c x) = cc in
                  Memᴰ.head z
              last (inr k) = Memᴰ.tail (r k)
          two true false f g h = Memᴰ.tail (r h)
          two false u f g h = Memᴰ.tail (r h)

  voters← : (i b a : ℕ) (l : List (Paxos X)) → Memᴰ (accepted i b a) l → Has (voters i b l) a
  voters← i b a [] s = absurd (Memᴰ.not-nil s)
  voters← i b a (m ∷ l) s = go (Memᴰ.cases_cons s) (voters← i b a l)
    where
      same : (t u : Bool) → T t → T u → (q : ℕ) → Has (cond t (cond u (with q a) q) q) a
      same true true f g q = with_has a q
      same true false f g q = absurd g
      same false u f g q = absurd f

      keep : (m : Paxos X) (q : ℕ) → Has q a → Has (vote i b m q) a
      keep (prepare j c x) q h = h
      keep (promise j c x d v) q h = h
      keep (accept j c x v) q h = h
      keep (accepted j c x) q h = two (eqb i j) (eqb b c)
        where
          two : (t u : Bool) → Has (cond t (cond u (with q x) q) q) a
          two true true = with_keeps x a q h
          two true false = h
          two false u = h

      go : (accepted i b a ≡ m) ⊎ Memᴰ (accepted i b a) l
          → (Memᴰ (accepted i b a) l → Has (voters i b l) a)
          → Has (vote i b m (voters i b l)) a
      go (inl e) r =
          subst (λ x. Has (vote i b x (voters i b l)) a) e (same (eqb i i) (eqb b b) (eqb_refl i) (eqb_refl b) (voters i b l))
      go (inr t) r = keep m (voters i b l) (r t)

  -- ---- the value chosen in an instance, if any

  abbrev found : ℕ → ℕ → List (Paxos X) → Paxos X → Option X → Option X
  found n i all (prepare j b a) r = r
  found n i all (promise j b a d v) r = r
  found n i all (accept j b a v) r = cond (eqb i j) (cond (is_most n (voters i b all)) (some v) r) r
  found n i all (accepted j b a) r = r

  abbrev find : ℕ → ℕ → List (Paxos X) → List (Paxos X) → Option X
  find n i all [] = none
  find n i all (m ∷ l) = found n i all m (find n i all l)

  abbrev Hit : ℕ → ℕ → List (Paxos X) → List (Paxos X) → X → Type 0
  Hit n i all l v = (b : ℕ) × (a : ℕ) × Memᴰ (accept i b a v) l × Majority n (voters i b all)

  find_some : (n i : ℕ) (all l : List (Paxos X)) (v : X) → find n i all l ≡ some v → Hit n i all l v
  unfolding Majority
  find_some n i all [] v e = absurd (let z : ◌≡◌ {A = ℕ} 0 1 = cc in omega arith)
  find_some n i all (m ∷ l) v e = go m (λ f. let t = find_some n i all l v f in (t.0, t.1, Memᴰ.tail t.2, t.3)) e
    where
      go : (m : Paxos X) → (find n i all l ≡ some v → Hit n i all (m ∷ l) v)
          → found n i all m (find n i all l) ≡ some v → Hit n i all (m ∷ l) v
      go (prepare j b a) r e = r e
      go (promise j b a d w) r e = r e
      go (accepted j b a) r e = r e
      go (accept j b a w) r e = two (eqb i j) (is_most n (voters i b all)) (eqb→eq i j) (ltb→lt _ _) e
        where
          two : (t u : Bool)
              → (T t → i ≡ j)
              → (T u → Majority n (voters i b all))
              → cond t (cond u (some w) (find n i all l)) (find n i all l) ≡ some v
              → Hit n i all (accept j b a w ∷ l) v
          two true true f g e =
              let p : i ≡ j = f tt in
              let z : accept i b a v ≡ accept j b a w = cc in
              (b, a, Memᴰ.head z, g tt)
          two true false f g e = r e
          two false u f g e = r e

  find_none : (n i : ℕ) (all l : List (Paxos X)) → find n i all l ≡ none → (b a : ℕ) (v : X)
      → Memᴰ (accept i b a v) l → Majority n (voters i b all) → ⊥
  unfolding Majority
  find_none n i all [] e b a v s q = Memᴰ.not-nil s
  find_none n i all (m ∷ l) e b a v s q = go m (λ f t. find_none n i all l f b a v t q) e (Memᴰ.cases_cons s)
    where
      before : (m : Paxos X) → found n i all m (find n i all l) ≡ none → find n i all l ≡ none
      before (prepare j b a) e = e
      before (promise j b a d w) e = e
      before (accepted j b a) e = e
      before (accept j b a w) e = two (eqb i j) (is_most n (voters i b all)) e
        where
          two : (t u : Bool) → cond t (cond u (some w) (find n i all l)) (find n i all l) ≡ none → find n i all l ≡ none
          two true true e = absurd (let z : ◌≡◌ {A = ℕ} 0 1 = cc in omega arith)
          two true false e = e
          two false u e = e

      two : (t u : Bool) → T t → T u → (r : Option X) → cond t (cond u (some v) r) r ≡ none → ⊥
      two true true f g r e = let z : ◌≡◌ {A = ℕ} 0 1 = cc in omega arith
      two true false f g r e = g
      two false u f g r e = f

      go : (m : Paxos X)
          → (find n i all l ≡ none → Memᴰ (accept i b a v) l → ⊥)
          → found n i all m (find n i all l) ≡ none
          → (accept i b a v ≡ m) ⊎ Memᴰ (accept i b a v) l
          → ⊥
      go m r e (inr t) = r (before m e) t
      go m r e (inl f) =
          two (eqb i i) (is_most n (voters i b all)) (eqb_refl i) (lt→ltb _ _ q) (find n i all l)
          (subst (λ x. found n i all x (find n i all l) ≡ none) (sym f) e)

  -- ---- the sequence, up to the first instance with no chosen value

  abbrev more : Option X → List X → List X
  more none l = []
  more (some v) l = v ∷ l

  unfoldable pub seq_from : ℕ → List (Paxos X) → ℕ → ℕ → List X
  seq_from n all zero i = []
  seq_from n all (suc f) i = more (find n i all all) (seq_from n all f (suc i))

  module _ (n : ℕ) (all : List (Paxos X)) (z : X) where
    seq_at : (f i j : ℕ) → j < length (seq_from n all f i) → find n (i + j) all all ≡ some (get_or (seq_from n all f i) j z)
    unfolding seq_from
    seq_at zero i j h = absurd (omega arith)
    seq_at (suc f) i j h = go (λ j. seq_at f (suc i) j) (find n i all all) refl j h
      where
        go : ((j : ℕ) → j < length (seq_from n all f (suc i)) → find n (suc i + j) all all ≡ some (get_or (seq_from n all f (suc i)) j z))
            → (o : Option X)
            → find n i all all ≡ o
            → (j : ℕ)
            → j < length (more o (seq_from n all f (suc i)))
            → find n (i + j) all all ≡ some (get_or (more o (seq_from n all f (suc i))) j z)
        go r none e j h = absurd (omega arith)
        go r (some v) e zero h = let q : i + 0 ≡ i = omega arith in rw q e
        go r (some v) e (suc j) h = let q : i + suc j ≡ suc i + j = omega arith in rw q (r j (omega arith))

  module _ (n : ℕ) (all : List (Paxos X)) where
    seq_end : (f i : ℕ) → length (seq_from n all f i) < f → find n (i + length (seq_from n all f i)) all all ≡ none
    unfolding seq_from
    seq_end zero i h = absurd (omega arith)
    seq_end (suc f) i h = go (seq_end f (suc i)) (find n i all all) refl h
      where
        go : (length (seq_from n all f (suc i)) < f → find n (suc i + length (seq_from n all f (suc i))) all all ≡ none)
            → (o : Option X)
            → find n i all all ≡ o
            → length (more o (seq_from n all f (suc i))) < suc f
            → find n (i + length (more o (seq_from n all f (suc i)))) all all ≡ none
        go r none e h = let q : i + 0 ≡ i = omega arith in rw q e
        go r (some v) e h =
            let q : i + suc (length (seq_from n all f (suc i))) ≡ suc i + length (seq_from n all f (suc i)) = omega arith in
            rw q (r (omega arith))

  -- a prefix, by its elements
  pub prefix : (z : X) (l t : List X) → length l ≤ length t → ((j : ℕ) → j < length l → get_or l j z ≡ get_or t j z) → l ≡ take (length l) t
  prefix z l t h f =
      ext_get_or z l (take (length l) t) (simp length-take (omega arith)) (λ j g. f j g ∙ sym (get_or-take (length l) t j z g))

pub all_below : (p q : ℕ) → ((j : ℕ) → j < p → j < q) → p ≤ q
all_below zero q f = omega arith
all_below (suc p) q f = f p (omega arith)

-- ---- what the sequence is, where `all` lists the sent messages

module _ {X : Type 0} {n : ℕ} {S : Paxos X → Type 0} (C : Core n S) (all : List (Paxos X)) (to : (m : Paxos X) → S m → Memᴰ m all)
    (from : (m : Paxos X) → Memᴰ m all → S m) (z : X) where
  hit : {i : ℕ} {v : X} → find n i all all ≡ some v → (b : ℕ) × Chosen n S i b v
  hit {i} {v} e =
      let t = find_some n i all all v e in
      (t.0, record { set = voters i t.0 all; most = t.3; all = λ a h. from _ (voters→ i t.0 a all h); who = t.1; asked = from _ t.2 })

  miss : {i b : ℕ} {v : X} → find n i all all ≡ none → Chosen n S i b v → ⊥
  miss {i} {b} {v} e c =
      find_none n i all all e b c.who v (to _ c.asked)
      (most_mono n c.set (voters i b all) (λ a h. voters← i b a all (to _ (c.all a h))) c.most)

  abbrev chosen : List X
  chosen = seq_from n all instances 0

  -- each element of the sequence is chosen in its instance
  pub seq_chosen : (j : ℕ) → j < length chosen → (b : ℕ) × Chosen n S j b (get_or chosen j z)
  seq_chosen j h = let q : 0 + j ≡ j = omega arith in hit (rw q at (seq_at n all z instances 0 j h))

  -- what is chosen in an instance is the element of the sequence there
  pub chosen_in : {i b : ℕ} {v : X} → Chosen n S i b v → i < length chosen
  chosen_in {i} {b} {v} c = go (dec_le (suc i) (length chosen))
    where
      g : i < instances
      g = C.bound c.asked

      ended : length chosen < instances → find n (length chosen) all all ≡ none
      ended h = let q : 0 + length chosen ≡ length chosen = omega arith in rw q at (seq_end n all instances 0 h)

      go : Dec (i < length chosen) → i < length chosen
      go (yes h) = h
      go (no h) = first (ℕ_discrete (length chosen) i)
        where
          first : Dec (length chosen ≡ i) → i < length chosen
          first (yes e) = absurd (miss (rw e at (ended (omega (arith, g)))) c)
          first (no e) =
              let t = C.prior c.asked (length chosen) (omega arith) in
              absurd (miss (ended (omega (arith, g))) t.2)

  pub chosen_is : {i b : ℕ} {v : X} → Chosen n S i b v → get_or chosen i z ≡ v
  chosen_is {i} c = chosen_agree X n S C i _ _ _ _ (seq_chosen i (chosen_in c)).1 c

  -- the values chosen in the instances from 0 on are the front of the sequence
  pub chosen_front : (l : List X) → ((j : ℕ) → j < length l → (b : ℕ) × Chosen n S j b (get_or l j z))
      → (length l ≤ length chosen) × (l ≡ take (length l) chosen)
  chosen_front l f =
      let h = all_below (length l) (length chosen) (λ j g. chosen_in (f j g).1) in
      (h, prefix z l chosen h (λ j g. sym (chosen_is (f j g).1)))
