-- Queues and batches as lists of entries.
use Prim.Native.Nat.{ℕ, zero, suc, ◌+◌, ◌≤◌}
use mathlib.Core.Path.{◌≡◌, ap, subst, ◌∙◌}
use mathlib.Core.Logic.{◌⊎◌, inl, inr}
use mathlib.Core.Bool.{Bool, true, false, cond}
use mathlib.Core.List.Memᴰ
use mathlib.Core.List.{List, [], ◌∷◌, Memᴰ}
use native.Mathlib.Omega.{arith}
use lib.ListN.{drop, length, length-replicate, replicate, set, take}
use lib.Seq.{sets, sets-eq, take-append_seam}
use Rattle.log_entry.specs.declared.Entry.{Entry}
use Rattle.model_protocol.specs.Queue.{Queue, is_in, joined, queued, without}

-- ---- membership

module _ {A : Type 0} where
  pub in_take : {e : A} (j : ℕ) (l : List A) → Memᴰ e (take j l) → Memᴰ e l
  in_take zero l s = absurd (Memᴰ.not-nil s)
  in_take (suc j) [] s = absurd (Memᴰ.not-nil s)
  in_take {e} (suc j) (x ∷ l) s = go (in_take j l) (Memᴰ.cases_cons s)
    where
      go : (Memᴰ e (take j l) → Memᴰ e l) → (e ≡ x) ⊎ Memᴰ e (take j l) → Memᴰ e (x ∷ l)
      go f (inl p) = Memᴰ.head p
      go f (inr s) = Memᴰ.tail (f s)

  -- one more is stored after the first n
  pub in_stored : {e : A} (n : ℕ) (l : List A) (x : A) → Memᴰ e (take (suc n) (set l n x)) → Memᴰ e (take n l) ⊎ (e ≡ x)
  in_stored zero [] x s = absurd (Memᴰ.not-nil s)
  in_stored zero (y ∷ l) x s = go (Memᴰ.cases_cons s)
    where
      go : {e : A} → (e ≡ x) ⊎ Memᴰ e [] → Memᴰ e [] ⊎ (e ≡ x)
      go (inl p) = inr p
      go (inr t) = inl t
  in_stored (suc n) [] x s = absurd (Memᴰ.not-nil s)
  in_stored {e} (suc n) (y ∷ l) x s = go (in_stored n l x) (Memᴰ.cases_cons s)
    where
      two : Memᴰ e (take n l) ⊎ (e ≡ x) → Memᴰ e (y ∷ take n l) ⊎ (e ≡ x)
      two (inl t) = inl (Memᴰ.tail t)
      two (inr p) = inr p

      go : (Memᴰ e (take (suc n) (set l n x)) → Memᴰ e (take n l) ⊎ (e ≡ x))
          → (e ≡ y) ⊎ Memᴰ e (take (suc n) (set l n x))
          → Memᴰ e (y ∷ take n l) ⊎ (e ≡ x)
      go f (inl p) = inl (Memᴰ.head p)
      go f (inr t) = two (f t)

  -- the front of a row that starts with these elements
  pub front_of : (n : ℕ) (d : A) (es : List A) → length es ≤ n → take (length es) (sets (replicate n d) 0 es) ≡ es
  front_of n d es h =
      ap (λ l. take (length es) l) (sets-eq es (replicate n d) 0 (rw (length-replicate n d) (omega arith)))
      ∙ take-append_seam es (drop (0 + length es) (replicate n d))

-- ---- the queue

pub in_joined : {e : Entry} (q : Queue) (x : Entry) → Memᴰ e (queued (joined q x)) → Memᴰ e (queued q) ⊎ (e ≡ x)
in_joined {e} q x s = in_stored q.count q.entries x (subst (λ n. Memᴰ e (take n (set q.entries q.count x))) one s)
  where
    one : q.count + 1 ≡ suc q.count
    one = omega arith

pub without_shorter : (es fs : List Entry) → length (without es fs) ≤ length es
unfolding without
without_shorter [] fs = omega arith
without_shorter (e ∷ es) fs = go (is_in e fs) (without_shorter es fs)
  where
    go : (t : Bool) → length (without es fs) ≤ length es → length (cond t (without es fs) (e ∷ without es fs)) ≤ suc (length es)
    go true h = omega arith
    go false h = omega arith

pub in_without : {e : Entry} (es fs : List Entry) → Memᴰ e (without es fs) → Memᴰ e es
unfolding without
in_without [] fs s = absurd (Memᴰ.not-nil s)
in_without {e} (x ∷ es) fs s = go (is_in x fs) (in_without es fs) s
  where
    go : (t : Bool) → (Memᴰ e (without es fs) → Memᴰ e es)
        → Memᴰ e (cond t (without es fs) (x ∷ without es fs)) → Memᴰ e (x ∷ es)
    go true f s = Memᴰ.tail (f s)
    go false f s = two (Memᴰ.cases_cons s)
      where
        two : (e ≡ x) ⊎ Memᴰ e (without es fs) → Memᴰ e (x ∷ es)
        two (inl p) = Memᴰ.head p
        two (inr s) = Memᴰ.tail (f s)
