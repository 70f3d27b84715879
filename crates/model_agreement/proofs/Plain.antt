-- The plain log fed batches, and the store that a process holds by it.
use Prim.Native.Nat.{ℕ, suc, ◌+◌, ◌<◌}
use mathlib.Core.Path.{◌≡◌, refl, sym, ap, ◌∙◌}
use mathlib.Core.Bool.{Bool, true, false, cond}
use mathlib.Core.List.{List, [], ◌∷◌, ◌++◌}
use native.Mathlib.Omega.{arith}
use lib.Dec.{T, eqb, eqb→eq}
use lib.ListN.{drop, get_or, length, take, take-append-drop}
use Rattle.log_entry.specs.declared.Entry.{Entry}
use Rattle.log_core.specs.declared.Log.{Log}
use Rattle.log_core.specs.Enter.{enter, feed}
use Rattle.log_core.specs.Log.{empty_log, holder_of}
use Rattle.log_laws.specs.Reached.{reached}
use Rattle.model_protocol.specs.Batch.{Batch, entries_of}
use Rattle.model_protocol.specs.Step.{held_from, held_store}
use Rattle.model_agreement.specs.Plain.{all_entries, plain_log}

pub feed_append : (l : Log) (es fs : List Entry) → feed l (es ++ fs) ≡ feed (feed l es) fs
unfolding feed
feed_append l [] fs = refl
feed_append l (e ∷ es) fs = feed_append (enter l e).log es fs

append_nil : {A : Type 0} (l : List A) → l ++ [] ≡ l
append_nil [] = refl
append_nil (x ∷ l) = ap (λ r. x ∷ r) (append_nil l)

append_assoc : {A : Type 0} (r s t : List A) → (r ++ s) ++ t ≡ r ++ (s ++ t)
append_assoc [] s t = refl
append_assoc (x ∷ r) s t = ap (λ l. x ∷ l) (append_assoc r s t)

all_append : (bs cs : List Batch) → all_entries (bs ++ cs) ≡ all_entries bs ++ all_entries cs
all_append [] cs = refl
all_append (b ∷ bs) cs = ap (λ l. entries_of b ++ l) (all_append bs cs) ∙ sym (append_assoc (entries_of b) (all_entries bs) (all_entries cs))

plain_append : (bs cs : List Batch) → plain_log (bs ++ cs) ≡ feed (plain_log bs) (all_entries cs)
unfolding plain_log
plain_append bs cs = ap (λ es. feed empty_log es) (all_append bs cs) ∙ feed_append empty_log (all_entries bs) (all_entries cs)

-- one batch more
pub plain_more : (bs : List Batch) (v : Batch) → plain_log (bs ++ (v ∷ [])) ≡ feed (plain_log bs) (entries_of v)
plain_more bs v = plain_append bs (v ∷ []) ∙ ap (λ es. feed (plain_log bs) es) (append_nil (entries_of v))

-- the first j batches, and the rest
pub plain_split : (j : ℕ) (s : List Batch) → plain_log s ≡ feed (plain_log (take j s)) (all_entries (drop j s))
plain_split j s = ap (λ l. plain_log l) (sym (take-append-drop j s)) ∙ plain_append (take j s) (drop j s)

-- the same as a log that is reached by the entries of the first j batches and then by those of the
-- rest
pub plain_reached : (j : ℕ) (s : List Batch) → plain_log s ≡ reached (all_entries (take j s) ++ all_entries (drop j s))
unfolding plain_log
plain_reached j s = plain_split j s ∙ sym (feed_append empty_log (all_entries (take j s)) (all_entries (drop j s)))

-- ---- the store that a process holds

held_at : (p s : ℕ) (hs : List ℕ) → held_from p s hs < s + length hs → (j : ℕ) × (held_from p s hs ≡ s + j) × (get_or hs j 0 ≡ p)
unfolding held_from
held_at p s [] l = absurd (omega arith)
held_at p s (h ∷ hs) l = go (eqb h p) (eqb→eq h p) (held_at p (suc s) hs) l
  where
    go : (b : Bool)
        → (T b → h ≡ p)
        → (held_from p (suc s) hs < suc s + length hs → (j : ℕ) × (held_from p (suc s) hs ≡ suc s + j) × (get_or hs j 0 ≡ p))
        → cond b s (held_from p (suc s) hs) < s + suc (length hs)
        → (j : ℕ) × (cond b s (held_from p (suc s) hs) ≡ s + j) × (get_or (h ∷ hs) j 0 ≡ p)
    go true f r l = (0, omega arith, f tt)
    go false f r l = let q = r (omega arith) in (suc q.0, omega (arith, q.1), q.2)

pub held_holder : (l : Log) (p : ℕ) → held_store l p < length l.holders → holder_of l (held_store l p) ≡ p
held_holder l p h =
    let q = held_at p 0 l.holders (omega arith) in
    let e : held_store l p ≡ q.0 = omega (arith, q.1) in
    rw e q.2
