-- Whether an equal entry is in a row: as std's test of a list, and what the last of the first entries
-- of a row decides.
use Prim.Native.Nat.{ℕ, suc, ◌<◌}
use mathlib.Core.Bool.{Bool, false, true, ◌||◌}
use mathlib.Core.List.{List, [], ◌∷◌, ◌++◌}
use mathlib.Core.Path.{◌≡◌, refl, ◌∙◌, ap}
use lib.ListN.{get_or, length, take}
use lib.Seq.{take-suc}
use Rattle.std.specs.List.{list_any}
use Rattle.log_entry.specs.declared.Entry.{Entry}
use Rattle.log_entry.specs.Entry.{same_entry}
use Rattle.model_protocol.specs.Batch.{no_entry}
use Rattle.model_protocol.specs.Queue.{is_in}

pub is_in_any : (e : Entry) (es : List Entry) → is_in e es ≡ list_any (same_entry e) es
unfolding is_in
is_in_any e [] = refl
is_in_any e (f ∷ fs) = ap (λ b. same_entry e f || b) (is_in_any e fs)

or_true : (b : Bool) → (b || true) ≡ true
or_true true = refl
or_true false = refl

module _ (e f : Entry) where
  last_equal : same_entry e f ≡ true → (es : List Entry) → is_in e (es ++ (f ∷ [])) ≡ true
  unfolding is_in
  last_equal k [] = rw k
  last_equal k (x ∷ es) = ap (λ (b : Bool). same_entry e x || b) (last_equal k es) ∙ or_true (same_entry e x)

  last_differs : same_entry e f ≡ false → (es : List Entry) → is_in e (es ++ (f ∷ [])) ≡ is_in e es
  unfolding is_in
  last_differs k [] = rw k
  last_differs k (x ∷ es) = ap (λ (b : Bool). same_entry e x || b) (last_differs k es)

module _ (e : Entry) (es : List Entry) (i : ℕ) (h : i < length es) where
  pub hit : same_entry e (get_or es i no_entry) ≡ true → is_in e (take (suc i) es) ≡ true
  hit k = ap (is_in e) (take-suc es i no_entry h) ∙ last_equal e (get_or es i no_entry) k (take i es)

  pub miss : same_entry e (get_or es i no_entry) ≡ false → is_in e (take (suc i) es) ≡ is_in e (take i es)
  miss k = ap (is_in e) (take-suc es i no_entry h) ∙ last_differs e (get_or es i no_entry) k (take i es)

pub none : (e : Entry) (es : List Entry) → is_in e (take 0 es) ≡ false
unfolding is_in
none e es = refl
