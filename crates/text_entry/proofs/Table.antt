-- Lines of several kinds: what is written reads back, what reads was written, and what the answers
-- say of that.
use Prim.Native.Nat.{ℕ, suc, ◌+◌}
use native.Mathlib.Omega.{arith}
use native.Mathlib.Nat.{zero-add}
use mathlib.Core.Bool.{Bool, true, false, ◌&&◌, cond}
use mathlib.Core.List.{List, [], ◌∷◌}
use mathlib.Core.Option.{Option, none, some}
use mathlib.Core.Path.{◌≡◌, refl, sym, ◌∙◌, ap, subst}
use lib.ListN.{length, drop, drop_of_length-le}
use lib.Seq.{drop-cons}
use Rattle.text_ascii.proofs.Words.{both_l, both_r, clash}
use Rattle.text_entry.specs.Fields.{Kind, name_text}
use Rattle.text_entry.specs.Read.{read_kind}
use Rattle.text_entry.specs.Table.{Reader, answer_of, at, made, or_else, read_first}
use Rattle.text_entry.proofs.LineTexts.{LineIs, line_length}
use Rattle.text_entry.proofs.ReadsText.{line_text_lem}
use Rattle.text_entry.proofs.TextReads.{SoundAll, kind_reads, other_kind_unread}

pub some_is : {A : Type 0} (a b : A) → some a ≡ some b → a ≡ b
some_is a b h = cc

pub some_not : {A : Type 0} (a : A) → ◌≡◌ {A = Option A} none (some a) → ⊥
some_not a e = let z : ◌≡◌ {A = ℕ} 0 1 = cc in omega arith

-- ---- what is written reads back

-- the reader with this index
abbrev pub At : {A : Type 0} → List (Reader A) → ℕ → Reader A → Type 0
At [] i r = ⊥
At (x ∷ rs) ℕ.zero r = x ≡ r
At (x ∷ rs) (suc i) r = At rs i r

-- the names before it differ from its name
unfoldable pub names_apart : {A : Type 0} → List (Reader A) → ℕ → Kind → Bool
names_apart [] i k = true
names_apart (x ∷ rs) ℕ.zero k = true
names_apart (x ∷ rs) (suc i) k = clash (name_text k) (name_text x.kind) && names_apart rs i k

pub first_reads : {A : Type 0} (rs : List (Reader A)) (i : ℕ) (r : Reader A) (vs s : List ℕ) → At rs i r → names_apart rs i r.kind ≡ true
    → SoundAll r.kind.fields → LineIs r.kind vs s → read_first rs s ≡ some (r.build vs)
unfolding read_first names_apart
first_reads [] i r vs s h n o l = absurd h
first_reads (x ∷ rs) ℕ.zero r vs s h n o l =
    let later = read_first rs s in
    ap (λ (y : Reader _). or_else (made y.build (read_kind y.kind s)) later) h
    ∙ ap (λ (u : Option (List ℕ)). or_else (made r.build u) later) (kind_reads r.kind vs s o l)
first_reads (x ∷ rs) (suc i) r vs s h n o l =
    let c = clash (name_text r.kind) (name_text x.kind) in
    ap (λ (u : Option (List ℕ)). or_else (made x.build u) (read_first rs s)) (other_kind_unread x.kind r.kind vs s (both_l c _ n) l)
    ∙ first_reads rs i r vs s h (both_r c _ n) o l

-- ---- what reads was written

-- a property of what each kind's line stands for
abbrev pub Each : {A : Type 0} → (A → Type 0) → List (Reader A) → List ℕ → Type 0
Each P [] s = Unit {0}
Each P (r ∷ rs) s = ((vs : List ℕ) → LineIs r.kind vs s → P (r.build vs)) × Each P rs s

pub first_written : {A : Type 0} (P : A → Type 0) (rs : List (Reader A)) (s : List ℕ) → Each P rs s → (a : A) → read_first rs s ≡ some a → P a
unfolding read_first
first_written P [] s each a h = absurd (some_not a h)
first_written P (r ∷ rs) s each a h = go (read_kind r.kind s) refl h (first_written P rs s each.1 a)
  where
    go : (o : Option (List ℕ)) → read_kind r.kind s ≡ o → or_else (made r.build o) (read_first rs s) ≡ some a → (read_first rs s ≡ some a → P a) → P a
    go none k h later = later h
    go (some vs) k h later = subst P (some_is (r.build vs) a h) (each.0 vs (line_text_lem r.kind s vs k))

-- a list by its elements
abbrev pub elements : ℕ → ℕ → List ℕ → List ℕ
elements ℕ.zero i vs = []
elements (suc n) i vs = at vs i ∷ elements n (suc i) vs

pub by_elements : (n i : ℕ) (vs : List ℕ) → length vs ≡ i + n → drop i vs ≡ elements n i vs
by_elements ℕ.zero i vs h = drop_of_length-le vs {i = i} (omega arith)
by_elements (suc n) i vs h = drop-cons vs i 0 (omega arith) ∙ ap (λ (us : List ℕ). at vs i ∷ us) (by_elements n (suc i) vs (omega arith))

-- the values of a line, one by one
pub by_fields : (k : Kind) (vs s : List ℕ) → LineIs k vs s → vs ≡ elements (length k.fields) 0 vs
by_fields k vs s h = by_elements (length k.fields) 0 vs (line_length k vs s h ∙ sym (zero-add (length k.fields)))

-- ---- the answers

-- answers that differ
pub record Distinct {A R : Type 0} (read : A → R) (outside unreadable : R) : Type 0 where
  pub read_same : (a b : A) → read a ≡ read b → a ≡ b
  pub read_outside : (a : A) → read a ≡ outside → ⊥
  pub read_unreadable : (a : A) → read a ≡ unreadable → ⊥
  pub outside_unreadable : outside ≡ unreadable → ⊥

module _ {A R : Type 0} (read : A → R) (outside unreadable : R) (beyond : A → Bool) (d : Distinct read outside unreadable) where
  abbrev answer : Option A → R
  answer = answer_of beyond read outside unreadable

  pub some_answered : (a : A) → answer (some a) ≡ unreadable → ⊥
  some_answered a h = go (beyond a) h
    where
      go : (b : Bool) → cond b outside (read a) ≡ unreadable → ⊥
      go true k = d.outside_unreadable k
      go false k = d.read_unreadable a k

  pub unreadable_none : (o : Option A) → answer o ≡ unreadable → o ≡ none
  unreadable_none none h = refl
  unreadable_none (some a) h = absurd (some_answered a h)

  pub read_some : (o : Option A) (a : A) → answer o ≡ read a → o ≡ some a
  read_some none a h = absurd (d.read_unreadable a (sym h))
  read_some (some x) a h = go (beyond x) h
    where
      go : (b : Bool) → cond b outside (read x) ≡ read a → some x ≡ some a
      go true k = absurd (d.read_outside a (sym k))
      go false k = ap some (d.read_same x a k)

  pub outside_some : (o : Option A) → answer o ≡ outside → (a : A) × (o ≡ some a) × (beyond a ≡ true)
  outside_some none h = absurd (d.outside_unreadable (sym h))
  outside_some (some x) h = (x, refl, go (beyond x) h)
    where
      go : (b : Bool) → cond b outside (read x) ≡ outside → b ≡ true
      go true k = refl
      go false k = absurd (d.read_outside x k)

  -- the first kind that reads decides
  pub first_decides : (t v : Option A) (r : R) → answer t ≡ r → (r ≡ unreadable → ⊥) → r ≡ answer (or_else t v)
  first_decides none v r e h = absurd (h (sym e))
  first_decides (some x) v r e h = sym e

  pub next_decides : (t v : Option A) → answer t ≡ unreadable → answer v ≡ answer (or_else t v)
  next_decides none v h = refl
  next_decides (some x) v h = absurd (some_answered x h)

-- the last kind decides alone
pub last_is : {A R : Type 0} (read : A → R) (outside unreadable : R) (beyond : A → Bool) (r : Reader A) (s : List ℕ)
    → answer_of beyond read outside unreadable (read_first (r ∷ []) s) ≡ answer_of beyond read outside unreadable (made r.build (read_kind r.kind s))
unfolding read_first
last_is read outside unreadable beyond r s = go (read_kind r.kind s)
  where
    go : (o : Option (List ℕ)) → answer_of beyond read outside unreadable (or_else (made r.build o) none) ≡ answer_of beyond read outside unreadable (made r.build o)
    go none = refl
    go (some vs) = refl
