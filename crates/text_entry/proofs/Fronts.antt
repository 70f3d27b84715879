-- The values at the front of a line, read one after the other, tell what the line reads as.
use Prim.Native.Nat.{ℕ, suc}
use native.Mathlib.Nat.{zero-add}
use mathlib.Core.Bool.{Bool, true, false, cond}
use mathlib.Core.List.{List, [], ◌∷◌, ◌++◌}
use mathlib.Core.Option as maybe
use mathlib.Core.Option.{none, some}
use mathlib.Core.Path.{◌≡◌, refl, sym, ◌∙◌, ap, subst}
use lib.ListN.{length}
use Rattle.std.proofs.Common.{Option, None, Some}
use Rattle.text_ascii.proofs.Words.{begins_splits, clash, clash_begins}
use Rattle.text_ascii.specs.Bytes.{begins}
use Rattle.text_entry.specs.Fields.{Field, Form, Kind, Presence, absent, always, name_text, optional}
use Rattle.text_entry.specs.Parts.{counted, counted_part, front, kind_front, then_front, whole}
use Rattle.text_entry.specs.Read.{Part, after, is_end, part, read_field, read_fields, read_in, read_kind, unreadable, with}
use Rattle.text_entry.proofs.Digits.{nothing}
use Rattle.text_entry.proofs.Table.{by_elements, elements}
use Rattle.text_entry.proofs.TextReads.{stopped, stopped_in}

-- what is read after a part depends on what stands after it, and not on its value
field_behind : (pr : Presence) (key : List ℕ) (form : Form) (p : Part) (v : ℕ) → read_in pr key form (record { readable = p.readable; value = v; rest = p.rest }) ≡ read_in pr key form p
unfolding after
field_behind always key form p v = refl
field_behind (optional n) key form p v = refl
field_behind (absent n) key form p v = refl

front_behind : (fs : List Field) (p : Part) (v : ℕ) → front fs (record { readable = p.readable; value = v; rest = p.rest }) ≡ front fs p
unfolding front
front_behind [] p v = refl
front_behind (f ∷ fs) p v = ap (λ (q : Part). then_front (counted f.form q.value) (front fs q)) (field_behind f.presence f.key f.form p v)

-- nothing stands behind what does not read
front_stopped : (fs : List Field) (p : Part) → p.readable ≡ false → front fs p ≡ None
unfolding front
front_stopped [] p h = rw h
front_stopped (f ∷ fs) p h = ap (then_front (counted f.form (read_field f p).value)) (front_stopped fs (read_field f p) (stopped_in f.presence f.key f.form p h))

-- one field more, and what stands behind it
module _ (f : Field) (fs : List Field) (s : List ℕ) where
  pub step : (t : List ℕ) (n : ℕ) {r : Option (List ℕ × List ℕ)} → part n t ≡ counted_part f.form (read_field f (part 0 s)) → front fs (part 0 t) ≡ r
      → front (f ∷ fs) (part 0 s) ≡ then_front n r
  unfolding front
  step t n h k =
      let q = read_field f (part 0 s) in
      ap (then_front (counted f.form q.value)) (sym (front_behind fs q 0))
      ∙ ap (λ (p : Part). then_front p.value (front fs (record { readable = p.readable; value = 0; rest = p.rest }))) (sym h)
      ∙ ap (then_front n) k

  pub stop : unreadable ≡ counted_part f.form (read_field f (part 0 s)) → front (f ∷ fs) (part 0 s) ≡ None
  unfolding front
  stop h =
      let q = read_field f (part 0 s) in
      ap (then_front (counted f.form q.value)) (front_stopped fs q (ap (λ (p : Part). p.readable) (sym h)))

pub done : (s : List ℕ) → front [] (part 0 s) ≡ Some ([], s)
unfolding front
done s = refl

-- the same of the step's name
pub begun : (k : Kind) (s t : List ℕ) {r : Option (List ℕ × List ℕ)} → part 0 t ≡ after (name_text k) (part 0 s) → front k.fields (part 0 t) ≡ r → kind_front k s ≡ r
begun k s t h e = ap (front k.fields) (sym h) ∙ e

pub unbegun : (k : Kind) (s : List ℕ) → unreadable ≡ after (name_text k) (part 0 s) → kind_front k s ≡ None
unbegun k s h = front_stopped k.fields (after (name_text k) (part 0 s)) (ap (λ (q : Part). q.readable) (sym h))

-- ---- what the line reads as

-- the values as the reader counts them
abbrev pub counts : List Field → List ℕ → List ℕ
counts [] vs = vs
counts (f ∷ fs) [] = []
counts (f ∷ fs) (v ∷ vs) = counted f.form v ∷ counts fs vs

abbrev ended : Option (List ℕ × List ℕ) → List ℕ → maybe.Option (List ℕ)
ended None vs = none
ended (Some x) vs = cond (is_end x.1) (some vs) none

-- values that are counted so
abbrev Counted : List Field → List ℕ → Option (List ℕ × List ℕ) → Type 0
Counted fs vs None = Unit {0}
Counted fs vs (Some x) = counts fs vs ≡ x.0

record Told (fs : List Field) (p : Part) : Type 0 where
  found : List ℕ
  read : read_fields fs p ≡ ended (front fs p) found
  told : Counted fs found (front fs p)

tells : (fs : List Field) (p : Part) → Told fs p
unfolding read_fields front
tells [] p = go p.readable refl
  where
    go : (b : Bool) → p.readable ≡ b → Told [] p
    go true h = record { found = []; read = rw h; told = rw h refl }
    go false h = record { found = []; read = rw h; told = rw h tt }
tells (f ∷ fs) p =
    let r = read_field f p in
    let t = tells fs r in
    record {
      found = r.value ∷ t.found;
      read = ap (with r.value) t.read ∙ reads (front fs r) r.value t.found;
      told = counting r.value t.found (front fs r) t.told;
    }
  where
    reads : (o : Option (List ℕ × List ℕ)) (v : ℕ) (vs : List ℕ) → with v (ended o vs) ≡ ended (then_front (counted f.form v) o) (v ∷ vs)
    reads None v vs = refl
    reads (Some x) v vs = ends (is_end x.1)
      where
        ends : (b : Bool) → with v (cond b (some vs) none) ≡ cond b (some (v ∷ vs)) none
        ends true = refl
        ends false = refl

    counting : (v : ℕ) (vs : List ℕ) (o : Option (List ℕ × List ℕ)) → Counted fs vs o → Counted (f ∷ fs) (v ∷ vs) (then_front (counted f.form v) o)
    counting v vs None h = tt
    counting v vs (Some x) h = ap (λ (us : List ℕ). counted f.form v ∷ us) h

-- the answer to the values of a whole line
abbrev pub answer_to : {R : Type 0} → (maybe.Option (List ℕ) → R) → Option (List ℕ) → R
answer_to answer None = answer none
answer_to answer (Some vs) = answer (some vs)

-- a kind of line, the answer to its values, and that only the counts matter
module _ {R : Type 0} (k : Kind) (answer : maybe.Option (List ℕ) → R) (same : (vs : List ℕ) → answer (some vs) ≡ answer (some (counts k.fields vs))) where
  -- the answer by what stands in front
  abbrev pub answered : Option (List ℕ × List ℕ) → R
  answered None = answer none
  answered (Some x) = cond (is_end x.1) (answer (some x.0)) (answer none)

  pub line_answer : (s : List ℕ) → answered (kind_front k s) ≡ answer (read_kind k s)
  unfolding read_kind
  line_answer s =
      let p = after (name_text k) (part 0 s) in
      let t = tells k.fields p in
      go (front k.fields p) t.found t.told ∙ ap answer (sym t.read)
    where
      go : (o : Option (List ℕ × List ℕ)) (vs : List ℕ) → Counted k.fields vs o → answered o ≡ answer (ended o vs)
      go None vs h = refl
      go (Some x) vs h = ends (is_end x.1)
        where
          ends : (b : Bool) → cond b (answer (some x.0)) (answer none) ≡ answer (cond b (some vs) none)
          ends true = ap (λ (us : List ℕ). answer (some us)) (sym h) ∙ sym (same vs)
          ends false = refl

  pub line_whole : (s : List ℕ) → answer_to answer (whole (kind_front k s)) ≡ answer (read_kind k s)
  line_whole s = go (kind_front k s) ∙ line_answer s
    where
      go : (o : Option (List ℕ × List ℕ)) → answer_to answer (whole o) ≡ answered o
      go None = refl
      go (Some x) = ends (is_end x.1)
        where
          ends : (b : Bool) → answer_to answer (cond b (Some x.0) None) ≡ cond b (answer (some x.0)) (answer none)
          ends true = refl
          ends false = refl

-- ---- one field more

abbrev pub and_field : Field → Option (List ℕ × List ℕ) → Option (List ℕ × List ℕ)
and_field f None = None
and_field f (Some x) =
    cond (read_field f (part 0 x.1)).readable (Some (x.0 ++ counted f.form (read_field f (part 0 x.1)).value ∷ [], (read_field f (part 0 x.1)).rest)) None

pub front_and : (fs : List Field) (f : Field) (p : Part) → front (fs ++ f ∷ []) p ≡ and_field f (front fs p)
unfolding front
front_and [] f p = go p.readable refl
  where
    go : (b : Bool) → p.readable ≡ b → front (f ∷ []) p ≡ and_field f (cond p.readable (Some ([], p.rest)) None)
    go true h =
        let e : p ≡ part p.value p.rest = λ i. record { readable = h i; value = p.value; rest = p.rest } in
        ap (λ (q : Part). front (f ∷ []) q) e
        ∙ ap (λ (q : Part). then_front (counted f.form q.value) (front [] q)) (sym (field_behind f.presence f.key f.form (part p.value p.rest) 0))
        ∙ one (read_field f (part 0 p.rest))
        ∙ ap (λ (b : Bool). and_field f (cond b (Some ([], p.rest)) None)) (sym h)
      where
        one : (q : Part) → then_front (counted f.form q.value) (cond q.readable (Some ([], q.rest)) None) ≡ cond q.readable (Some (counted f.form q.value ∷ [], q.rest)) None
        one q = elim q.readable as (λ b. then_front (counted f.form q.value) (cond b (Some ([], q.rest)) None) ≡ cond b (Some (counted f.form q.value ∷ [], q.rest)) None) [ true ↦ refl | false ↦ refl ]
    go false h = front_stopped (f ∷ []) p h ∙ ap (λ (b : Bool). and_field f (cond b (Some ([], p.rest)) None)) (sym h)
front_and (g ∷ fs) f p = ap (then_front (counted g.form (read_field g p).value)) (front_and fs f (read_field g p)) ∙ later (front fs (read_field g p))
  where
    later : (o : Option (List ℕ × List ℕ)) → then_front (counted g.form (read_field g p).value) (and_field f o) ≡ and_field f (then_front (counted g.form (read_field g p).value) o)
    later None = refl
    later (Some x) =
        elim (read_field f (part 0 x.1)).readable as (λ b. then_front (counted g.form (read_field g p).value) (cond b (Some (x.0 ++ counted f.form (read_field f (part 0 x.1)).value ∷ [], (read_field f (part 0 x.1)).rest)) None)
        ≡ cond b (Some (counted g.form (read_field g p).value ∷ x.0 ++ counted f.form (read_field f (part 0 x.1)).value ∷ [], (read_field f (part 0 x.1)).rest)) None) [ true ↦ refl | false ↦ refl ]

-- as many values as fields
abbrev SoMany : ℕ → Option (List ℕ × List ℕ) → Type 0
SoMany n None = Unit {0}
SoMany n (Some x) = length x.0 ≡ n

pub front_length : (fs : List Field) (p : Part) → SoMany (length fs) (front fs p)
unfolding front
front_length [] p = elim p.readable as (λ b. SoMany 0 (cond b (Some ([], p.rest)) None)) [ true ↦ refl | false ↦ tt ]
front_length (f ∷ fs) p = go (front fs (read_field f p)) (front_length fs (read_field f p))
  where
    go : (o : Option (List ℕ × List ℕ)) → SoMany (length fs) o → SoMany (suc (length fs)) (then_front (counted f.form (read_field f p).value) o)
    go None h = tt
    go (Some x) h = ap suc h

-- the values, one by one
pub front_elements : (fs : List Field) (p : Part) (x : List ℕ × List ℕ) → front fs p ≡ Some x → x.0 ≡ elements (length fs) 0 x.0
front_elements fs p x h = by_elements (length fs) 0 x.0 (subst (SoMany (length fs)) h (front_length fs p) ∙ sym (zero-add (length fs)))

-- ---- a line of one kind is none of another

module _ (k other : Kind) (apart : clash (name_text k) (name_text other) ≡ true) (s : List ℕ) where
  other_unread : begins s (name_text k) ≡ true → after (name_text other) (part 0 s) ≡ unreadable
  unfolding after
  other_unread h =
      rw (ap (λ (r : List ℕ). begins r (name_text other)) (begins_splits s (name_text k) h) ∙ clash_begins (name_text k) (name_text other) _ apart)

  pub front_of_one : (x : List ℕ × List ℕ) → kind_front k s ≡ Some x → read_kind other s ≡ none
  unfolding read_kind after
  front_of_one x h = go (begins s (name_text k)) refl
    where
      go : (b : Bool) → begins s (name_text k) ≡ b → read_kind other s ≡ none
      go true e = ap (read_fields other.fields) (other_unread e) ∙ stopped other.fields unreadable refl
      go false e = absurd (nothing x (sym (front_stopped k.fields (after (name_text k) (part 0 s)) (rw e)) ∙ h))
