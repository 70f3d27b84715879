-- What a process keeps of the follows that it took: those of the list, and no others.
use Prim.Native.Nat.{ℕ, ◌<◌}
use mathlib.Core.Path.{◌≡◌, refl, sym, ap, subst, ◌∙◌}
use mathlib.Core.Bool.{Bool, true, false}
use mathlib.Core.List.Memᴰ
use mathlib.Core.List.{List, [], ◌∷◌, Memᴰ}
use mathlib.Core.Logic.{◌↔◌, ◌⊎◌, inl, inr, ◌≢◌, ⊎_elim}
use native.Mathlib.Decide.{ℕ_discrete}
use borrow.Author.Tests.{eq-eqb, eqb-true}
use lib.Dec.{eqb}
use lib.ListN.{get_or, length, set}
use lib.Seq.{get_or-set_other, get_or-set_same}
use Rattle.log_entry.specs.Bits.{has}
use Rattle.log_entry.proofs.Tests.{opposed, or_cases, or_left, or_right}
use Rattle.log_laws.proofs.Sets.{empty_has, in_with, with_has, with_keeps}
use Rattle.model_protocol.specs.declared.Followed.{Followed}
use Rattle.model_protocol.specs.declared.Follows.{Follows}
use Rattle.model_protocol.specs.declared.Process.{Process}
use Rattle.model_protocol.specs.Process.{following, taking}
use Rattle.model_protocol.specs.World.{no_followed}
use Rattle.model_agreement.specs.Claim.{KeepsFollow}
use Rattle.model_agreement.specs.History.{Follow, is_followed}

-- the process x with the follows fs keeps those of the list, and no others
abbrev pub KeepsAll : Process → Follows → List Follow → Type 0
KeepsAll x fs l = (f : Follow) → KeepsFollow x fs f ↔ Memᴰ f l

-- ---- the list

in_followed : (f : Follow) (l : List Follow) → Memᴰ f l → is_followed f.tx l ≡ true
in_followed f [] t = absurd (Memᴰ.not-nil t)
in_followed f (g ∷ l) t =
    ⊎_elim
    (λ (e : f ≡ g). or_left (eqb f.tx g.tx) _ (eq-eqb f.tx g.tx (ap (λ (x : Follow). x.tx) e)))
    (λ u. or_right (eqb f.tx g.tx) _ (in_followed f l u))
    (Memᴰ.cases_cons t)

pub followed_in : (tx : ℕ) (l : List Follow) → is_followed tx l ≡ true → (f : Follow) × (f.tx ≡ tx) × Memᴰ f l
followed_in tx [] e = absurd (opposed e refl)
followed_in tx (g ∷ l) e = go (followed_in tx l) (or_cases (eqb tx g.tx) (is_followed tx l) e)
  where
    go : (is_followed tx l ≡ true → (f : Follow) × (f.tx ≡ tx) × Memᴰ f l) → (eqb tx g.tx ≡ true) ⊎ (is_followed tx l ≡ true)
        → (f : Follow) × (f.tx ≡ tx) × Memᴰ f (g ∷ l)
    go r (inl d) = (g, sym (eqb-true tx g.tx d), Memᴰ.head refl)
    go r (inr d) = let t = r d in (t.0, t.1, Memᴰ.tail t.2)

-- ---- what is kept

-- the set of the process is that of the list
pub followed_is : (x : Process) (fs : Follows) (l : List Follow) → KeepsAll x fs l → (tx : ℕ) → has x.followed tx ≡ is_followed tx l
followed_is x fs l k tx = go (has x.followed tx) (is_followed tx l) refl refl
  where
    go : (a b : Bool) → has x.followed tx ≡ a → is_followed tx l ≡ b → a ≡ b
    go true true d e = refl
    go true false d e =
        let y = get_or fs.of tx no_followed in
        let f : Follow = record { tx = tx; outcome = y.outcome; update = y.update } in
        absurd (opposed (in_followed f l ((k f).0 (d, refl))) e)
    go false true d e =
        let t = followed_in tx l e in
        absurd (opposed (subst (λ (i : ℕ). has x.followed i ≡ true) t.1 ((k t.0).1 t.2).0) d)
    go false false d e = refl

-- after a restore it keeps none
pub keeps_none : (x : Process) (store position running : ℕ) (fs : Follows) → KeepsAll (taking x store position running) fs []
keeps_none x store position running fs f = (λ h. absurd (opposed h.0 (empty_has f.tx)), λ t. absurd (Memᴰ.not-nil t))

-- with a follow of another transaction it keeps one more
pub keeps_one : (x : Process) (fs : Follows) (l : List Follow) (f : Follow) → f.tx < length fs.of → has x.followed f.tx ≡ false
    → KeepsAll x fs l
    → KeepsAll (following x f.tx) (record { of = set fs.of f.tx (record { outcome = f.outcome; update = f.update }) }) (f ∷ l)
keeps_one x fs l f room free k g = (λ h. mine h (ℕ_discrete g.tx f.tx), λ t. ⊎_elim new old (Memᴰ.cases_cons t))
  where
    value : Followed
    value = record { outcome = f.outcome; update = f.update }

    here : get_or (set fs.of f.tx value) f.tx no_followed ≡ value
    here = get_or-set_same fs.of f.tx value no_followed room

    there : g.tx ≢ f.tx → get_or (set fs.of f.tx value) g.tx no_followed ≡ get_or fs.of g.tx no_followed
    there d = get_or-set_other fs.of f.tx g.tx value no_followed d

    mine : KeepsFollow (following x f.tx) (record { of = set fs.of f.tx value }) g → Dec (g.tx ≡ f.tx) → Memᴰ g (f ∷ l)
    mine h (yes e) = Memᴰ.head same
      where
        values : record { outcome = g.outcome; update = g.update } ≡ value
        values = sym h.1 ∙ ap (λ (i : ℕ). get_or (set fs.of f.tx value) i no_followed) e ∙ here

        same : g ≡ f
        same = λ i. record { tx = e i; outcome = (values i).outcome; update = (values i).update }
    mine h (no d) =
        Memᴰ.tail
        ((k g).0 (⊎_elim (λ (e : g.tx ≡ f.tx). absurd (d e)) (λ y. y) (in_with x.followed f.tx g.tx h.0), sym (there d) ∙ h.1))

    new : g ≡ f → KeepsFollow (following x f.tx) (record { of = set fs.of f.tx value }) g
    new e = subst (λ (y : Follow). KeepsFollow (following x f.tx) (record { of = set fs.of f.tx value }) y) (sym e) (with_has x.followed f.tx, here)

    old : Memᴰ g l → KeepsFollow (following x f.tx) (record { of = set fs.of f.tx value }) g
    old t =
        let h = (k g).1 t in
        let d : g.tx ≢ f.tx = λ e. opposed (subst (λ (i : ℕ). has x.followed i ≡ true) e h.0) free in
        (with_keeps x.followed f.tx g.tx h.0, there d ∙ h.1)
