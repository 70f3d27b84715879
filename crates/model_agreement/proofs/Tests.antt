-- Tests that passed, as facts.
use Prim.Native.Nat.{ℕ}
use mathlib.Core.Path.{◌≡◌, refl, subst}
use mathlib.Core.Logic.{◌≢◌}
use mathlib.Core.Bool.{Bool, true, false, ◌&&◌, ◌||◌, not, cond}
use mathlib.Core.List.{List, [], ◌∷◌}
use lib.Dec.{T, T_not, eqb, eqb_refl}
use Rattle.std.proofs.Common.{Err, Ok, is_err, is_ok}
use Rattle.log_entry.specs.Number.{Answer}
use Rattle.log_entry.specs.Refusal.{Check, first_refusal}

pub neqb→ne : (m n : ℕ) → T (not (eqb m n)) → m ≢ n
neqb→ne m n t e = T_not (eqb m n) t (subst (λ (x : ℕ). T (eqb m x)) e (eqb_refl m))

pub both : (a b : Bool) → T (a && b) → T a × T b
both true b t = (tt, t)
both false b t = absurd t

pub neither : (a b : Bool) → T (not (a || b)) → T (not a) × T (not b)
neither true b t = absurd t
neither false b t = (tt, t)

pub none_of_three : (a b c : Bool) → T (not (a || b || c)) → T (not a) × T (not b) × T (not c)
none_of_three true b c t = absurd t
none_of_three false true c t = absurd t
none_of_three false false c t = (tt, tt, t)

pub none_of_five : (a b c d e : Bool) → T (not (a || b || c || d || e)) → T (not a) × T (not b) × T (not c) × T (not d) × T (not e)
none_of_five true b c d e t = absurd t
none_of_five false true c d e t = absurd t
none_of_five false false true d e t = absurd t
none_of_five false false false true e t = absurd t
none_of_five false false false false e t = (tt, tt, tt, tt, t)

-- not both, but the first
pub not_second : (a b : Bool) → T (not (a && b)) → T a → T (not b)
not_second true b t u = t
not_second false b t u = absurd u

pub not_first : (a b : Bool) → T (not (a && b)) → T b → T (not a)
not_first true b t u = absurd (T_not b t u)
not_first false b t u = tt

pub not_not : (a : Bool) → T (not (not a)) → T a
not_not true t = tt
not_not false t = t

pub is_true : (a : Bool) → T a → a ≡ true
is_true true t = refl
is_true false t = absurd t

pub is_false : (a : Bool) → T (not a) → a ≡ false
is_false true t = absurd t
is_false false t = refl

-- ---- checks: where none refuses, none applies

-- each names a refusal
abbrev pub Positive : List Check → Type 0
Positive [] = Unit {0}
Positive (c ∷ cs) = T (is_err c.answer) × Positive cs

abbrev pub Passed : List Check → Type 0
Passed [] = Unit {0}
Passed (c ∷ cs) = T (not c.applies) × Passed cs

not_both : (a : Answer) → T (is_err a) → T (is_ok a) → ⊥
not_both (Ok done) e o = e
not_both (Err r) e o = o

pub passed : (cs : List Check) → Positive cs → T (is_ok (first_refusal cs)) → Passed cs
unfolding first_refusal
passed [] p h = tt
passed (c ∷ cs) p h = go c.applies (passed cs p.1) h
  where
    go : (t : Bool) → (T (is_ok (first_refusal cs)) → Passed cs) → T (is_ok (cond t c.answer (first_refusal cs))) → T (not t) × Passed cs
    go true f h = absurd (not_both c.answer p.0 h)
    go false f h = (tt, f h)
