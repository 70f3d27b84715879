-- The first condition that holds gives the answer.
use mathlib.Core.Path.{◌≡◌, ap, refl, sym}
use mathlib.Core.Bool.{Bool, true, false, not, ◌&&◌, cond, false≢true}
use mathlib.Core.List.{List, [], ◌∷◌, ◌++◌, map}
use mathlib.Core.Logic.{◌↔◌, ◌≢◌, ◌⊎◌, inl, inr}
use lib.Dec.{eqb}
use borrow.Author.Tests.{eq-eqb, not-true}
use Rattle.std.specs.Prelude.{Err, Ok}
use Rattle.log_entry.specs.Number.{Answer, answer_number}
use Rattle.log_entry.specs.Refusal.{Check, accepted, check, first_refusal}
use Rattle.log_laws.specs.Answers.{First, None}
use Rattle.log_entry.proofs.AnswerLaws.{err_ok}
use Rattle.log_entry.proofs.Tests.{and_left, and_right, opposed}

-- an answer accepts or is a refusal
pub accepts_or_not : (a : Answer) → (a ≡ accepted) ⊎ (a ≢ accepted)
accepts_or_not (Ok done) = inl refl
accepts_or_not (Err r) = inr err_ok

-- two answers have different numbers
abbrev other : Answer → Answer → Bool
other m n = not (eqb (answer_number m) (answer_number n))

-- no check of the list has the answer
abbrev pub fresh : Answer → List Check → Bool
fresh n [] = true
fresh n (c ∷ cs) = other c.answer n && fresh n cs

abbrev pub conditions : List Check → List Bool
conditions cs = map (λ (c : Check). c.applies) cs

differs : (m n : Answer) → other m n ≡ true → m ≡ n → ⊥
differs m n h e = opposed (eq-eqb (answer_number m) (answer_number n) (ap answer_number e)) (not-true _ h)

-- an answer that no check has is given only where none applies, and then it is accepted
pub not_given : (n : Answer) (cs : List Check) → n ≢ accepted → fresh n cs ≡ true → first_refusal cs ≡ n → ⊥
unfolding first_refusal
not_given n [] z f e = z (sym e)
not_given n (c ∷ cs) z f e =
    split c.applies (not_given n cs z (and_right (other c.answer n) (fresh n cs) f)) e
  where
    split : (t : Bool) → (first_refusal cs ≡ n → ⊥) → cond t c.answer (first_refusal cs) ≡ n → ⊥
    split true rest e = differs c.answer n (and_left (other c.answer n) (fresh n cs) f) e
    split false rest e = rest e

pub none_applies : (cs : List Check) → fresh accepted cs ≡ true → first_refusal cs ≡ accepted → None (conditions cs)
unfolding first_refusal
none_applies [] f e = tt
none_applies (c ∷ cs) f e = split c.applies refl (none_applies cs (and_right (other c.answer accepted) (fresh accepted cs) f)) e
  where
    split : (t : Bool) → c.applies ≡ t → (first_refusal cs ≡ accepted → None (conditions cs)) → cond t c.answer (first_refusal cs) ≡ accepted
        → (c.applies ≡ false) × None (conditions cs)
    split true h rest e = absurd (differs c.answer accepted (and_left (other c.answer accepted) (fresh accepted cs) f) e)
    split false h rest e = (h, rest e)

pub no_refusal : (cs : List Check) → None (conditions cs) → first_refusal cs ≡ accepted
unfolding first_refusal
no_refusal [] h = refl
no_refusal (c ∷ cs) h = rw h.0 (no_refusal cs h.1)

-- the answer is n if and only if condition n holds and none before it does
pub given_exactly : (before after : List Check) (n : Answer) (t : Bool) → n ≢ accepted → fresh n (before ++ after) ≡ true
    → (first_refusal (before ++ check n t ∷ after) ≡ n) ↔ First (conditions before) t
unfolding first_refusal
given_exactly [] after n true z f = (λ e. refl, λ e. refl)
given_exactly [] after n false z f = (λ e. absurd (not_given n after z f e), λ e. absurd (false≢true e))
given_exactly (c ∷ cs) after n t z f =
    split c.applies refl (given_exactly cs after n t z (and_right (other c.answer n) (fresh n (cs ++ after)) f))
  where
    rest : Answer
    rest = first_refusal (cs ++ check n t ∷ after)

    split : (b : Bool) → c.applies ≡ b → (rest ≡ n) ↔ First (conditions cs) t
        → (cond b c.answer rest ≡ n) ↔ ((c.applies ≡ false) × First (conditions cs) t)
    split true h k = (
      λ e. absurd (differs c.answer n (and_left (other c.answer n) (fresh n (cs ++ after)) f) e),
      λ p. absurd (opposed h p.0),
    )
    split false h k = (λ e. (h, k.0 e), λ p. k.1 p.1)
