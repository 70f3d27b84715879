-- An input that is read piece by piece.
use Prim.Native.Nat.{ℕ}
use native.Mathlib.Omega.{arith}
use mathlib.Core.Bool.{Bool}
use mathlib.Core.List.{List, [], ◌∷◌, ◌++◌}
use mathlib.Core.Path.{◌≡◌, refl, sym, ◌∙◌, ap, subst}
use lib.ListN.{length, length-append}
use Rattle.std.specs.Prelude.{Option, None, Some}
use Rattle.std.proofs.lemmas.List.{append-nil, append_assoc}
use Rattle.std.specs.Io.KnownBytes.{Consumes}
use Rattle.text_lines.specs.declared.Line.{Line}
use Rattle.text_lines.specs.Feed.{Fed, fed, fed_all, fresh, joined}
use Rattle.text_lines.proofs.Feeding.{all_is_joined}
use Rattle.text_io.specs.Reading.{Given, OneMore, OneMoreOf, ReadAll, bytes_read, last_piece}

last_is : (ps : List (List ℕ)) (p : List ℕ) → last_piece (ps ++ p ∷ []) ≡ p
unfolding last_piece
last_is [] p = refl
last_is (q ∷ []) p = refl
last_is (q ∷ r ∷ ps) p = last_is (r ∷ ps) p

joined_and_one : (ps : List (List ℕ)) (p : List ℕ) → joined (ps ++ p ∷ []) ≡ joined ps ++ p
joined_and_one [] p = append-nil p
joined_and_one (q ∷ ps) p = ap (λ (s : List ℕ). q ++ s) (joined_and_one ps p) ∙ sym (append_assoc q (joined ps) p)

-- what a reader gave in two parts, it gave
consumes_both : (a b c : Option (List ℕ)) (s t : List ℕ) → Consumes a b s → Consumes b c t → Consumes a c (s ++ t)
consumes_both None b c s t h k = tt
consumes_both (Some u) None c s t h k = absurd h
consumes_both (Some u) (Some v) None s t h k = absurd k
consumes_both (Some u) (Some v) (Some w) s t h k = h ∙ ap (λ (z : List ℕ). s ++ z) k ∙ sym (append_assoc s t w)

consumes_none : (a : Option (List ℕ)) → Consumes a a []
consumes_none None = tt
consumes_none (Some u) = refl

module _ {S : Type 0} (over : S → Bool) (step : S → Line → S) where
  all_and_one : (f : Fed S) (ps : List (List ℕ)) (p : List ℕ) → fed_all over step f (ps ++ p ∷ []) ≡ fed over step (fed_all over step f ps) p
  all_and_one f [] p = refl
  all_and_one f (q ∷ ps) p = all_and_one (fed over step f q) ps p

  module _ (first : S) where
    pub given_none : (f : Fed S) → f ≡ fresh first → Given over step first f 0 0
    unfolding last_piece
    given_none f e = record { given = []; fed = e; count = refl; bytes = refl }

    -- and one more piece
    pub given_more : (f g : Fed S) (before then pieces last : ℕ) → Given over step first f before then → OneMore over step f g before pieces last → Given over step first g pieces last
    given_more f g before then pieces last r m =
        let p = m.piece in
        record {
          given = r.given ++ p ∷ [];
          fed = m.fed ∙ ap (λ (x : Fed S). fed over step x p) r.fed ∙ sym (all_and_one (fresh first) r.given p);
          count = omega (arith, m.count, r.count, length-append r.given (p ∷ []));
          bytes = m.bytes ∙ sym (ap length (last_is r.given p));
        }

    -- what was read piece by piece was fed as a whole
    pub read_is_fed : (f : Fed S) (pieces last : ℕ) (r : ReadAll over step first f pieces last) → f ≡ fed over step (fresh first) (bytes_read r)
    read_is_fed f pieces last r = r.reading.fed ∙ all_is_joined over step (fresh first) r.reading.given

    -- what was read so far is what the reader gave
    abbrev pub GivenOf : Fed S → ℕ → ℕ → Option (List ℕ) → Option (List ℕ) → Type 0
    GivenOf f pieces last left rest = (read : Given over step first f pieces last) × Consumes left rest (joined read.given)

    pub given_none_of : (f : Fed S) (left : Option (List ℕ)) → f ≡ fresh first → GivenOf f 0 0 left left
    unfolding given_none
    given_none_of f left e = (given_none f e, consumes_none left)

    pub given_more_of : (f g : Fed S) (before then pieces last : ℕ) (left rest new : Option (List ℕ)) → GivenOf f before then left rest → OneMoreOf over step f g before pieces last rest new → GivenOf g pieces last left new
    unfolding given_more
    given_more_of f g before then pieces last left rest new r m = (
      given_more f g before then pieces last r.0 m.0,
      subst (λ (s : List ℕ). Consumes left new s) (sym (joined_and_one r.0.given m.0.piece)) (consumes_both left rest new (joined r.0.given) m.0.piece r.1 m.1),
    )
