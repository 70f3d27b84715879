-- Words of a line.
use Rattle.std.proofs.Common.{ℕ, true, false, ◌&&◌, nat_eq, ◌+◌, List, [], ◌∷◌, length, take, drop, ◌≡◌, refl, ap, None, Some, Option, Bor}
use Rattle.std.specs.Cmp.Lexicographic.{pointwise}
use Rattle.std.specs.Option.{MatchOption}
use Rattle.text_ascii.specs.Bytes.{begins}
use Rattle.text_entry.specs.Read.{after, part}
use Rattle.text_entry.specs.Seen.{left}

-- the library's words for a prefix
begins_lem : (s w : List ℕ) → begins s w ≡ pointwise nat_eq (take (length w) s) w
unfolding begins
begins_lem s [] = refl
begins_lem [] (w ∷ ws) = refl
begins_lem (c ∷ s) (w ∷ ws) = ap (λ b. nat_eq c w && b) (begins_lem s ws)

-- what `strip_prefix` answers is what the definition reads
pub stripped : (s w : List ℕ) (r : Option (Bor (List ℕ))) → MatchOption r (pointwise nat_eq (take (length w) s) w ≡ false) (λ x. (pointwise nat_eq (take (length w) s) w ≡ true) × (x.now ≡ drop (length w) s) × (length x.now + length w ≡ length s)) → left r ≡ after w (part 0 s)
unfolding after
stripped s w None h = rw (begins_lem s w, h)
stripped s w (Some x) h = rw (begins_lem s w, h.0, h.1)
