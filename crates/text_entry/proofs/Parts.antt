-- What stands behind a part of a line.
use Prim.Native.Nat.{ℕ, suc}
use native.Mathlib.Omega.{arith}
use borrow.Author.Tests.{ne_eqb}
use mathlib.Core.Bool.{Bool, true, false, ◌&&◌, and_assoc, cond, false≢true, true≢false}
use mathlib.Core.List.{List, [], ◌∷◌, ◌++◌}
use mathlib.Core.Path.{◌≡◌, refl, sym, ◌∙◌, ap}
use lib.Dec.{eqb}
use lib.ListN.{length, drop, length-append}
use lib.Seq.{drop-drop}
use Rattle.std.proofs.Common.{Bor, Option, None, Some}
use Rattle.std.specs.Bool.{◌==◌}
use Rattle.std.specs.Option.{MatchOption}
use Rattle.text_ascii.specs.Bytes.{begins}
use Rattle.text_entry.specs.Fields.{in_hex, in_hex_or, in_words, keyed}
use Rattle.text_entry.specs.Seen.{seen}
use Rattle.text_entry.specs.Read.{Part, part, unreadable, after, read_hex, read_word, read_value, value_after, keyed_value, is_end}

-- two words, one behind the other, are one word
begins_both : (s v w : List ℕ) → begins s (v ++ w) ≡ (begins s v && begins (drop (length v) s) w)
unfolding begins
begins_both [] [] w = refl
begins_both (c ∷ s) [] w = refl
begins_both [] (x ∷ v) w = refl
begins_both (c ∷ s) (x ∷ v) w = ap (λ (b : Bool). eqb c x && b) (begins_both s v w) ∙ sym (and_assoc (eqb c x) (begins s v) (begins (drop (length v) s) w))

pub after_both : (v w : List ℕ) (p : Part) → after w (after v p) ≡ after (v ++ w) p
unfolding after
after_both v w p = go p.readable (begins p.rest v) (begins p.rest (v ++ w)) (begins_both p.rest v w)
  where
    drop_both : (s : List ℕ) → drop (length w) (drop (length v) s) ≡ drop (length (v ++ w)) s
    drop_both s = rw length-append (drop-drop (length w) (length v) s)

    go : (a b c : Bool) → c ≡ (b && begins (drop (length v) p.rest) w)
        → (let q = cond (a && b) (part 0 (drop (length v) p.rest)) unreadable in cond (q.readable && begins q.rest w) (part 0 (drop (length w) q.rest)) unreadable)
        ≡ cond (a && c) (part 0 (drop (length (v ++ w)) p.rest)) unreadable
    go false b c h = refl
    go true false c h = rw h
    go true true c h = rw h (ap (λ (s : List ℕ). cond (begins (drop (length v) p.rest) w) (part 0 s) unreadable) (drop_both p.rest))

-- whether a line ends there
pub ends_is : (s : List ℕ) → (length s == 0) ≡ is_end s
ends_is [] = refl
ends_is (c ∷ s) = ne_eqb (length (c ∷ s)) 0 (λ e. omega arith)

-- what does not read at one word does not read at it and more
pub unread_then : (v w : List ℕ) (p : Part) → unreadable ≡ after v p → unreadable ≡ after (v ++ w) p
unfolding after
unread_then v w p h = ap (after w) h ∙ after_both v w p

-- so many digits, or else as many others
pub or_hex : (k j : ℕ) (s : List ℕ) (o r : Option (ℕ × Bor (List ℕ))) {other : Type 0} → seen o ≡ read_value (in_hex k) s → MatchOption o other (λ x. r ≡ Some x)
    → (other → seen r ≡ read_value (in_hex j) s) → seen r ≡ read_value (in_hex_or k j) s
unfolding read_value
or_hex k j s None r h m f = let e : read_hex k 0 s ≡ unreadable = sym h in rw e (f m)
or_hex k j s (Some x) r h m f = rw (sym h, m)

-- ---- words

module _ (n : ℕ) (w : List ℕ) (ws : List (List ℕ)) (s : List ℕ) where
  pub word_first : {t : List ℕ} → part 0 t ≡ after w (part 0 s) → part n t ≡ read_word n (w ∷ ws) s
  unfolding read_word after
  word_first {t} h = go (begins s w) h
    where
      go : (b : Bool) → part 0 t ≡ cond b (part 0 (drop (length w) s)) unreadable → part n t ≡ cond b (part n (drop (length w) s)) (read_word (suc n) ws s)
      go true h = ap (λ (p : Part). part n p.rest) h
      go false h = absurd (true≢false (ap (λ (p : Part). p.readable) h))

  pub word_later : unreadable ≡ after w (part 0 s) → read_word (suc n) ws s ≡ read_word n (w ∷ ws) s
  unfolding read_word after
  word_later h = go (begins s w) h
    where
      go : (b : Bool) → unreadable ≡ cond b (part 0 (drop (length w) s)) unreadable → read_word (suc n) ws s ≡ cond b (part n (drop (length w) s)) (read_word (suc n) ws s)
      go true h = absurd (false≢true (ap (λ (p : Part). p.readable) h))
      go false h = refl

pub word_none : (n : ℕ) (s : List ℕ) → unreadable ≡ read_word n [] s
unfolding read_word
word_none n s = refl

-- one of these words behind its key
pub words_behind : (key : List ℕ) (ws : List (List ℕ)) (s t : List ℕ) → part 0 t ≡ after (keyed key) (part 0 s) → read_word 0 ws t ≡ keyed_value key (in_words ws) (part 0 s)
unfolding read_value
words_behind key ws s t h = ap (value_after (in_words ws)) h
