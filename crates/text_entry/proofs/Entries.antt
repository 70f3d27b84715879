-- What the reader answers to a line, from the values that it read.
use Prim.Native.Nat.{ℕ}
use lib.ListN.{length}
use Rattle.text_entry.proofs.Parts.{ends_is}
use Rattle.std.specs.Bool.{◌==◌}
use mathlib.Core.Bool.{Bool, true, cond}
use mathlib.Core.List.{List}
use mathlib.Core.Option as maybe
use mathlib.Core.Option.{none, some}
use mathlib.Core.Path.{◌≡◌, refl, sym, ◌∙◌, ap}
use Rattle.std.proofs.Common.{Bor, Err, None, Ok, Option, Result, Some}
use Rattle.std.specs.Option.{MatchOption}
use Rattle.text_ascii.proofs.Words.{clash}
use Rattle.log_entry.specs.declared.Entry.{Entry}
use Rattle.text_entry.specs.declared.EntryParts.{EntryParts}
use Rattle.text_entry.specs.declared.Unread.{Unread}
use Rattle.text_entry.specs.declared.Unread.TheVariants.{Unreadable, Outside}
use Rattle.text_entry.specs.Entry.{beyond, read_entry, reading, reading_of, take_of, vote_of}
use Rattle.text_entry.specs.Fields.{name_text}
use Rattle.text_entry.specs.Kinds.{take_kind, vote_kind}
use Rattle.text_entry.specs.Parts.{either_parts, entry_of, kind_front, kind_parts, made_parts, or_parts, take_parts, vote_parts}
use Rattle.text_entry.specs.Read.{is_end, read_kind}
use Rattle.text_entry.specs.Seen.{found}
use Rattle.text_entry.specs.Table.{made, or_else, read_first}
use Rattle.text_entry.proofs.Agreement.{distinct}
use Rattle.text_entry.proofs.Fronts.{answered, front_of_one, line_answer}
use Rattle.text_entry.proofs.Table.{next_decides}
use Rattle.text_entry.proofs.Takes.{take_counts}
use Rattle.text_entry.proofs.Votes.{vote_counts}

-- the answer to the values at the front of a line
abbrev pub read_parts : Option (EntryParts × List ℕ) → Result Entry Unread
read_parts None = Err Unreadable
read_parts (Some x) = cond (is_end x.1) (reading_of (some (entry_of x.0))) (Err Unreadable)

-- the names of a take and of a vote differ
names_differ : clash (name_text take_kind) (name_text vote_kind) ≡ true
unfolding clash
names_differ = refl

module _ (s : List ℕ) where
  abbrev takes : maybe.Option Entry
  takes = made take_of (read_kind take_kind s)

  abbrev votes : maybe.Option Entry
  votes = made vote_of (read_kind vote_kind s)

  take_read : read_parts (kind_parts take_parts take_kind s) ≡ reading_of takes
  take_read = go (kind_front take_kind s) ∙ line_answer take_kind (λ o. reading_of (made take_of o)) take_counts s
    where
      go : (o : Option (List ℕ × List ℕ)) → read_parts (made_parts take_parts o) ≡ answered take_kind (λ o. reading_of (made take_of o)) take_counts o
      go None = refl
      go (Some x) = refl

  vote_read : read_parts (kind_parts vote_parts vote_kind s) ≡ reading_of votes
  vote_read = go (kind_front vote_kind s) ∙ line_answer vote_kind (λ o. reading_of (made vote_of o)) vote_counts s
    where
      go : (o : Option (List ℕ × List ℕ)) → read_parts (made_parts vote_parts o) ≡ answered vote_kind (λ o. reading_of (made vote_of o)) vote_counts o
      go None = refl
      go (Some x) = refl

  -- a line that begins as a take is no vote
  either_is : reading_of (or_else takes votes) ≡ reading s
  unfolding read_entry read_first
  either_is = go takes votes
    where
      go : (t v : maybe.Option Entry) → reading_of (or_else t v) ≡ reading_of (or_else t (or_else v none))
      go (some x) v = refl
      go none none = refl
      go none (some y) = refl

  pub either_read : read_parts (either_parts s) ≡ reading s
  either_read = go (kind_front take_kind s) refl ∙ either_is
    where
      go : (o : Option (List ℕ × List ℕ)) → kind_front take_kind s ≡ o → read_parts (or_parts (made_parts take_parts o) (kind_parts vote_parts vote_kind s)) ≡ reading_of (or_else takes votes)
      go None h = vote_read ∙ next_decides Ok (Err Outside) (Err Unreadable) beyond distinct takes votes (sym take_read ∙ ap (λ (o : Option (List ℕ × List ℕ)). read_parts (made_parts take_parts o)) h)
      go (Some x) h =
          sym (ap (λ (o : Option (List ℕ × List ℕ)). read_parts (made_parts take_parts o)) h)
          ∙ take_read
          ∙ alone takes (ap (made vote_of) (front_of_one take_kind vote_kind names_differ s x h))
        where
          alone : (t : maybe.Option Entry) → votes ≡ none → reading_of t ≡ reading_of (or_else t votes)
          alone none e = ap reading_of (sym e)
          alone (some y) e = refl

-- the one, or else the other
pub or_found : (o r : Option (EntryParts × Bor (List ℕ))) {other : Type 0} (a b : Option (EntryParts × List ℕ)) → found o ≡ a → MatchOption o other (λ x. r ≡ Some x)
    → (other → found r ≡ b) → found r ≡ or_parts a b
or_found None r a b h m f = let e : a ≡ None = sym h in rw e (f m)
or_found (Some x) r a b h m f = rw (sym h, m)

-- the answer to a line
module _ (s : List ℕ) (o : Option (EntryParts × Bor (List ℕ))) (h : found o ≡ either_parts s) where
  read_found : read_parts (found o) ≡ reading s
  read_found = ap read_parts h ∙ either_read s

  pub read_none : o ≡ None → Err Unreadable ≡ reading s
  read_none e = ap (λ (p : Option (EntryParts × Bor (List ℕ))). read_parts (found p)) (sym e) ∙ read_found

  -- whether the line ends behind the values
  pub read_to : (x : EntryParts × Bor (List ℕ)) {b : Bool} → o ≡ Some x → b ≡ (length x.1.now == 0) → cond b (reading_of (some (entry_of x.0))) (Err Unreadable) ≡ reading s
  read_to x e l =
      ap (λ (b : Bool). cond b (reading_of (some (entry_of x.0))) (Err Unreadable)) (l ∙ ends_is x.1.now)
      ∙ ap (λ (p : Option (EntryParts × Bor (List ℕ))). read_parts (found p)) (sym e)
      ∙ read_found
