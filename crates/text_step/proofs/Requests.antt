-- Requests, by the values that the reader found.
use Prim.Native.Nat.{ℕ}
use mathlib.Core.Bool.{Bool, true, false, ◌&&◌, cond}
use mathlib.Core.List.{List, [], ◌∷◌, ◌++◌}
use mathlib.Core.Option as maybe
use mathlib.Core.Option.{none, some}
use mathlib.Core.Path.{◌≡◌, refl, sym, ◌∙◌, ap}
use lib.ListN.{length}
use Rattle.std.proofs.Common.{Bor, Err, None, Ok, Option, Result, Some}
use Rattle.std.specs.Bool.{◌==◌}
use Rattle.model_steps.specs.declared.Step.{Step}
use Rattle.model_steps.specs.declared.Step.TheVariants.{Request}
use Rattle.text_ascii.proofs.Words.{clash}
use Rattle.text_entry.specs.declared.EntryParts.{EntryParts}
use Rattle.text_entry.specs.declared.Unread.{Unread}
use Rattle.text_entry.specs.declared.Unread.TheVariants.{Unreadable, Outside}
use Rattle.text_entry.specs.Fields.{Kind, name_text}
use Rattle.text_entry.specs.Kinds.{take_kind, vote_kind}
use Rattle.text_entry.specs.Parts.{either_parts, entry_of, kind_front, kind_parts, made_parts, or_parts, take_parts, vote_parts}
use Rattle.text_entry.specs.Read.{Part, after, is_end, part, read_field, read_kind}
use Rattle.text_entry.specs.Seen.{capped, found, seen}
use Rattle.text_entry.specs.Table.{made, or_else}
use Rattle.text_entry.proofs.Fronts.{and_field, answered, counts, front_and, front_elements, front_of_one, line_answer}
use Rattle.text_entry.proofs.Parts.{ends_is}
use Rattle.text_entry.proofs.Table.{elements, next_decides}
use Rattle.text_step.specs.Kinds.{sent, sent_take, sent_vote, to}
use Rattle.text_step.specs.Step.{beyond, reading_of, take_of, vote_of}
use Rattle.text_step.proofs.Agreement.{distinct}
use Rattle.text_step.proofs.Readings.{take_counts, vote_counts}

-- the answer to the values of an entry and what stands behind them
abbrev pub sent_answer : EntryParts → Part → Result Step Unread
sent_answer v q = cond (q.readable && is_end q.rest) (reading_of (some (Request (entry_of v) q.value))) (Err Unreadable)

abbrev pub front_answer : Option (EntryParts × List ℕ) → Result Step Unread
front_answer None = Err Unreadable
front_answer (Some x) = sent_answer x.0 (capped (read_field to (part 0 x.1)))

-- a kind of request
module _ (k : Kind) (make : List ℕ → EntryParts) (build : List ℕ → Step)
    (same : (vs : List ℕ) → reading_of (some (build vs)) ≡ reading_of (some (build (counts (sent k).fields vs))))
    (last : (vs : List ℕ) (n : ℕ) → build (elements (length k.fields) 0 vs ++ n ∷ []) ≡ Request (entry_of (make vs)) n) (l : List ℕ) where
  abbrev answer : maybe.Option (List ℕ) → Result Step Unread
  answer vs = reading_of (made build vs)

  by_front : (o : Option (List ℕ × List ℕ)) → kind_front k l ≡ o → front_answer (made_parts make o) ≡ answered (sent k) answer same (and_field to o)
  by_front None h = refl
  by_front (Some x) h =
      let q = read_field to (part 0 x.1) in
      let n = (capped q).value in
      ap (λ (s : Step). cond (q.readable && is_end q.rest) (reading_of (some s)) (Err Unreadable)) (sym (last x.0 n) ∙ ap (λ (vs : List ℕ). build (vs ++ n ∷ [])) (sym (front_elements k.fields (after (name_text k) (part 0 l)) x h)))
      ∙ go q.readable (x.0 ++ n ∷ []) q.rest
    where
      go : (b : Bool) (vs r : List ℕ) → cond (b && is_end r) (answer (some vs)) (Err Unreadable) ≡ answered (sent k) answer same (cond b (Some (vs, r)) None)
      go true vs r = refl
      go false vs r = refl

  pub kind_sent : front_answer (kind_parts make k l) ≡ reading_of (made build (read_kind (sent k) l))
  kind_sent =
      by_front (kind_front k l) refl
      ∙ ap (answered (sent k) answer same) (sym (front_and k.fields to (after (name_text k) (part 0 l))))
      ∙ line_answer (sent k) answer same l

-- the names of a take and of a vote differ
names_differ : clash (name_text take_kind) (name_text sent_vote) ≡ true
unfolding clash
names_differ = refl

module _ (l : List ℕ) where
  abbrev takes : maybe.Option Step
  takes = made take_of (read_kind sent_take l)

  abbrev votes : maybe.Option Step
  votes = made vote_of (read_kind sent_vote l)

  take_sent : front_answer (kind_parts take_parts take_kind l) ≡ reading_of takes
  take_sent = kind_sent take_kind take_parts take_of take_counts (λ vs n. refl) l

  vote_sent : front_answer (kind_parts vote_parts vote_kind l) ≡ reading_of votes
  vote_sent = kind_sent vote_kind vote_parts vote_of vote_counts (λ vs n. refl) l

  either_sent : front_answer (either_parts l) ≡ reading_of (or_else takes votes)
  either_sent = go (kind_front take_kind l) refl
    where
      alone : (t : maybe.Option Step) → votes ≡ none → reading_of t ≡ reading_of (or_else t votes)
      alone none e = ap reading_of (sym e)
      alone (some y) e = refl

      go : (o : Option (List ℕ × List ℕ)) → kind_front take_kind l ≡ o → front_answer (or_parts (made_parts take_parts o) (kind_parts vote_parts vote_kind l)) ≡ reading_of (or_else takes votes)
      go None h =
          vote_sent
          ∙ next_decides Ok (Err Outside) (Err Unreadable) beyond distinct takes votes (sym take_sent ∙ ap (λ (o : Option (List ℕ × List ℕ)). front_answer (made_parts take_parts o)) h)
      go (Some x) h =
          sym (ap (λ (o : Option (List ℕ × List ℕ)). front_answer (made_parts take_parts o)) h)
          ∙ take_sent
          ∙ alone takes (ap (made vote_of) (front_of_one take_kind sent_vote names_differ l x h))

  -- what the reader found
  module _ (o : Option (EntryParts × Bor (List ℕ))) (h : found o ≡ either_parts l) where
    found_sent : front_answer (found o) ≡ reading_of (or_else takes votes)
    found_sent = ap front_answer h ∙ either_sent

    pub no_entry : o ≡ None → Err Unreadable ≡ reading_of (or_else takes votes)
    no_entry e = ap (λ (p : Option (EntryParts × Bor (List ℕ))). front_answer (found p)) (sym e) ∙ found_sent

    module _ (x : EntryParts × Bor (List ℕ)) (e : o ≡ Some x) (r : Option (ℕ × Bor (List ℕ))) (k : seen r ≡ capped (read_field to (part 0 x.1.now))) where
      behind_sent : sent_answer x.0 (seen r) ≡ reading_of (or_else takes votes)
      behind_sent = ap (sent_answer x.0) k ∙ ap (λ (p : Option (EntryParts × Bor (List ℕ))). front_answer (found p)) (sym e) ∙ found_sent

      pub no_receiver : r ≡ None → Err Unreadable ≡ reading_of (or_else takes votes)
      no_receiver f = ap (λ (p : Option (ℕ × Bor (List ℕ))). sent_answer x.0 (seen p)) (sym f) ∙ behind_sent

      pub a_receiver : (y : ℕ × Bor (List ℕ)) {b : Bool} → r ≡ Some y → b ≡ (length y.1.now == 0) → cond b (reading_of (some (Request (entry_of x.0) y.0))) (Err Unreadable) ≡ reading_of (or_else takes votes)
      a_receiver y f g =
          ap (λ (b : Bool). cond b (reading_of (some (Request (entry_of x.0) y.0))) (Err Unreadable)) (g ∙ ends_is y.1.now)
          ∙ ap (λ (p : Option (ℕ × Bor (List ℕ))). sent_answer x.0 (seen p)) (sym f)
          ∙ behind_sent
