-- What the reader answers to a line, from the parts that it read.
use Prim.Native.Nat.{ℕ, ◌≤◌, min}
use mathlib.Core.Bool.{Bool, true, false, ◌||◌, cond}
use mathlib.Core.List.{List, [], ◌∷◌}
use mathlib.Core.Option as maybe
use mathlib.Core.Option.{none, some}
use mathlib.Core.Path.{◌≡◌, refl, sym, ◌∙◌, ap, subst}
use lib.Dec.{eqb}
use Rattle.std.proofs.Common.{Err, None, Ok, Option, Result, Some}
use Rattle.log_entry.specs.declared.Entry.{Entry}
use Rattle.log_entry.specs.Entry.{take_entry, vote_entry}
use Rattle.model_steps.specs.declared.Role.{Role}
use Rattle.model_steps.specs.declared.Role.TheVariants.{Acceptor, Coord, Proc}
use Rattle.model_steps.specs.declared.Step.{Step}
use Rattle.model_steps.specs.declared.Step.TheVariants.{Request, Crash}
use Rattle.text_ascii.specs.Decimal.{byte_numbers}
use Rattle.text_entry.specs.declared.Unread.{Unread}
use Rattle.text_entry.specs.declared.Unread.TheVariants.{Unreadable, Outside}
use Rattle.text_entry.specs.Entry as entry
use Rattle.text_entry.specs.Kinds.{take_kind, vote_kind}
use Rattle.text_entry.specs.Parts.{kind_front, whole}
use Rattle.text_entry.specs.Read.{read_kind}
use Rattle.text_entry.specs.Table.{Reader, at, made, no_byte, or_else, read_as, read_first, reader}
use Rattle.text_entry.proofs.Counts.{at_counts, beyond_last, counted_same, no_byte_lem}
use Rattle.text_entry.proofs.DecimalLaws.{byte_is, no_byte_is}
use Rattle.text_entry.proofs.Fronts.{answer_to, counts, line_whole}
use Rattle.text_entry.proofs.Takes as takes
use Rattle.text_entry.proofs.Votes as votes
use Rattle.text_entry.specs.Decimals.{byte_of}
use Rattle.text_step.specs.Answers.{OrElse, crash_values, request_of}
use Rattle.text_step.specs.Kinds.{back_kind, crash_kind, deliver_kind, follow_kind, open_kind, propose_kind, restore_kind, sent_take, sent_vote, setup_kind, tell_kind}
use Rattle.text_step.specs.Step.{back_of, beyond, crash_of, deliver_of, follow_of, open_of, propose_of, read_step, reading_of, restore_of, role_number, role_of, setup_of, take_of, tell_of, vote_of}

-- ---- requests

pub request_is : (e : Entry) (to : ℕ) → request_of (entry.reading_of (some e)) to ≡ reading_of (some (Request e to))
request_is e to = go (entry.beyond e) ∙ ap (λ (b : Bool). cond b (Err Outside) (Ok (Request e to))) (sym (beyond_last (entry.numbers e) to))
  where
    go : (b : Bool) → request_of (cond b (Err Outside) (Ok e)) to ≡ cond (b || no_byte to) (Err Outside) (Ok (Request e to))
    go true = refl
    go false = refl

pub request_beyond : (to : ℕ) (e : Entry) → byte_numbers ≤ to → Err Outside ≡ request_of (Ok e) to
request_beyond to e h = rw (no_byte_lem to h)

-- the answer to a request by the entry and the coordinator as a byte
pub request_outside : (to : ℕ) (e : Entry) {unread : Unread} → byte_of to ≡ Err unread → Err unread ≡ request_of (Ok e) to
request_outside to e h = let n = no_byte_is to h in rw (n.0, n.1) refl

pub request_read : (to : ℕ) (e : Entry) {b : ℕ} → byte_of to ≡ Ok b → Ok (Request e b) ≡ request_of (Ok e) to
request_read to e h = let n = byte_is to h in rw (n.0, n.1) refl

request_counted : (r : Result Entry Unread) (n : ℕ) → request_of r n ≡ request_of r (min n byte_numbers)
request_counted (Ok e) n = counted_same (λ (m : ℕ). request_of (Ok e) m) (Err Outside) (λ m h. sym (request_beyond m e h)) n
request_counted (Err unread) n = refl

-- where only the counts of an entry's values matter, only those of its request's do
request_counts : (build : List ℕ → Entry) (vs us ws : List ℕ) (n : ℕ) → entry.reading_of (some (build vs)) ≡ entry.reading_of (some (build us)) → build us ≡ build ws → min (at vs n) byte_numbers ≡ at ws n
    → reading_of (some (Request (build vs) (at vs n))) ≡ reading_of (some (Request (build ws) (at ws n)))
request_counts build vs us ws n same is to =
    sym (request_is (build vs) (at vs n))
    ∙ ap (λ (r : Result Entry Unread). request_of r (at vs n)) same
    ∙ request_counted (entry.reading_of (some (build us))) (at vs n)
    ∙ request_is (build us) (min (at vs n) byte_numbers)
    ∙ (λ i. reading_of (some (Request (is i) (to i))))

pub take_counts : (vs : List ℕ) → reading_of (some (take_of vs)) ≡ reading_of (some (take_of (counts sent_take.fields vs)))
take_counts vs =
    let j = at_counts take_kind.fields vs in
    let k = at_counts sent_take.fields vs in
    request_counts entry.take_of vs (counts take_kind.fields vs) (counts sent_take.fields vs) 3 (takes.take_counts vs)
    ((λ i. take_entry (j 0 i) (j 1 i) (j 2 i)) ∙ (λ i. take_entry (sym (k 0) i) (sym (k 1) i) (sym (k 2) i)))
    (sym (k 3))

pub vote_counts : (vs : List ℕ) → reading_of (some (vote_of vs)) ≡ reading_of (some (vote_of (counts sent_vote.fields vs)))
vote_counts vs =
    let j = at_counts vote_kind.fields vs in
    let k = at_counts sent_vote.fields vs in
    request_counts entry.vote_of vs (counts vote_kind.fields vs) (counts sent_vote.fields vs) 8 (votes.vote_counts vs)
    (
    (λ i. vote_entry (j 0 i) (j 1 i) (j 2 i) (j 3 i) (j 4 i) (j 5 i) (eqb (j 6 i) 1) (j 7 i))
    ∙ (λ i. vote_entry (sym (k 0) i) (sym (k 1) i) (sym (k 2) i) (sym (k 3) i) (sym (k 4) i) (sym (k 5) i) (eqb (sym (k 6) i) 1) (sym (k 7) i))
    )
    (sym (k 8))

-- ---- crashes

pub crash_unread : (r : Role) (id : ℕ) {unread : Unread} → byte_of id ≡ Err unread → Err unread ≡ reading_of (some (Crash r id))
crash_unread r id h = let n = no_byte_is id h in rw (n.0, n.1) refl

pub crash_of_byte : (r : Role) (id : ℕ) {b : ℕ} → byte_of id ≡ Ok b → Ok (Crash r b) ≡ reading_of (some (Crash r id))
crash_of_byte r id h = let n = byte_is id h in rw (n.0, n.1) refl

pub crash_outside : (r : Role) (id : ℕ) → byte_numbers ≤ id → reading_of (some (Crash r id)) ≡ Err Outside
crash_outside r id h = rw (no_byte_lem id h)

pub crash_counts : (vs : List ℕ) → reading_of (some (crash_of vs)) ≡ reading_of (some (crash_of (counts crash_kind.fields vs)))
crash_counts vs =
    let k = at_counts crash_kind.fields vs in
    counted_same (λ (n : ℕ). reading_of (some (Crash (role_of (at vs 0)) n))) (Err Outside) (crash_outside (role_of (at vs 0))) (at vs 1)
    ∙ (λ i. reading_of (some (Crash (role_of (sym (k 0) i)) (sym (k 1) i))))

-- the answer to a crash, by what the reader found of its line
pub crash_back : (r : Role) → role_of (role_number r) ≡ r
crash_back Acceptor = refl
crash_back Coord = refl
crash_back Proc = refl

module _ (l : List ℕ) (o : Option (Role × ℕ)) (h : crash_values o ≡ whole (kind_front crash_kind l)) where
  crash_read : answer_to (λ vs. reading_of (made crash_of vs)) (crash_values o) ≡ reading_of (made crash_of (read_kind crash_kind l))
  crash_read = ap (answer_to (λ vs. reading_of (made crash_of vs))) h ∙ line_whole crash_kind (λ vs. reading_of (made crash_of vs)) crash_counts l

  pub no_crash : o ≡ None → Err Unreadable ≡ reading_of (made crash_of (read_kind crash_kind l))
  no_crash e = ap (λ (p : Option (Role × ℕ)). answer_to (λ vs. reading_of (made crash_of vs)) (crash_values p)) (sym e) ∙ crash_read

  pub a_crash : (r : Role) (id : ℕ) → o ≡ Some (r, id) → reading_of (some (Crash r id)) ≡ reading_of (made crash_of (read_kind crash_kind l))
  a_crash r id e =
      ap (λ (x : Role). reading_of (some (Crash x id))) (sym (crash_back r))
      ∙ ap (λ (p : Option (Role × ℕ)). answer_to (λ vs. reading_of (made crash_of vs)) (crash_values p)) (sym e)
      ∙ crash_read

-- ---- kinds tried in turn

-- what the reader answers to what a line reads as
pub record Answers (t : maybe.Option Step) (r : Result Step Unread) : Type 0 where
  pub answers : r ≡ reading_of t

-- one kind more
pub or_read : {t : maybe.Option Step} (v : maybe.Option Step) {read : Result Step Unread} (r : Result Step Unread) {Otherwise : Type 0} → Answers t read → OrElse read r Otherwise → (Otherwise → r ≡ reading_of v)
    → Answers (or_else t v) r
or_read {t = none} v {read = read} r {Otherwise = Otherwise} a m f = record { answers = f (subst (λ (x : Result Step Unread). OrElse x r Otherwise) a.answers m) }
or_read {t = some s} v {read = read} r {Otherwise = Otherwise} a m f = record { answers = go (beyond s) (subst (λ (x : Result Step Unread). OrElse x r Otherwise) a.answers m) }
  where
    go : (b : Bool) → OrElse (cond b (Err Outside) (Ok s)) r Otherwise → r ≡ cond b (Err Outside) (Ok s)
    go true h = h
    go false h = h

or_assoc : (a b c : maybe.Option Step) → or_else (or_else a b) c ≡ or_else a (or_else b c)
or_assoc none b c = refl
or_assoc (some s) b c = refl

-- the first, and then those of a list, one after the other
abbrev pub after_first : maybe.Option Step → List (maybe.Option Step) → maybe.Option Step
after_first t [] = t
after_first t (v ∷ vs) = after_first (or_else t v) vs

abbrev the_first : List (maybe.Option Step) → maybe.Option Step
the_first [] = none
the_first (v ∷ vs) = or_else v (the_first vs)

first_of_all : (t : maybe.Option Step) (vs : List (maybe.Option Step)) → after_first t vs ≡ or_else t (the_first vs)
first_of_all none [] = refl
first_of_all (some s) [] = refl
first_of_all t (v ∷ vs) = first_of_all (or_else t v) vs ∙ or_assoc t v (the_first vs)

-- in this order
module _ (l : List ℕ) where
  abbrev as_kind : Reader Step → maybe.Option Step
  as_kind r = read_as r l

  abbrev later : List (maybe.Option Step)
  later =
      as_kind (reader setup_kind setup_of)
      ∷ as_kind (reader open_kind open_of)
      ∷ as_kind (reader propose_kind propose_of)
      ∷ as_kind (reader tell_kind tell_of)
      ∷ as_kind (reader restore_kind restore_of)
      ∷ as_kind (reader follow_kind follow_of)
      ∷ as_kind (reader back_kind back_of)
      ∷ as_kind (reader crash_kind crash_of)
      ∷ []

  pub in_order : after_first (as_kind (reader deliver_kind deliver_of)) (or_else (as_kind (reader sent_take take_of)) (as_kind (reader sent_vote vote_of)) ∷ later) ≡ read_step l
  unfolding read_step read_first
  in_order =
      first_of_all (as_kind (reader deliver_kind deliver_of)) (or_else (as_kind (reader sent_take take_of)) (as_kind (reader sent_vote vote_of)) ∷ later)
      ∙ ap (or_else (as_kind (reader deliver_kind deliver_of))) (or_assoc (as_kind (reader sent_take take_of)) (as_kind (reader sent_vote vote_of)) (the_first later))
