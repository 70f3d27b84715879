-- The two meanings of a line agree: `text` writes an entry, `read_entry` and `reading` read a line.
use Prim.Native.Nat.{ℕ, ◌<◌, ◌^◌}
use native.Mathlib.Omega.{arith}
use mathlib.Core.Bool.{Bool, true, false, true≢false}
use mathlib.Core.List.{List, []}
use mathlib.Core.Logic.{inl, inr}
use mathlib.Core.Option.{some}
use mathlib.Core.Path.{◌≡◌, refl, sym, ◌∙◌, ap, subst}
use Rattle.text_ascii.specs.Hex.{update_digits}
use Rattle.text_ascii.proofs.Words.{clash}
use Rattle.log_entry.specs.declared.Entry.{Entry}
use Rattle.log_entry.specs.Entry.{is_take, list_of, outside, take_entry, update_in}
use Rattle.log_entry.specs.Limits.{lists}
use Rattle.std.proofs.Common.{Ok, Err, Result}
use Rattle.text_entry.specs.declared.Unread.{Unread}
use Rattle.text_entry.specs.declared.Unread.TheVariants.{Unreadable, Outside}
use Rattle.text_entry.specs.Claims.{IsText, OutsideLineIsText, ReadLineIsText, ReadsExactly, TextReadsBack, TextWithinLimitsRead, UnreadableIsNoText}
use Rattle.text_entry.specs.Fields.{in_hex, line_text}
use Rattle.text_entry.specs.Kinds.{take_kind, take_with, vote_kind, vote_with}
use Rattle.text_entry.specs.Table.{reader}
use Rattle.text_entry.specs.Entry.{HasTextIn, beyond, entry_readers, in_full, read_entry, reading_of, take_of, take_values, text, text_in, turn_in, vote_of, vote_values}
use Rattle.text_entry.proofs.LineTexts.{LineIs, WritableAll, line_text_is, one_text_all, written_line}
use Rattle.text_entry.proofs.Beyond.{beyond_is_outside}
use Rattle.text_entry.proofs.Table.{Distinct, by_fields, first_reads, first_written, names_apart, outside_some, read_some, unreadable_none, some_not}
use Rattle.text_entry.proofs.Takes.{known_take, take_one, take_sound, take_writable, which_take}
use Rattle.text_entry.proofs.TextReads.{clash_all}
use Rattle.text_entry.proofs.Turns.{turn_written}
use Rattle.text_entry.proofs.Votes.{known_vote, read_by, vote_back, vote_one, vote_sound, vote_values_lem, vote_writable, which_vote}

-- a text of an entry is a line of its kind, and is read as the entry
module _ (s : List ℕ) (e : Entry) (t : IsText s e) where
  take_line : e ≡ take_entry e.process e.turn e.store → LineIs take_kind (take_values e) s
  unfolding text_in
  take_line h =
      let k = take_with (turn_in t.way.shown) in
      let written : s ≡ line_text k (take_values e) = t.line ∙ ap (text_in t.way) h in
      known_take [] t.way.shown (take_values e) s
      (subst (LineIs k (take_values e)) (sym written) (written_line k (take_values e) (take_writable t.way.shown e t.has_text.0)))

  vote_line : (is_take e ≡ false) × (list_of e < lists) × (update_in e < 16 ^ t.way.digits) → LineIs vote_kind (vote_values e) s
  unfolding text_in
  vote_line h =
      let k = vote_with (turn_in t.way.shown) (in_hex t.way.digits) in
      let written : s ≡ line_text k (vote_values e) = t.line ∙ rw h.0 in
      known_vote [] (vote_values e) s t.way t.known
      (subst (LineIs k (vote_values e)) (sym written) (written_line k (vote_values e) (vote_writable t.way e t.has_text.0 h.1 h.2)))

  every_text_reads : read_entry s ≡ some e
  unfolding read_entry names_apart clash clash_all
  every_text_reads = go t.has_text
    where
      go : HasTextIn t.way e → read_entry s ≡ some e
      go (n, inl h) = first_reads entry_readers 0 (reader take_kind take_of) (take_values e) s refl refl (take_sound [] refl tt) (take_line h) ∙ ap some (sym h)
      go (n, inr h) = first_reads entry_readers 1 (reader vote_kind vote_of) (vote_values e) s refl refl (vote_sound [] refl tt) (vote_line h) ∙ ap some (vote_back e h.0)

pub text_reads_back : TextReadsBack
text_reads_back e h = every_text_reads (text e) e (record { way = in_full; known = inl refl; line = refl; has_text = h })

take_is_text : (s vs : List ℕ) → LineIs take_kind vs s → IsText s (take_of vs)
unfolding text_in one_text_all
take_is_text s vs l =
    let t = which_take [] vs s l in
    let k = take_with (turn_in t.0) in
    let r = line_text_is k vs s (take_one [] t.0 refl) t.1 in
    let e = by_fields k vs s t.1 in
    let w = subst (WritableAll k.fields) e r.writable in
    record {
      way = record { shown = t.0; digits = update_digits };
      known = inl refl;
      line = r.text ∙ ap (line_text k) e;
      has_text = (turn_written t.0 _ w.1.0, inl refl);
    }

vote_is_text : (s vs : List ℕ) → LineIs vote_kind vs s → IsText s (vote_of vs)
unfolding text_in one_text_all
vote_is_text s vs l =
    let t = which_vote [] vs s l in
    let k = vote_with (turn_in t.0.shown) (in_hex t.0.digits) in
    let r = line_text_is k vs s (vote_one [] t.0 refl) t.2 in
    let e = by_fields k vs s t.2 in
    let w = subst (WritableAll k.fields) e r.writable in
    record {
      way = t.0;
      known = t.1;
      line = r.text ∙ ap (line_text k) (e ∙ vote_values_lem vs w.1.1.1.1.1.1.0);
      has_text = (turn_written t.0.shown _ w.1.0, inr (refl, w.1.1.1.1.1.0, w.1.1.1.1.1.1.1.0));
    }

read_is_text : (s : List ℕ) (e : Entry) → read_entry s ≡ some e → IsText s e
unfolding read_entry
read_is_text s e h = first_written (IsText s) entry_readers s (take_is_text s, (vote_is_text s, tt)) e h

pub reads_exactly : ReadsExactly
reads_exactly s e = (read_is_text s e, every_text_reads s e)

-- ---- the reader's answers

pub distinct : Distinct {A = Entry} {R = Result Entry Unread} Ok (Err Outside) (Err Unreadable)
distinct = record {
  read_same = λ a b h. cc;
  read_outside = λ a h. let z : ◌≡◌ {A = ℕ} 0 1 = cc in omega arith;
  read_unreadable = λ a h. let z : ◌≡◌ {A = ℕ} 0 1 = cc in omega arith;
  outside_unreadable = λ h. let z : ◌≡◌ {A = ℕ} 0 1 = cc in omega arith;
}

-- a text with a number beyond a byte has one outside its limits
pub text_beyond : (n : ℕ) (s : List ℕ) (e : Entry) → IsText s e → beyond e ≡ true → outside n e ≡ true
text_beyond n s e t = beyond_is_outside n t.way e t.has_text

within_bytes : (n : ℕ) (s : List ℕ) (e : Entry) → IsText s e → outside n e ≡ false → beyond e ≡ false
within_bytes n s e t h = go (beyond e) refl
  where
    go : (b : Bool) → beyond e ≡ b → b ≡ false
    go true k = absurd (true≢false (sym (text_beyond n s e t k) ∙ h))
    go false k = refl

pub text_within_limits_read : TextWithinLimitsRead
text_within_limits_read n s e t h = ap reading_of (every_text_reads s e t) ∙ read_by e (within_bytes n s e t h)

pub read_line_is_text : ReadLineIsText
read_line_is_text s e h = read_is_text s e (read_some Ok (Err Outside) (Err Unreadable) beyond distinct (read_entry s) e h)

pub outside_line_is_text : OutsideLineIsText
outside_line_is_text s h =
    let t = outside_some Ok (Err Outside) (Err Unreadable) beyond distinct (read_entry s) h in
    let r = read_is_text s t.0 t.1 in
    (t.0, r, λ n. text_beyond n s t.0 r t.2)

pub unreadable_is_no_text : UnreadableIsNoText
unreadable_is_no_text s h e t =
    some_not e (sym (unreadable_none Ok (Err Outside) (Err Unreadable) beyond distinct (read_entry s) h) ∙ every_text_reads s e t)
