-- The two meanings of a line agree: `text` writes a step, `read_step` and `reading` read a line.
use Prim.Native.Nat.{ℕ, suc, ◌≤◌, ◌<◌}
use native.Mathlib.Omega.{arith}
use mathlib.Core.Bool.{Bool, true, false, true≢false}
use mathlib.Core.List.{List, [], ◌∷◌, ◌++◌}
use mathlib.Core.Logic.{inl, inr}
use mathlib.Core.Option.{some}
use mathlib.Core.Path.{◌≡◌, refl, sym, ◌∙◌, ap, subst}
use lib.ListN.{length}
use Rattle.text_ascii.specs.Decimal.{byte_numbers}
use Rattle.text_ascii.specs.Hex.{update_digits}
use Rattle.text_ascii.proofs.Words.{clash}
use Rattle.log_entry.specs.declared.Entry.{Entry}
use Rattle.model_steps.specs.declared.Role.{Role}
use Rattle.model_steps.specs.declared.Role.TheVariants.{Acceptor, Coord, Proc}
use Rattle.model_steps.specs.declared.Step.{Step}
use Rattle.model_steps.specs.declared.Step.TheVariants.{Setup, Request, Open, Propose, Deliver, Tell, Restore, Follow, Crash, Back}
use Rattle.model_steps.specs.Limits.{outside_step}
use Rattle.text_entry.specs.Entry as entry
use Rattle.text_entry.specs.Entry.{Known, Way, in_full, turn_in}
use Rattle.text_entry.specs.Fields.{Field, in_hex, line_text}
use Rattle.text_entry.specs.Kinds.{take_with, vote_with}
use Rattle.text_entry.specs.Table.{Reader, at, reader}
use Rattle.text_entry.proofs.LineTexts.{LineIs, WritableAll, line_text_is, one_text_all, written_line}
use Rattle.text_entry.proofs.Table.{At, Distinct, by_fields, elements, first_reads, first_written, names_apart, outside_some, read_some, some_not, unreadable_none}
use Rattle.text_entry.proofs.Takes.{known_take, take_one, take_sound, take_writable, which_take}
use Rattle.text_entry.proofs.TextReads.{SoundAll, apart, clash_all}
use Rattle.text_entry.proofs.Turns.{turn_written}
use Rattle.text_entry.proofs.Votes.{known_vote, vote_back, vote_one, vote_sound, vote_values_lem, vote_writable, which_vote}
use Rattle.std.proofs.Common.{Err, Ok, Result}
use Rattle.text_entry.specs.declared.Unread.{Unread}
use Rattle.text_entry.specs.declared.Unread.TheVariants.{Unreadable, Outside}
use Rattle.text_step.specs.Claims.{IsText, OutsideLineIsText, ReadLineIsText, ReadsExactly, TextReadsBack, TextWithinLimitsRead, UnreadableIsNoText}
use Rattle.text_step.specs.Kinds.{sent_take, sent_take_with, sent_vote, sent_vote_with, setup_kind, open_kind, propose_kind, deliver_kind, tell_kind, restore_kind, follow_kind, crash_kind, back_kind, to}
use Rattle.text_step.specs.Step.{HasText, HasTextIn, back_of, beyond, crash_of, deliver_of, follow_of, open_of, propose_of, read_step, reading_of, restore_of, role_number, role_of, setup_of, step_readers, take_of, tell_of, text, text_in, vote_of}
use Rattle.text_step.proofs.Beyond.{beyond_is_outside}

-- ---- what is written reads back

role_back : (r : Role) → role_of (role_number r) ≡ r
role_back Acceptor = refl
role_back Coord = refl
role_back Proc = refl

role_fits : (r : Role) → role_number r < 3
role_fits Acceptor = omega arith
role_fits Coord = omega arith
role_fits Proc = omega arith

-- values with texts, and one more of a decimal
writable_then : (fs : List Field) (vs : List ℕ) (n : ℕ) → WritableAll fs vs → WritableAll (fs ++ to ∷ []) (vs ++ n ∷ [])
writable_then [] [] n h = (tt, tt)
writable_then [] (v ∷ vs) n h = absurd h
writable_then (f ∷ fs) [] n h = absurd h
writable_then (f ∷ fs) (v ∷ vs) n h = (h.0, writable_then fs vs n h.1)

-- a line that is the text of its values is read as what they make
module _ (i : ℕ) (r : Reader Step) (vs l : List ℕ) (s : Step) where
  text_reads : At step_readers i r → names_apart step_readers i r.kind ≡ true → SoundAll r.kind.fields → WritableAll r.kind.fields vs
      → l ≡ line_text r.kind vs → r.build vs ≡ s → read_step l ≡ some s
  unfolding read_step
  text_reads there apart-before sound writable written made =
      first_reads step_readers i r vs l there apart-before sound (subst (LineIs r.kind vs) (sym written) (written_line r.kind vs writable))
      ∙ ap some made

-- a text in a way that is read
module _ (w : Way) (known : Known w) (l : List ℕ) where
  request_reads : (e : Entry) (n : ℕ) → l ≡ text_in w (Request e n) → entry.HasTextIn w e → read_step l ≡ some (Request e n)
  unfolding text_in read_step names_apart clash clash_all
  request_reads e n t (turn, inl h) =
      let k = sent_take_with (turn_in w.shown) in
      let vs = entry.take_values e ++ n ∷ [] in
      let written : l ≡ line_text k vs = t ∙ ap (λ (x : Entry). text_in w (Request x n)) h in
      let line = written_line k vs (writable_then (take_with (turn_in w.shown)).fields (entry.take_values e) n (take_writable w.shown e turn)) in
      first_reads step_readers 1 (reader sent_take take_of) vs l refl refl (take_sound (to ∷ []) refl (tt, tt)) (known_take (to ∷ []) w.shown vs l (subst (LineIs k vs) (sym written) line))
      ∙ ap (λ (x : Entry). some (Request x n)) (sym h)
  request_reads e n t (turn, inr h) =
      let k = sent_vote_with (turn_in w.shown) (in_hex w.digits) in
      let vs = entry.vote_values e ++ n ∷ [] in
      let written : l ≡ line_text k vs = t ∙ rw h.0 in
      let line = written_line k vs (writable_then (vote_with (turn_in w.shown) (in_hex w.digits)).fields (entry.vote_values e) n (vote_writable w e turn h.1 h.2)) in
      first_reads step_readers 2 (reader sent_vote vote_of) vs l refl refl (vote_sound (to ∷ []) refl (tt, tt)) (known_vote (to ∷ []) vs l w known (subst (LineIs k vs) (sym written) line))
      ∙ ap (λ (x : Entry). some (Request x n)) (vote_back e h.0)

  reads_in : (s : Step) → l ≡ text_in w s → HasTextIn w s → read_step l ≡ some s
  unfolding text_in names_apart clash apart clash_all
  reads_in (Setup n) t h = text_reads 3 (reader setup_kind setup_of) (n ∷ []) l (Setup n) refl refl (tt, tt) (tt, tt) t refl
  reads_in (Request e n) t h = request_reads e n t h
  reads_in (Open c i b) t h = text_reads 4 (reader open_kind open_of) (c ∷ i ∷ b ∷ []) l (Open c i b) refl refl (tt, (tt, (tt, tt))) (tt, (tt, (tt, tt))) t refl
  reads_in (Propose c i b) t h = text_reads 5 (reader propose_kind propose_of) (c ∷ i ∷ b ∷ []) l (Propose c i b) refl refl (tt, (tt, (tt, tt))) (tt, (tt, (tt, tt))) t refl
  reads_in (Deliver m) t h = text_reads 0 (reader deliver_kind deliver_of) (m ∷ []) l (Deliver m) refl refl (tt, tt) (tt, tt) t refl
  reads_in (Tell c p tx) t h = text_reads 6 (reader tell_kind tell_of) (c ∷ p ∷ tx ∷ []) l (Tell c p tx) refl refl (tt, (tt, (tt, tt))) (tt, (tt, (tt, tt))) t refl
  reads_in (Restore c p) t h = text_reads 7 (reader restore_kind restore_of) (c ∷ p ∷ []) l (Restore c p) refl refl (tt, (tt, tt)) (tt, (tt, tt)) t refl
  reads_in (Follow c p tx) t h = text_reads 8 (reader follow_kind follow_of) (c ∷ p ∷ tx ∷ []) l (Follow c p tx) refl refl (tt, (tt, (tt, tt))) (tt, (tt, (tt, tt))) t refl
  reads_in (Crash r id) t h =
      text_reads 10 (reader crash_kind crash_of) (role_number r ∷ id ∷ []) l (Crash r id) refl refl (refl, (tt, tt)) (role_fits r, (tt, tt)) t (ap (λ (x : Role). Crash x id) (role_back r))
  reads_in (Back p turn) t h = text_reads 9 (reader back_kind back_of) (p ∷ turn ∷ []) l (Back p turn) refl refl (tt, (tt, tt)) (tt, (tt, tt)) t refl

every_text_reads : (l : List ℕ) (s : Step) → IsText l s → read_step l ≡ some s
every_text_reads l s t = reads_in t.way t.known l s t.line t.has_text

pub text_reads_back : TextReadsBack
text_reads_back s h = every_text_reads (text s) s (record { way = in_full; known = inl refl; line = refl; has_text = h })

-- ---- what reads was written

-- a kind whose text is that of its values, one by one
module _ (r : Reader Step) (one : one_text_all r.kind.fields ≡ true)
    (written : (vs : List ℕ) → text (r.build vs) ≡ line_text r.kind (elements (length r.kind.fields) 0 vs)) (has : (vs : List ℕ) → HasText (r.build vs)) (l vs : List ℕ) where
  kind_is_text : LineIs r.kind vs l → IsText l (r.build vs)
  kind_is_text h =
      let t = line_text_is r.kind vs l one h in
      record { way = in_full; known = inl refl; line = t.text ∙ ap (line_text r.kind) (by_fields r.kind vs l h) ∙ sym (written vs); has_text = has vs }

module _ (l vs : List ℕ) where
  take_is_text : LineIs sent_take vs l → IsText l (take_of vs)
  unfolding text_in one_text_all
  take_is_text h =
      let t = which_take (to ∷ []) vs l h in
      let k = sent_take_with (turn_in t.0) in
      let r = line_text_is k vs l (take_one (to ∷ []) t.0 refl) t.1 in
      let e = by_fields k vs l t.1 in
      let w = subst (WritableAll k.fields) e r.writable in
      record {
        way = record { shown = t.0; digits = update_digits };
        known = inl refl;
        line = r.text ∙ ap (line_text k) e;
        has_text = (turn_written t.0 _ w.1.0, inl refl);
      }

  vote_is_text : LineIs sent_vote vs l → IsText l (vote_of vs)
  unfolding text_in one_text_all
  vote_is_text h =
      let t = which_vote (to ∷ []) vs l h in
      let k = sent_vote_with (turn_in t.0.shown) (in_hex t.0.digits) in
      let r = line_text_is k vs l (vote_one (to ∷ []) t.0 refl) t.2 in
      let e = by_fields k vs l t.2 in
      let w = subst (WritableAll k.fields) e r.writable in
      record {
        way = t.0;
        known = t.1;
        line = r.text ∙ ap (line_text k) (e ∙ ap (λ (us : List ℕ). us ++ at vs 8 ∷ []) (vote_values_lem vs w.1.1.1.1.1.1.0));
        has_text = (turn_written t.0.shown _ w.1.0, inr (refl, w.1.1.1.1.1.0, w.1.1.1.1.1.1.1.0));
      }

  role_number_lem : (v : ℕ) → v < 3 → v ≡ role_number (role_of v)
  role_number_lem ℕ.zero h = refl
  role_number_lem (suc ℕ.zero) h = refl
  role_number_lem (suc (suc ℕ.zero)) h = refl
  role_number_lem (suc (suc (suc v))) h = absurd (omega arith)

  crash_is_text : LineIs crash_kind vs l → IsText l (crash_of vs)
  unfolding text_in one_text_all
  crash_is_text h =
      let r = line_text_is crash_kind vs l refl h in
      let e = by_fields crash_kind vs l h in
      let w = subst (WritableAll crash_kind.fields) e r.writable in
      record { way = in_full; known = inl refl; line = r.text ∙ ap (line_text crash_kind) (e ∙ ap (λ (v : ℕ). v ∷ at vs 1 ∷ []) (role_number_lem (at vs 0) w.0)); has_text = tt }

read_is_text : (l : List ℕ) (s : Step) → read_step l ≡ some s → IsText l s
unfolding read_step text_in one_text_all
read_is_text l s h =
    first_written (IsText l) step_readers l (
      kind_is_text (reader deliver_kind deliver_of) refl (λ vs. refl) (λ vs. tt) l,
      (
        take_is_text l,
        (
          vote_is_text l,
          (
            kind_is_text (reader setup_kind setup_of) refl (λ vs. refl) (λ vs. tt) l,
            (
              kind_is_text (reader open_kind open_of) refl (λ vs. refl) (λ vs. tt) l,
              (
                kind_is_text (reader propose_kind propose_of) refl (λ vs. refl) (λ vs. tt) l,
                (
                  kind_is_text (reader tell_kind tell_of) refl (λ vs. refl) (λ vs. tt) l,
                  (
                    kind_is_text (reader restore_kind restore_of) refl (λ vs. refl) (λ vs. tt) l,
                    (
                      kind_is_text (reader follow_kind follow_of) refl (λ vs. refl) (λ vs. tt) l,
                      (
                        kind_is_text (reader back_kind back_of) refl (λ vs. refl) (λ vs. tt) l,
                        (crash_is_text l, tt),
                      ),
                    ),
                  ),
                ),
              ),
            ),
          ),
        ),
      ),
    ) s h

pub reads_exactly : ReadsExactly
reads_exactly l s = (read_is_text l s, every_text_reads l s)

-- ---- the reader's answers

pub distinct : Distinct {A = Step} {R = Result Step Unread} Ok (Err Outside) (Err Unreadable)
distinct = record {
  read_same = λ a b h. cc;
  read_outside = λ a h. let z : ◌≡◌ {A = ℕ} 0 1 = cc in omega arith;
  read_unreadable = λ a h. let z : ◌≡◌ {A = ℕ} 0 1 = cc in omega arith;
  outside_unreadable = λ h. let z : ◌≡◌ {A = ℕ} 0 1 = cc in omega arith;
}

-- a text with a number beyond a byte has one outside its limits
pub text_beyond : (n : ℕ) → n ≤ byte_numbers → (l : List ℕ) (s : Step) → IsText l s → beyond s ≡ true → outside_step n s ≡ true
text_beyond n k l s t = beyond_is_outside n k t.way s t.has_text

within_bytes : (n : ℕ) → n ≤ byte_numbers → (l : List ℕ) (s : Step) → IsText l s → outside_step n s ≡ false → beyond s ≡ false
within_bytes n k l s t h = go (beyond s) refl
  where
    go : (b : Bool) → beyond s ≡ b → b ≡ false
    go true m = absurd (true≢false (sym (text_beyond n k l s t m) ∙ h))
    go false m = refl

pub text_within_limits_read : TextWithinLimitsRead
text_within_limits_read n k l s t h = ap reading_of (every_text_reads l s t) ∙ rw (within_bytes n k l s t h)

pub read_line_is_text : ReadLineIsText
read_line_is_text l s h = read_is_text l s (read_some Ok (Err Outside) (Err Unreadable) beyond distinct (read_step l) s h)

pub outside_line_is_text : OutsideLineIsText
outside_line_is_text l h =
    let t = outside_some Ok (Err Outside) (Err Unreadable) beyond distinct (read_step l) h in
    let r = read_is_text l t.0 t.1 in
    (t.0, r, λ n k. text_beyond n k l t.0 r t.2)

pub unreadable_is_no_text : UnreadableIsNoText
unreadable_is_no_text l h s t =
    some_not s (sym (unreadable_none Ok (Err Outside) (Err Unreadable) beyond distinct (read_step l) h) ∙ every_text_reads l s t)
