-- The lines of the list: none has an LF in it, none is too long, and each reads as its step.
use Prim.Native.Nat.{ℕ, suc, ◌/◌, ◌%◌, ◌≤◌, ◌<◌}
use native.Mathlib.Omega.{arith}
use mathlib.Core.Bool.{Bool, true, false, ◌||◌, cond, not}
use mathlib.Core.List.{List, [], ◌∷◌, ◌++◌}
use mathlib.Core.Logic.{inl}
use mathlib.Core.Path.{◌≡◌, refl, sym, ◌∙◌}
use borrow.Author.Tests.{leb-false, ltb-false, ne_eqb}
use lib.Dec.{eqb, leb, ltb}
use lib.ListN.{length, length-append}
use Rattle.log_entry.proofs.AnswerLaws.{err_ok}
use Rattle.log_entry.specs.Refusal.{accepted, first_refusal}
use Rattle.log_entry.proofs.Tests.{and_left, and_right, both, neither_left, neither_right}
use Rattle.model_protocol.specs.declared.World.{World}
use Rattle.model_protocol.specs.Step.{acceptors_counted, parts_of, step_of, step_refusal}
use Rattle.model_protocol.proofs.Unchanged.{answer_is_refusal}
use Rattle.model_steps.specs.declared.Step.{Step}
use Rattle.model_steps.specs.declared.Step.TheVariants.{Setup, Request, Open, Propose, Deliver, Tell, Restore, Follow, Crash, Back}
use Rattle.model_steps.specs.Limits.{ballots, coordinators, instances, messages, no_ballot, no_coordinator, outside_step}
use Rattle.text_ascii.specs.Decimal.{byte_numbers, decimal, decimal_within, digit}
use Rattle.text_entry.specs.Entry.{in_full}
use Rattle.text_entry.specs.Fields.{fields_text, line_text, value_text}
use Rattle.text_lines.specs.Lines.{lf, max_line_bytes}
use Rattle.text_report.proofs.Lengths.{byte_length}
use Rattle.std.specs.Prelude.{Ok}
use Rattle.text_step.specs.Claims.{IsText}
use Rattle.text_step.specs.Step.{reading, text, text_in}
use Rattle.text_step.proofs.Agreement.{text_within_limits_read}
use Rattle.world_run.specs.Claims.{FewCount}
use Rattle.finish_run.proofs.FileLines.{no_lf_lem}

-- ---- no LF

no_lf_append : (s t : List ℕ) → no_lf_lem s ≡ true → no_lf_lem t ≡ true → no_lf_lem (s ++ t) ≡ true
unfolding no_lf_lem
no_lf_append [] t h g = g
no_lf_append (c ∷ s) t h g =
    both (not (eqb c lf)) (no_lf_lem (s ++ t)) (and_left (not (eqb c lf)) (no_lf_lem s) h) (no_lf_append s t (and_right (not (eqb c lf)) (no_lf_lem s) h) g)

digit_no_lf : (d : ℕ) → no_lf_lem (digit d ∷ []) ≡ true
unfolding no_lf_lem
digit_no_lf d = rw (ne_eqb (digit d) lf (λ e. omega arith))

within_no_lf : (k n : ℕ) → no_lf_lem (decimal_within k n) ≡ true
unfolding decimal_within no_lf_lem
within_no_lf ℕ.zero n = refl
within_no_lf (suc k) n = go (ltb n 10) (within_no_lf k (n / 10))
  where
    go : (t : Bool) → no_lf_lem (decimal_within k (n / 10)) ≡ true → no_lf_lem (cond t (digit n ∷ []) (decimal_within k (n / 10) ++ digit (n % 10) ∷ [])) ≡ true
    go true h = digit_no_lf n
    go false h = no_lf_append (decimal_within k (n / 10)) (digit (n % 10) ∷ []) h (digit_no_lf (n % 10))

decimal_no_lf : (n : ℕ) (rest : List ℕ) → no_lf_lem rest ≡ true → no_lf_lem (decimal n ++ rest) ≡ true
unfolding decimal
decimal_no_lf n rest h = no_lf_append (decimal_within (suc n) n) rest (within_no_lf (suc n) n) h

-- ---- a step of a ballot, and a delivery

-- the steps that a list has
abbrev pub OfList : Step → Type 0
OfList (Setup n) = ⊥
OfList (Request e to) = ⊥
OfList (Open c i b) = Unit {0}
OfList (Propose c i b) = Unit {0}
OfList (Deliver m) = Unit {0}
OfList (Tell c p tx) = ⊥
OfList (Restore c p) = ⊥
OfList (Follow c p tx) = ⊥
OfList (Crash r id) = ⊥
OfList (Back p t) = ⊥

round_inside : (c i b : ℕ) → (no_coordinator c || leb instances i || no_ballot b) ≡ false → (c < byte_numbers) × (i < byte_numbers) × (b < byte_numbers)
round_inside c i b h =
    let first : (no_coordinator c || leb instances i) ≡ false = neither_left (no_coordinator c || leb instances i) (no_ballot b) h in
    let last : no_ballot b ≡ false = neither_right (no_coordinator c || leb instances i) (no_ballot b) h in (
      omega (arith, leb-false coordinators c (neither_left (no_coordinator c) (leb instances i) first)),
      omega (arith, leb-false instances i (neither_right (no_coordinator c) (leb instances i) first)),
      omega (arith, ltb-false ballots b (neither_right (eqb b 0) (ltb ballots b) last)),
    )

-- the line of a step reads as the step
pub record ReadsAsStep (s : Step) : Type 0 where
  pub no_lf : no_lf_lem (text s) ≡ true
  pub short : length (text s) ≤ max_line_bytes
  pub reads : reading (text s) ≡ Ok s

text_no_lf : (s : Step) → OfList s → no_lf_lem (text s) ≡ true
unfolding text_in line_text fields_text value_text no_lf_lem
text_no_lf (Setup n) o = absurd o
text_no_lf (Request e to) o = absurd o
text_no_lf (Open c i b) o = decimal_no_lf c _ (decimal_no_lf i _ (decimal_no_lf b _ refl))
text_no_lf (Propose c i b) o = decimal_no_lf c _ (decimal_no_lf i _ (decimal_no_lf b _ refl))
text_no_lf (Deliver m) o = decimal_no_lf m _ refl
text_no_lf (Tell c p tx) o = absurd o
text_no_lf (Restore c p) o = absurd o
text_no_lf (Follow c p tx) o = absurd o
text_no_lf (Crash r id) o = absurd o
text_no_lf (Back p t) o = absurd o

text_short : (n : ℕ) (s : Step) → OfList s → outside_step n s ≡ false → length (text s) ≤ max_line_bytes
unfolding text_in line_text fields_text value_text outside_step
text_short n (Setup k) o h = absurd o
text_short n (Request e to) o h = absurd o
text_short n (Open c i b) o h =
    let r = round_inside c i b h in
    simp length-append (omega (arith, byte_length c r.0, byte_length i r.1, byte_length b r.2))
text_short n (Propose c i b) o h =
    let r = round_inside c i b h in
    simp length-append (omega (arith, byte_length c r.0, byte_length i r.1, byte_length b r.2))
text_short n (Deliver m) o h =
    let l : m < messages = leb-false messages m h in
    simp length-append (omega (arith, byte_length m (omega arith)))
text_short n (Tell c p tx) o h = absurd o
text_short n (Restore c p) o h = absurd o
text_short n (Follow c p tx) o h = absurd o
text_short n (Crash r id) o h = absurd o
text_short n (Back p t) o h = absurd o

its_text : (s : Step) → OfList s → IsText (text s) s
its_text (Setup n) o = absurd o
its_text (Request e to) o = absurd o
its_text (Open c i b) o = record { way = in_full; known = inl refl; line = refl; has_text = tt }
its_text (Propose c i b) o = record { way = in_full; known = inl refl; line = refl; has_text = tt }
its_text (Deliver m) o = record { way = in_full; known = inl refl; line = refl; has_text = tt }
its_text (Tell c p tx) o = absurd o
its_text (Restore c p) o = absurd o
its_text (Follow c p tx) o = absurd o
its_text (Crash r id) o = absurd o
its_text (Back p t) o = absurd o

-- a step that is accepted is within its limits
inside : (w : World) (s : Step) → (step_of w s).answer ≡ accepted → outside_step (acceptors_counted w.acceptors) s ≡ false
unfolding step_refusal first_refusal
inside w s h = go (outside_step (acceptors_counted w.acceptors) s) refl (sym (answer_is_refusal w s) ∙ h)
  where
    go : (t : Bool) → outside_step (acceptors_counted w.acceptors) s ≡ t → step_refusal (parts_of w s) s ≡ accepted → t ≡ false
    go true e k = absurd (err_ok (rw e at k))
    go false e k = refl

pub reads_as_step : (w : World) (s : Step) → FewCount w → OfList s → (step_of w s).answer ≡ accepted → ReadsAsStep s
reads_as_step w s few o h =
    let n = acceptors_counted w.acceptors in
    record {
      no_lf = text_no_lf s o;
      short = text_short n s o (inside w s h);
      reads = text_within_limits_read n few (text s) s (its_text s o) (inside w s h);
    }
