-- What each answer says of a line: which lines are answered 1, which 2, and that all others are
-- texts of steps within the limits.
use Prim.Native.Nat.{ℕ, ◌≤◌}
use native.Mathlib.Omega.{arith}
use mathlib.Core.Bool.{Bool, true, false, cond}
use mathlib.Core.List.{List}
use mathlib.Core.Option.{Option}
use mathlib.Core.Path.{◌≡◌, refl, sym, ◌∙◌, ap}
use lib.Dec.{eqb, ltb}
use lib.ListN.{length}
use borrow.Author.Tests.{le-ltb, lt-ltb}
use Rattle.log_entry.proofs.AnswerLaws.{err_ok}
use Rattle.log_entry.specs.Refusal.{first_refusal, outside_limits, unreadable}
use Rattle.model_agreement.proofs.Limits.{in_bounds}
use Rattle.world_engine.specs.Commands.{carried_out}
use Rattle.text_lines.specs.Lines.{max_line_bytes}
use Rattle.log_laws.proofs.Answers.{fresh, not_given}
use Rattle.model_protocol.specs.declared.Parts.{Parts}
use Rattle.model_protocol.specs.declared.World.{World}
use Rattle.model_protocol.specs.Step.{acceptors_counted, answered, parts_of, run, step_checks, step_of, step_refusal}
use Rattle.model_protocol.specs.World.{fresh_world}
use Rattle.model_protocol.proofs.Unchanged.{answer_is_refusal}
use Rattle.model_steps.specs.declared.Step.{Step}
use Rattle.model_steps.specs.declared.Step.TheVariants.{Setup, Request, Open, Propose, Deliver, Tell, Restore, Follow, Crash, Back}
use Rattle.model_steps.specs.Limits.{most_acceptors, outside_step}
use Rattle.text_ascii.specs.Decimal.{byte_numbers}
use Rattle.text_entry.specs.declared.Unread.{Unread}
use Rattle.text_entry.specs.declared.Unread.TheVariants.{Outside, Unreadable}
use Rattle.std.specs.Prelude.{Result, Ok, Err}
use Rattle.log_entry.specs.declared.refusal.Refusal.TheVariants as refused
use Rattle.text_step.specs.Claims.{IsText}
use Rattle.text_step.specs.Step.{beyond, reading, reading_of}
use Rattle.text_step.proofs.Agreement.{outside_line_is_text, read_line_is_text, reads_exactly, text_beyond}
use Rattle.world_input.specs.Commands.{command_of, command_to, refusing}
use Rattle.world_run.specs.Claims.{Answered2IsOutside, FewCount, FewCounted, LongLineIsUnreadable, OtherLineIsUnreadable, TextIsTaken, TextOutsideLimits, line_taken}

short_line : (w : World) (line : List ℕ) → length line ≤ max_line_bytes → line_taken w line ≡ carried_out w (command_to (reading line))
unfolding command_of
short_line w line h = rw (le-ltb max_line_bytes (length line) h)

outside_refused : (w : World) (s : Step) → outside_step (acceptors_counted w.acceptors) s ≡ true → step_of w s ≡ answered w outside_limits
unfolding step_of step_refusal first_refusal
outside_refused w s h = rw h

pub few_counted : FewCounted
few_counted steps = go (eqb (run fresh_world steps).acceptors 0)
  where
    go : (b : Bool) → cond b most_acceptors (run fresh_world steps).acceptors ≤ byte_numbers
    go true = omega arith
    go false = omega (arith, (in_bounds steps).acceptors)

taken : (w : World) → FewCount w → (line : List ℕ) (s : Step) → IsText line s → (b : Bool) → beyond s ≡ b → carried_out w (command_to (cond b (Err Outside) (Ok s))) ≡ step_of w s
taken w few line s t true h = sym (outside_refused w s (text_beyond (acceptors_counted w.acceptors) few line s t h))
taken w few line s t false h = refl

pub text_is_taken : TextIsTaken
text_is_taken w few line s t h =
    short_line w line h
    ∙ ap (λ (o : Option Step). carried_out w (command_to (reading_of o))) ((reads_exactly line s).1 t)
    ∙ taken w few line s t (beyond s) refl

pub text_outside_limits : TextOutsideLimits
text_outside_limits w few line s t h o = text_is_taken w few line s t h ∙ outside_refused w s o

pub long_line_is_unreadable : LongLineIsUnreadable
unfolding command_of
long_line_is_unreadable w line h = rw (lt-ltb max_line_bytes (length line) h)

pub other_line_is_unreadable : OtherLineIsUnreadable
unfolding command_of
other_line_is_unreadable w line h = go (ltb max_line_bytes (length line)) (reading line) refl
  where
    go : (b : Bool) (r : Result Step Unread) → reading line ≡ r → carried_out w (cond b (refusing refused.Unreadable) (command_to r)) ≡ answered w unreadable
    go true r k = refl
    go false (Ok s) k = absurd (h s (read_line_is_text line s k))
    go false (Err Outside) k = let t = outside_line_is_text line k in absurd (h t.0 t.1)
    go false (Err Unreadable) k = refl

-- ---- no other refusal of a step has the number 2

none_is_2 : (p : Parts) (s : Step) → fresh outside_limits (step_checks p s) ≡ true
unfolding step_checks
none_is_2 p (Setup n) = refl
none_is_2 p (Request e to) = refl
none_is_2 p (Open c i b) = refl
none_is_2 p (Propose c i b) = refl
none_is_2 p (Deliver m) = refl
none_is_2 p (Tell c q tx) = refl
none_is_2 p (Restore c q) = refl
none_is_2 p (Follow c q tx) = refl
none_is_2 p (Crash role id) = refl
none_is_2 p (Back q t) = refl

refused_2 : (p : Parts) (s : Step) → step_refusal p s ≡ outside_limits → outside_step (acceptors_counted p.acceptors) s ≡ true
unfolding step_refusal first_refusal
refused_2 p s h = go (outside_step (acceptors_counted p.acceptors) s) h
  where
    go : (b : Bool) → cond b outside_limits (first_refusal (step_checks p s)) ≡ outside_limits → b ≡ true
    go true k = refl
    go false k = absurd (not_given outside_limits (step_checks p s) err_ok (none_is_2 p s) k)

pub answered_2_is_outside : Answered2IsOutside
unfolding command_of
answered_2_is_outside w few line h = go (ltb max_line_bytes (length line)) (reading line) refl h
  where
    go : (b : Bool) (r : Result Step Unread) → reading line ≡ r → (carried_out w (cond b (refusing refused.Unreadable) (command_to r))).answer ≡ outside_limits
        → (s : Step) × IsText line s × (outside_step (acceptors_counted w.acceptors) s ≡ true)
    go true r k h = absurd (grind (arith, h))
    go false (Ok s) k h = (s, read_line_is_text line s k, refused_2 (parts_of w s) s (sym (answer_is_refusal w s) ∙ h))
    go false (Err Outside) k h = let t = outside_line_is_text line k in (t.0, t.1, t.2 (acceptors_counted w.acceptors) few)
    go false (Err Unreadable) k h = absurd (grind (arith, h))
