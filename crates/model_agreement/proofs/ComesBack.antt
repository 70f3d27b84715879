-- A process comes back exactly if its turn is a later one, and then it is as in a fresh world. What
-- it sends in another turn is refused.
use Prim.Native.Nat.{ℕ, ◌%◌, ◌≤◌}
use mathlib.Core.Path.{◌≡◌, refl, sym, ap, ◌∙◌}
use mathlib.Core.Bool.{Bool, true, false, ◌||◌, not, cond}
use mathlib.Core.List.{List, [], ◌∷◌}
use mathlib.Core.Logic.{◌↔◌, ◌⊎◌, inl, inr}
use native.Mathlib.Nat.{mod-eq_of_lt}
use native.Mathlib.Omega.{arith}
use borrow.Author.Tests.{eqb-false, lt-leb, leb-false, ne_eqb}
use lib.Dec.{eqb, leb}
use Rattle.log_entry.specs.Entry.{no_process, no_turn, outside}
use Rattle.log_entry.specs.Limits.{process_places, processes, stores}
use Rattle.log_entry.specs.Number.{Answer}
use Rattle.log_entry.specs.Refusal.{accepted, check, first_refusal, ill_formed_vote, no_place, not_met, outside_limits, party_down}
use Rattle.log_entry.proofs.AnswerLaws.{err_ok}
use Rattle.log_entry.proofs.InsideLaws.{inside_process, process_inside}
use Rattle.log_entry.proofs.Tests.{neither, neither_left, neither_right, opposed, or_left, or_right}
use Rattle.model_steps.specs.declared.Step.{Step}
use Rattle.model_steps.specs.declared.Step.TheVariants.{Back, Request}
use Rattle.model_steps.specs.Limits.{no_coordinator, outside_step}
use Rattle.model_protocol.specs.declared.Process.{Process}
use Rattle.model_protocol.specs.declared.World.{World}
use Rattle.model_protocol.specs.Places.{places_of}
use Rattle.model_protocol.specs.Step.{other_turn, run, step_checks, step_of, step_refusal, voter_not_holder}
use Rattle.model_protocol.specs.World.{fresh_world, process_of}
use Rattle.model_protocol.proofs.Unchanged.{answer_is_refusal, starts_anew_lem}
use Rattle.model_agreement.specs.ComesBack.{BackAnswers, BackRefusedExactly, ComesBackAnew, MayComeBack, OtherTurnRefused, outside_back}
use Rattle.model_agreement.specs.History.{acceptors, history, turn_now}
use Rattle.model_agreement.proofs.AllInvariants.{good}
use Rattle.model_agreement.proofs.Barred.{barred_exactly}
use Rattle.model_agreement.proofs.Shape.{Shape}
use Rattle.model_agreement.proofs.Theorem.{demand_3}

process_place : (p : ℕ) → p ≤ processes → p % process_places ≡ p
process_place p h = mod-eq_of_lt (omega arith)

-- ---- the answer to a `back`

module _ (w : World) (p t : ℕ) where
  -- the tests of the step
  abbrev barred : Bool
  barred = eqb w.acceptors 0 || leb t (process_of w p).turn

  answer_outside : outside_back p t ≡ true → (step_of w (Back p t)).answer ≡ outside_limits
  unfolding step_refusal first_refusal outside_step
  answer_outside out = answer_is_refusal w (Back p t) ∙ rw out

  answer_within : outside_back p t ≡ false → (step_of w (Back p t)).answer ≡ cond barred not_met accepted
  unfolding step_refusal step_checks first_refusal outside_step places_of
  answer_within within =
      answer_is_refusal w (Back p t)
      ∙ rw within
      (ap (λ (k : ℕ). cond (eqb w.acceptors 0 || leb t (process_of w k).turn) not_met accepted)
      (process_place p (process_inside p (neither_left (no_process p) (no_turn t) within)).1))

-- and by the history
module _ (steps : List Step) (p t : ℕ) where
  abbrev w : World
  w = run fresh_world steps

  number : acceptors (history steps) ≡ w.acceptors
  number = (good steps).number

  present : (process_of w p).turn ≡ turn_now p (history steps)
  present = (demand_3 steps).present_turn p

  may : barred w p t ≡ false → MayComeBack (history steps) p t
  may e =
      let none = eqb-false w.acceptors 0 (neither_left (eqb w.acceptors 0) _ e) in
      (λ z. none (sym number ∙ z), omega (arith, present, leb-false t (process_of w p).turn (neither_right (eqb w.acceptors 0) _ e)))

  not_barred : MayComeBack (history steps) p t → barred w p t ≡ false
  not_barred m =
      neither (eqb w.acceptors 0) _ (ne_eqb w.acceptors 0 (λ z. m.0 (number ∙ z)))
      (lt-leb t (process_of w p).turn (omega (arith, present, m.1)))

  answer_is : outside_back p t ≡ false
      → (((step_of w (Back p t)).answer ≡ accepted) ↔ MayComeBack (history steps) p t)
      × (((step_of w (Back p t)).answer ≡ not_met) ↔ (MayComeBack (history steps) p t → ⊥))
  answer_is within = barred_exactly (barred w p t) _ (answer_within w p t within) may not_barred

pub back_refused_exactly : BackRefusedExactly
back_refused_exactly steps p t = go (outside_back p t) refl
  where
    w' : World
    w' = run fresh_world steps

    five_or_none : {a : Answer} (b : Bool) → a ≡ cond b not_met accepted → (a ≡ not_met) ⊎ (a ≡ accepted)
    five_or_none true is = inl is
    five_or_none false is = inr is

    two_not_5 : outside_limits ≡ not_met → ⊥
    two_not_5 e = grind arith

    not_2 : (b : Bool) → cond b not_met accepted ≡ outside_limits → ⊥
    not_2 true e = two_not_5 (sym e)
    not_2 false e = err_ok (sym e)

    go : (out : Bool) → outside_back p t ≡ out → BackAnswers (run fresh_world steps) (history steps) p t
    go true out =
        let is = answer_outside w' p t out in
        record {
          no_other = inl is;
          is_2 = (λ e. out, λ e. is);
          is_5 = (λ e. absurd (two_not_5 (sym is ∙ e)), λ c. absurd (opposed out c.0));
          is_0 = (λ e. absurd (err_ok (sym is ∙ e)), λ c. absurd (opposed out c.0));
        }
    go false within =
        let r = answer_is steps p t within in
        record {
          no_other = inr (five_or_none (barred w' p t) (answer_within w' p t within));
          is_2 = (λ e. absurd (not_2 (barred w' p t) (sym (answer_within w' p t within) ∙ e)), λ e. absurd (opposed e within));
          is_5 = (λ e. (within, r.1.0 e), λ c. r.1.1 c.1);
          is_0 = (λ e. (within, r.0.0 e), λ c. r.0.1 c.1);
        }

pub comes_back_anew : ComesBackAnew
comes_back_anew steps p t ok = starts_anew_lem (run fresh_world steps) p t (record { processes = s.process_row; restored = s.restored_row; follows = s.follows_row }) ok
  where
    s : Shape (run fresh_world steps)
    s = (good steps).shape

-- ---- a take or vote of another turn

refused_5 : (outside down down' barred lacks ill : Bool) → outside ≡ false → down ≡ false → down' ≡ false → barred ≡ true
    → first_refusal
    (check outside_limits outside
    ∷ check party_down (down || down')
    ∷ check not_met barred
    ∷ check no_place lacks
    ∷ check ill_formed_vote ill
    ∷ [])
    ≡ not_met
unfolding first_refusal
refused_5 outside down down' barred lacks ill a b c d = rw (a, b, c, d)

pub other_turn_refused : OtherTurnRefused
unfolding step_refusal step_checks outside_step places_of
other_turn_refused steps e to s another =
    answer_is_refusal w' (Request e to)
    ∙ refused_5 _ _ _ _ _ _ s.within s.process_up s.coordinator_up
    (or_left (not_set || other_turn e sender) (voter_not_holder e sender) (or_right not_set (other_turn e sender) (ap not (ne_eqb e.turn sender.turn differs))))
  where
    w' : World
    w' = run fresh_world steps

    not_set : Bool
    not_set = eqb w'.acceptors 0

    sender : Process
    sender = process_of w' (e.process % process_places)

    place : e.process % process_places ≡ e.process
    place = process_place e.process (inside_process stores e (neither_left (outside stores e) (no_coordinator to) s.within)).1

    differs : e.turn ≡ sender.turn → ⊥
    differs same = another (sym ((demand_3 steps).present_turn e.process) ∙ ap (λ (k : ℕ). (process_of w' k).turn) (sym place) ∙ sym same)
