-- An entry to the same log with another limit: it is outside both limits or inside both.
use Rattle.log_entry.specs.Entry.{is_take}
use Prim.Native.Nat.{ℕ}
use mathlib.Core.Path.{◌≡◌, refl, sym, ap, ◌∙◌}
use mathlib.Core.Bool.{Bool, true, false, cond}
use Rattle.std.proofs.Common.{is_ok}
use Rattle.log_entry.specs.declared.Entry.{Entry}
use Rattle.log_entry.specs.Entry.{outside}
use Rattle.log_entry.specs.Limits.{stores}
use Rattle.log_entry.specs.Refusal.{first_refusal}
use Rattle.log_entry.proofs.Theorems.{inside_is_in_full}
use Rattle.log_core.specs.declared.Effect.{Effect}
use Rattle.log_core.specs.declared.Entered.{Entered}
use Rattle.log_core.specs.declared.Log.{Log}
use Rattle.log_core.specs.Decide.{effect_of, parts_of, refusal}
use Rattle.log_core.specs.Enter.{answered, enter, entered, stored}
use Rattle.log_core.specs.Group.{remembered}
use Rattle.log_core.specs.Log.{with_holder, with_limit}
use Rattle.log_core.proofs.EnterLaws.{enter_outside, refusal_of}
use Rattle.log_core.proofs.Limit.{enter_limit}

-- the limit of a choice
in_arms : (n : ℕ) (b : Bool) (x y : Log) → with_limit n (cond b x y) ≡ cond b (with_limit n x) (with_limit n y)
in_arms n true x y = refl
in_arms n false x y = refl

module _ (n : ℕ) (l : Log) (e : Entry) where
  answer_same : outside n e ≡ outside l.stores e → refusal_of (with_limit n l) e ≡ refusal_of l e
  unfolding refusal first_refusal
  answer_same same = rw same

  effect_same : outside n e ≡ outside l.stores e → effect_of (parts_of (with_limit n l) e) e ≡ effect_of (parts_of l e) e
  unfolding effect_of remembered
  effect_same same = rw (answer_same same)

  stored_same : (f : Effect) → stored (with_limit n l) e f ≡ with_limit n (stored l e f)
  unfolding stored
  stored_same f =
      sym (in_arms n (is_take e) _ _
      ∙ ap (λ (m : Log). cond (is_take e) (with_holder (with_limit n l) e.process e.turn e.store) m) (in_arms n f.begins _ _))

  entered_same : (f : Effect) → entered (with_limit n l) e f ≡ answered (with_limit n (entered l e f).log) f.answer
  unfolding entered
  entered_same f =
      ap (λ (m : Log). answered m f.answer)
      (ap (λ (m : Log). cond (is_ok f.answer) m (with_limit n l)) (stored_same f)
      ∙ sym (in_arms n (is_ok f.answer) (stored l e f) l))

  enter_same : outside n e ≡ outside l.stores e → enter (with_limit n l) e ≡ answered (with_limit n (enter l e).log) (enter l e).answer
  unfolding enter entered
  enter_same same = ap (entered (with_limit n l) e) (effect_same same) ∙ entered_same (effect_of (parts_of l e) e)

  -- of a full log
  module _ (full : l.stores ≡ stores) where
    pub inside_same : outside n e ≡ false → enter (with_limit n l) e ≡ answered (with_limit n (enter l e).log) (enter l e).answer
    inside_same h = enter_same (h ∙ sym (ap (λ (m : ℕ). outside m e) full ∙ inside_is_in_full n e h))

    pub full_after : (enter l e).log.stores ≡ stores
    full_after = enter_limit l e ∙ full

-- an entry outside leaves the log as it was
pub outside_same : (n : ℕ) (l : Log) (e : Entry) → l.stores ≡ n → outside n e ≡ true → (enter l e).log ≡ l
outside_same n l e is h =
    ap (λ (x : Entered). x.log) (sym (enter_outside l e (ap (λ (m : ℕ). outside m e) is ∙ h)))
