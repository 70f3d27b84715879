-- A step that is refused 5 where a test applies, and is else accepted: both answers by what the test
-- means.
use mathlib.Core.Path.{◌≡◌, refl, sym, ◌∙◌}
use mathlib.Core.Bool.{Bool, true, false, cond}
use mathlib.Core.Logic.{◌↔◌}
use Rattle.log_entry.specs.Refusal.{accepted, not_met}
use Rattle.log_entry.specs.Number.{Answer}
use Rattle.log_entry.proofs.AnswerLaws.{err_ok}
use Rattle.log_entry.proofs.Tests.{opposed}

pub barred_exactly : {C : Type 0} (b : Bool) (answer : Answer) → answer ≡ cond b not_met accepted → (b ≡ false → C) → (C → b ≡ false)
    → ((answer ≡ accepted) ↔ C) × ((answer ≡ not_met) ↔ (C → ⊥))
barred_exactly true answer is may must =
    ((λ e. absurd (err_ok (sym is ∙ e)), λ c. absurd (opposed refl (must c))), (λ e c. opposed refl (must c), λ n. is))
barred_exactly false answer is may must = ((λ e. may refl, λ c. is), (λ e. absurd (err_ok (sym e ∙ is)), λ n. absurd (n (may refl))))
