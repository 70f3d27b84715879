use mathlib.Core.Path.{refl, sym, ◌∙◌, ap}
use Rattle.text_entry.specs.Parts.{whole}
use Rattle.text_entry.specs.Seen.{left, seen}
use Rattle.text_entry.proofs.Fronts.{begun, done, step, stop, unbegun}
use Rattle.text_entry.proofs.Parts.{ends_is}
use Rattle.text_step.specs.Answers.{role_read}
use Rattle.text_step.specs.Kinds.{crash_kind, id, role}
use Rattle.text_step.proofs.crash_party.Goals as goal

pub returns-in_err-rest : goal.returns-in_err-rest
returns-in_err-rest c = rw c.from_residual.ensures (sym (ap whole (unbegun crash_kind _ (sym (ap left c.in_err-rest.was) ∙ c.named.ensures))))

pub returns-in_err-role : goal.returns-in_err-role
returns-in_err-role c = rw c.from_residual-in_err-role.ensures (sym (ap whole (begun crash_kind _ _ (sym (ap left c.in_ok-rest.was) ∙ c.named.ensures) (stop role _ _ (sym (ap role_read c.in_err-role.was) ∙ c.role.ensures)))))

pub returns-in_err-id : goal.returns-in_err-id
returns-in_err-id c = rw c.from_residual-in_err-id.ensures (sym (ap whole (begun crash_kind _ _ (sym (ap left c.in_ok-rest.was) ∙ c.named.ensures) (step role _ _ _ _ (sym (ap role_read c.in_ok-role.was) ∙ c.role.ensures) (stop id _ _ (sym (ap seen c.in_err-id.was) ∙ c.decimal.ensures))))))

pub returns-then-is_empty : goal.returns-then-is_empty
returns-then-is_empty c =
    sym
    (
    ap whole (begun crash_kind _ _ (sym (ap left c.in_ok-rest.was) ∙ c.named.ensures) (step role _ _ _ _ (sym (ap role_read c.in_ok-role.was) ∙ c.role.ensures) (step id _ _ _ _ (sym (ap seen c.in_ok-id.was) ∙ c.decimal.ensures) (done c.in_ok-id.rest.now))))
    ∙ rw (sym (ends_is c.in_ok-id.rest.now), sym c.is_empty.ensures, c.if-is_empty.true) refl
    )

pub returns-else-is_empty : goal.returns-else-is_empty
returns-else-is_empty c =
    sym
    (
    ap whole (begun crash_kind _ _ (sym (ap left c.in_ok-rest.was) ∙ c.named.ensures) (step role _ _ _ _ (sym (ap role_read c.in_ok-role.was) ∙ c.role.ensures) (step id _ _ _ _ (sym (ap seen c.in_ok-id.was) ∙ c.decimal.ensures) (done c.in_ok-id.rest.now))))
    ∙ rw (sym (ends_is c.in_ok-id.rest.now), sym c.is_empty.ensures, c.if-is_empty.false) refl
    )
