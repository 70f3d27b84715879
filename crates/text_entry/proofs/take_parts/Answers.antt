use mathlib.Core.Path.{sym, ◌∙◌, ap}
use Rattle.text_entry.specs.Kinds.{proc, store, take_kind, turn, turn_presence}
use Rattle.text_entry.specs.Parts.{made_parts, take_parts}
use Rattle.text_entry.specs.Seen.{left, seen}
use Rattle.text_entry.proofs.Fronts.{begun, done, step, stop, unbegun}
use Rattle.text_entry.proofs.take_parts.Goals as goal

pub returns-in_err-rest : goal.returns-in_err-rest
returns-in_err-rest c = rw c.from_residual.ensures (sym (ap (made_parts take_parts) (unbegun take_kind _ (sym (ap left c.in_err-rest.was) ∙ c.named.ensures))))

pub returns-in_err-process : goal.returns-in_err-process
returns-in_err-process c = rw c.from_residual-in_err-process.ensures (sym (ap (made_parts take_parts) (begun take_kind _ _ (sym (ap left c.in_ok-rest.was) ∙ c.named.ensures) (stop proc _ _ (sym (ap seen c.in_err-process.was) ∙ c.decimal.ensures)))))

pub returns-in_err-turn : goal.returns-in_err-turn
returns-in_err-turn c = rw c.from_residual-in_err-turn.ensures (sym (ap (made_parts take_parts) (begun take_kind _ _ (sym (ap left c.in_ok-rest.was) ∙ c.named.ensures) (step proc _ _ _ _ (sym (ap seen c.in_ok-process.was) ∙ c.decimal.ensures) (stop (turn turn_presence) _ _ (sym (ap seen c.in_err-turn.was) ∙ c.turned.ensures))))))

pub returns-in_err-store : goal.returns-in_err-store
returns-in_err-store c = rw c.from_residual-in_err-store.ensures (sym (ap (made_parts take_parts) (begun take_kind _ _ (sym (ap left c.in_ok-rest.was) ∙ c.named.ensures) (step proc _ _ _ _ (sym (ap seen c.in_ok-process.was) ∙ c.decimal.ensures) (step (turn turn_presence) _ _ _ _ (sym (ap seen c.in_ok-turn.was) ∙ c.turned.ensures) (stop store _ _ (sym (ap seen c.in_err-store.was) ∙ c.decimal-2.ensures)))))))

pub returns : goal.returns
returns c = sym (ap (made_parts take_parts) (begun take_kind _ _ (sym (ap left c.in_ok-rest.was) ∙ c.named.ensures) (step proc _ _ _ _ (sym (ap seen c.in_ok-process.was) ∙ c.decimal.ensures) (step (turn turn_presence) _ _ _ _ (sym (ap seen c.in_ok-turn.was) ∙ c.turned.ensures) (step store _ _ _ _ (sym (ap seen c.in_ok-store.was) ∙ c.decimal-2.ensures) (done c.in_ok-store.rest.now))))))
