use mathlib.Core.Path.{sym, ◌∙◌, ap}
use Rattle.text_ascii.specs.Bytes.{ascii}
use Rattle.text_entry.specs.Read.{after, part}
use Rattle.text_entry.specs.Seen.{left}
use Rattle.text_entry.proofs.Parts.{after_both, unread_then}
use Rattle.text_entry.proofs.fields.named.Goals as goal

pub returns-in_err-step : goal.returns-in_err-step
returns-in_err-step c =
    rw c.from_residual.ensures (unread_then (ascii "do=") c.args.name.now (part 0 c.args.line.now) (sym (ap left c.in_err-step.was) ∙ c.after.ensures))

pub returns : goal.returns
returns c =
    c.after-2.ensures
    ∙ ap (after c.args.name.now) (sym (ap left c.in_ok-step.was) ∙ c.after.ensures)
    ∙ after_both (ascii "do=") c.args.name.now (part 0 c.args.line.now)
