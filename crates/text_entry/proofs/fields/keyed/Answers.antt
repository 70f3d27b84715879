use mathlib.Core.List.{◌++◌}
use mathlib.Core.Path.{sym, ◌∙◌, ap}
use Rattle.text_ascii.specs.Bytes.{ascii}
use Rattle.text_entry.specs.Read.{after, part}
use Rattle.text_entry.specs.Seen.{left}
use Rattle.text_entry.proofs.Parts.{after_both, unread_then}
use Rattle.text_entry.proofs.fields.keyed.Goals as goal

pub returns-in_err-space : goal.returns-in_err-space
returns-in_err-space c =
    rw c.from_residual.ensures (unread_then (ascii " ") (c.args.key.now ++ ascii "=") (part 0 c.args.rest.now) (sym (ap left c.in_err-space.was) ∙ c.after.ensures))

pub returns-in_err-name : goal.returns-in_err-name
returns-in_err-name c =
    rw c.from_residual-in_err-name.ensures
    (
    unread_then c.args.key.now (ascii "=") (after (ascii " ") (part 0 c.args.rest.now))
    (sym (ap left c.in_err-name.was) ∙ c.after-2.ensures ∙ ap (after c.args.key.now) (sym (ap left c.in_ok-space.was) ∙ c.after.ensures))
    ∙ after_both (ascii " ") (c.args.key.now ++ ascii "=") (part 0 c.args.rest.now)
    )

pub returns : goal.returns
returns c =
    c.after-3.ensures
    ∙ ap (after (ascii "=")) (sym (ap left c.in_ok-name.was) ∙ c.after-2.ensures ∙ ap (after c.args.key.now) (sym (ap left c.in_ok-space.was) ∙ c.after.ensures))
    ∙ after_both c.args.key.now (ascii "=") (after (ascii " ") (part 0 c.args.rest.now))
    ∙ after_both (ascii " ") (c.args.key.now ++ ascii "=") (part 0 c.args.rest.now)
