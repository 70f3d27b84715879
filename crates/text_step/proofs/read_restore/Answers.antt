use mathlib.Core.Path.{refl}
use Rattle.std.proofs.lemmas.Result.{err_from_is_err_and}
use Rattle.text_entry.specs.Table.{reader}
use Rattle.text_entry.proofs.DecimalLaws.{decimals_unread}
use Rattle.text_step.specs.Kinds.{restore_kind}
use Rattle.text_step.specs.Step.{beyond, restore_of}
use Rattle.text_step.proofs.read_restore.Goals as goal

pub returns-in_err-coord : goal.returns-in_err-coord
returns-in_err-coord c =
    let p = err_from_is_err_and c.from_residual.result c.from_residual.ensures.1 in
    rw (p.1, p.2) (decimals_unread beyond (reader restore_kind restore_of) (λ vs. refl) c.args.line.now c.decimals.ensures c.in_err-coord.was)
