use mathlib.Core.Path.{refl}
use Rattle.std.proofs.lemmas.Result.{err_from_is_err_and}
use Rattle.text_entry.specs.Table.{reader}
use Rattle.text_entry.proofs.DecimalLaws.{decimals_read, decimals_unread}
use Rattle.text_step.specs.Kinds.{setup_kind}
use Rattle.text_step.specs.Step.{beyond, setup_of}
use Rattle.text_step.proofs.read_setup.Goals as goal

pub returns-in_err-acceptors : goal.returns-in_err-acceptors
returns-in_err-acceptors c =
    let p = err_from_is_err_and c.from_residual.result c.from_residual.ensures.1 in
    rw (p.1, p.2) (decimals_unread beyond (reader setup_kind setup_of) (λ vs. refl) c.args.line.now c.decimals.ensures c.in_err-acceptors.was)

pub returns : goal.returns
returns c = decimals_read beyond (reader setup_kind setup_of) (λ vs. refl) c.args.line.now c.decimals.ensures c.in_ok-acceptors.was
