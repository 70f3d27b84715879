use mathlib.Core.Path.{sym, ◌∙◌}
use Rattle.std.proofs.lemmas.Result.{err_from_is_err_and}
use Rattle.text_step.proofs.Readings.{a_crash, crash_of_byte, crash_unread, no_crash}
use Rattle.text_step.proofs.read_crash.Goals as goal

pub returns-in_default : goal.returns-in_default
returns-in_default c = no_crash c.args.line.now c.crash_party.result c.crash_party.ensures c.in_default.is

pub returns-in_err-byte : goal.returns-in_err-byte
returns-in_err-byte c =
    let p = err_from_is_err_and c.from_residual.result c.from_residual.ensures.1 in
    rw (p.1, p.2)
    (
    crash_unread c.in-Some.role c.in-Some.id (sym c.byte.ensures ∙ c.in_err-byte.was)
    ∙ a_crash c.args.line.now c.crash_party.result c.crash_party.ensures c.in-Some.role c.in-Some.id c.in-Some.is
    )

pub returns : goal.returns
returns c =
    crash_of_byte c.in-Some.role c.in-Some.id (sym c.byte.ensures ∙ c.in_ok-byte.was)
    ∙ a_crash c.args.line.now c.crash_party.result c.crash_party.ensures c.in-Some.role c.in-Some.id c.in-Some.is
