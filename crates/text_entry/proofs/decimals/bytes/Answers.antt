use native.Mathlib.Omega.{arith}
use mathlib.Core.Path.{sym, ◌∙◌}
use lib.ListN.{length-set}
use Rattle.std.proofs.lemmas.Result.{err_from_is_err_and}
use Rattle.text_entry.proofs.DecimalLaws.{byte_more, byte_outside, bytes_more}
use Rattle.text_entry.proofs.decimals.bytes.Goals as goal

pub returns-in_err-bytes : goal.returns-in_err-bytes
returns-in_err-bytes g c =
    let p = err_from_is_err_and c.from_residual.result c.from_residual.ensures.1 in
    rw (p.1, p.2) (byte_outside c.args.numbers c.loop-i.i (omega arith) (sym c.byte.ensures ∙ c.in_err-bytes.was))

pub loop-i-preserved : goal.loop-i-preserved
loop-i-preserved g c =
    let h = sym c.byte.ensures ∙ c.in_ok-bytes.was in (
      length-set _ _ _ ∙ c.loop-i.invariant.0,
      bytes_more c.args.numbers c.loop-i.i (omega arith) c.loop-i.bytes h (omega arith) c.loop-i.invariant.1,
      byte_more c.args.numbers c.loop-i.i (omega arith) h c.loop-i.invariant.2,
    )
