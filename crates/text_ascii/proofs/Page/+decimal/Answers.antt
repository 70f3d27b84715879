use mathlib.Core.Path.{sym}
use Rattle.text_ascii.proofs.Decimals.{decimal_small, decimal_large}
use Rattle.text_ascii.proofs.Writing.{puts_more, puts_as}
use Rattle.text_ascii.proofs.Page.+decimal.Goals as goal

pub returns-then-n-lt10 : goal.returns-then-n-lt10
returns-then-n-lt10 t c = puts_as (sym (decimal_small c.args.n c.if-n-lt10.true)) c.byte.ensures

pub returns : goal.returns
returns t c =
    puts_as (sym (decimal_large c.args.n c.if-n-lt10.false)) (puts_more c.decimal.ensures c.byte-2.ensures)
