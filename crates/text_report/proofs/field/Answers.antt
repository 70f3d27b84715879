use Rattle.text_ascii.proofs.Writing.{puts_more}
use Rattle.text_report.proofs.field.Goals as goal

pub returns : goal.returns
returns c = puts_more c.word.ensures c.decimal.ensures
