use Rattle.text_report.proofs.Lengths.{within_more}
use Rattle.text_report.proofs.byte_fields.Goals as goal

pub returns : goal.returns
returns c = within_more c.byte_field.ensures c.byte_field-2.ensures
