-- The lines mean what the tables say.
use mathlib.Core.Path.{refl}
use Rattle.text_ascii.specs.Bytes.{begins}
use Rattle.text_entry.specs.Read.{after, read_decimal, read_digits, read_fields, read_hex, read_kind, read_value, read_word}
use Rattle.text_entry.specs.Table.{read_first}
use Rattle.text_step.specs.Cases.{Meant, back_cases, request_cases}
use Rattle.text_step.specs.Step.{read_step}

pub back_cases_lem : Meant back_cases
unfolding back_cases read_step read_first read_kind read_fields after read_value read_decimal read_digits read_hex read_word begins
back_cases_lem = (refl, (refl, (refl, (refl, (refl, (refl, (refl, (refl, (refl, (refl, (refl, tt)))))))))))

pub request_cases_lem : Meant request_cases
unfolding request_cases read_step read_first read_kind read_fields after read_value read_decimal read_digits read_hex read_word begins
request_cases_lem = (refl, (refl, (refl, (refl, (refl, (refl, (refl, (refl, (refl, tt)))))))))
