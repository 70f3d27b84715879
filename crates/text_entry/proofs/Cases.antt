-- The texts of an update and of a turn mean what the tables say.
use mathlib.Core.Path.{refl}
use Rattle.text_ascii.specs.Bytes.{ascii, begins}
use Rattle.text_entry.specs.Cases.{Meant, take_cases, turn_take, turn_vote, update_line, update_vote, update_cases, vote_cases}
use Rattle.text_entry.specs.Entry.{read_entry}
use Rattle.text_entry.specs.Read.{after, read_decimal, read_digits, read_fields, read_hex, read_kind, read_value, read_word}
use Rattle.text_entry.specs.Table.{read_first}

pub update_cases_lem : Meant update_line update_vote update_cases
unfolding update_cases read_entry read_first read_kind read_fields after read_value read_decimal read_digits read_hex read_word begins
update_cases_lem =
    (refl, (refl, (refl, (refl, (refl, (refl, (refl, (refl, (refl, (refl, (refl, (refl, (refl, (refl, (refl, (refl, (refl, (refl, (refl, tt)))))))))))))))))))

pub take_cases_lem : Meant ascii turn_take take_cases
unfolding take_cases read_entry read_first read_kind read_fields after read_value read_decimal read_digits read_hex read_word begins
take_cases_lem =
    (refl, (refl, (refl, (refl, (refl, (refl, (refl, (refl, (refl, (refl, (refl, (refl, (refl, (refl, (refl, (refl, (refl, (refl, (refl, tt)))))))))))))))))))

pub vote_cases_lem : Meant ascii turn_vote vote_cases
unfolding vote_cases read_entry read_first read_kind read_fields after read_value read_decimal read_digits read_hex read_word begins
vote_cases_lem = (refl, (refl, (refl, (refl, (refl, (refl, (refl, (refl, (refl, (refl, (refl, (refl, tt))))))))))))
