-- Document 01, "Hosts in C": "the count is tried first, the new entry last, and if accepted it is
-- stored behind the others."
use Rattle.std.specs.Prelude.{ℕ, suc, ◌*◌, cond, not, List, [], ◌∷◌, ltb, length, is_ok}
use Rattle.std.proofs.lemmas.List.Edits.{sets}
use Rattle.log_entry.specs.Number.{Answer, answer_number}
use Rattle.log_entry.specs.Refusal.{Check, check, first_refusal, no_place}
use Rattle.host_records.specs.declared.Numbers.{Numbers}
use Rattle.host_records.specs.Numbers.{entry_of, read_numbers}
use Rattle.host_records.specs.Record.{record_of, record_size}
use Rattle.host_lent.specs.Lent.{enter_reading, lent_log}

-- an answer that refuses is passed on
abbrev pub passing : Answer → Check
passing a = check a (not (is_ok a))

-- the limit, the count and the records, then the new entry, then its place
unfoldable pub added_answer : ℕ → List ℕ → ℕ → Numbers → Answer
added_answer limit bytes count n =
    first_refusal
    (passing (lent_log limit bytes count).answer
    ∷ passing (enter_reading (lent_log limit bytes count).log (read_numbers limit n)).answer
    ∷ check no_place (ltb (length bytes) (suc count * record_size))
    ∷ [])

-- its number, which the host is answered
abbrev pub add_answer : ℕ → List ℕ → ℕ → Numbers → ℕ
add_answer limit bytes count n = answer_number (added_answer limit bytes count n)

-- the lent buffer afterwards: the new record after the others, or all as it was
unfoldable pub add_bytes : ℕ → List ℕ → ℕ → Numbers → List ℕ
add_bytes limit bytes count n =
    cond (is_ok (added_answer limit bytes count n)) (sets bytes (count * record_size) (record_of (entry_of n))) bytes
