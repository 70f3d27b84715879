-- The last parts of a call, for the contracts of the functions that do them; `specs/Add.antt` and
-- `specs/Query.antt` say the whole.
use Rattle.std.specs.Prelude.{ℕ, suc, ◌*◌, cond, List, [], ◌∷◌, ltb, length, is_ok}
use Rattle.std.proofs.lemmas.List.Edits.{sets}
use Rattle.log_entry.specs.declared.Entry.{Entry}
use Rattle.log_entry.specs.Number.{Answer}
use Rattle.log_entry.specs.Refusal.{accepted, check, first_refusal, no_place}
use Rattle.log_core.specs.declared.Log.{Log}
use Rattle.log_core.specs.Enter.{enter}
use Rattle.host_records.specs.Record.{record_of, record_size}
use Rattle.release_log.specs.Add.{passing}

-- the answer to an entry for the log l after `count` records: what the log says, then its place
unfoldable pub entry_answer : List ℕ → ℕ → Log → Entry → Answer
entry_answer bytes count l e =
    first_refusal
    (passing (enter l e).answer
    ∷ check no_place (ltb (length bytes) (suc count * record_size))
    ∷ [])

unfoldable pub entry_bytes : List ℕ → ℕ → Log → Entry → List ℕ
entry_bytes bytes count l e =
    cond (is_ok (entry_answer bytes count l e)) (sets bytes (count * record_size) (record_of e)) bytes

-- the answer to a query that has a value: its place
unfoldable pub place_answer : List ℕ → List ℕ → Answer
place_answer value out = cond (ltb (length out) (length value)) no_place accepted

unfoldable pub place_bytes : List ℕ → List ℕ → List ℕ
place_bytes value out = cond (ltb (length out) (length value)) out (sets out 0 value)
