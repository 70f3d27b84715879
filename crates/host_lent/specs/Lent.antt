-- Document 01, "Hosts in C": the log after the records that a host lends. Document 02: "In C each
-- call carries the limit, 8 or 3 stores, else 2, tried first."
use Rattle.std.specs.Prelude.{ℕ, zero, suc, ◌*◌, Bool, cond, not, ◌||◌, List, [], ◌∷◌, eqb, ltb, drop, length, take, Ok, Err, is_ok}
use Rattle.log_entry.specs.Limits.{small_stores, stores}
use Rattle.log_entry.specs.Refusal.{accepted, outside_limits}
use Rattle.log_core.specs.declared.Entered.{Entered}
use Rattle.log_core.specs.declared.Log.{Log}
use Rattle.log_core.specs.Enter.{answered, enter}
use Rattle.log_core.specs.Log.{empty_log, opened}
use Rattle.host_records.specs.Numbers.{Reading}
use Rattle.host_records.specs.Record.{read_record, record_size}

-- "A host lends the accepted entries so far, oldest first, and their count."
unfoldable pub records_in : List ℕ → ℕ → List (List ℕ)
records_in bytes zero = []
records_in bytes (suc n) = take record_size bytes ∷ records_in (drop record_size bytes) n

-- what was read goes to the plain log: 1 or 2, or what the log says
unfoldable pub enter_reading : Log → Reading → Entered
enter_reading l (Ok e) = enter l e
enter_reading l (Err r) = answered l (Err r)

-- a record is read by the log's own limit
abbrev pub enter_record : Log → List ℕ → Entered
enter_record l r = enter_reading l (read_record l.stores r)

-- "A lent record which the plain log refuses gives that record's refusal, the first one found"
unfoldable pub log_after : Log → List (List ℕ) → Entered
log_after l [] = answered l accepted
log_after l (r ∷ rs) = cond (is_ok (enter_record l r).answer) (log_after (enter_record l r).log rs) (enter_record l r)

-- the first `count` records of a buffer, entered into the log that was opened with this limit
abbrev pub records_entered : ℕ → List ℕ → ℕ → Entered
records_entered limit bytes count = log_after (opened limit) (records_in bytes count)

-- "8 or 3 stores, else 2"
abbrev pub no_limit : ℕ → Bool
no_limit limit = not (eqb limit stores || eqb limit small_stores)

-- the limit is "tried first", then the count: "a count beyond the buffer 2"
unfoldable pub lent_log : ℕ → List ℕ → ℕ → Entered
lent_log limit bytes count =
    cond (no_limit limit)
    (answered empty_log outside_limits)
    (cond (ltb (length bytes) (count * record_size)) (answered empty_log outside_limits) (records_entered limit bytes count))
