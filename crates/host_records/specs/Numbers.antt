-- Document 01, "Hosts in C": an entry as numbers. A call has them, and a record has them as its
-- bytes.
use Rattle.std.specs.Prelude.{ℕ, Bool, ◌||◌, not, cond, eqb, leb, ltb, Result, Ok, Err}
use Rattle.log_entry.specs.declared.Entry.{Entry}
use Rattle.log_entry.specs.declared.Request.{Request}
use Rattle.log_entry.specs.declared.Request.TheVariants.{Take, Vote}
use Rattle.log_entry.specs.declared.refusal.Refusal.{Refusal}
use Rattle.log_entry.specs.declared.refusal.Refusal.TheVariants.{OutsideLimits, Unreadable}
use Rattle.log_entry.specs.Entry.{by_of, is_take, list_of, outside, say_of, says_commit, tx_of, update_in}
use Rattle.log_entry.specs.Limits.{first_turn}
use Rattle.host_records.specs.declared.Numbers.{Numbers}

-- kind: 0 take, 1 vote
abbrev pub take_kind : ℕ
take_kind = 0

abbrev pub vote_kind : ℕ
vote_kind = 1

-- say: 0 abort, 1 commit
abbrev pub abort_say : ℕ
abort_say = 0

abbrev pub commit_say : ℕ
commit_say = 1

-- a byte's values
abbrev pub byte_values : ℕ
byte_values = 256

-- the numbers, in the order of a record
abbrev pub numbers : ℕ → ℕ → ℕ → ℕ → ℕ → ℕ → ℕ → ℕ → ℕ → Numbers
numbers kind process by store tx list say turn update =
    record { kind = kind; process = process; by = by; store = store; tx = tx; list = list; say = say; turn = turn; update = update }

-- the numbers of an entry
abbrev pub numbers_of : Entry → Numbers
numbers_of e =
    numbers (cond (is_take e) take_kind vote_kind) e.process (by_of e) e.store (tx_of e) (list_of e) (cond (says_commit e) commit_say abort_say) e.turn (update_in e)

-- "a host's record carries the turn in its zero byte, 0 meaning 1, in a call too; turn 1 is stored
-- as 1": the turn that such a number stands for
abbrev pub turn_meant : ℕ → ℕ
turn_meant n = cond (eqb n 0) first_turn n

-- what numbers ask for
abbrev pub request_of : Numbers → Request
request_of n = cond (eqb n.kind take_kind) Take (Vote n.by n.tx n.list (say_of (eqb n.say commit_say)) n.update)

-- the entry that numbers stand for
abbrev pub entry_of : Numbers → Entry
entry_of n = record { process = n.process; turn = turn_meant n.turn; store = n.store; request = request_of n }

-- "bytes a take does not use are 0": all but kind, process, store and turn
abbrev pub unused_is_set : Numbers → Bool
unused_is_set n = not (eqb n.by 0) || not (eqb n.tx 0) || not (eqb n.list 0) || not (eqb n.say 0) || not (eqb n.update 0)

-- "A wrong kind or say, or a byte that should be 0 and is not, is 1"
unfoldable pub unreadable : Numbers → Bool
unreadable n =
    cond (eqb n.kind vote_kind)
    (ltb commit_say n.say)
    (not (eqb n.kind take_kind) || unused_is_set n)

-- what numbers or a record read as: an entry, or the refusal
abbrev pub Reading : Type 0
Reading = Result Entry Refusal

-- 1, then 2 by the limit of the log that the entry is for, or the entry
unfoldable pub read_numbers : ℕ → Numbers → Reading
read_numbers limit n =
    cond (unreadable n) (Err Unreadable) (cond (outside limit (entry_of n)) (Err OutsideLimits) (Ok (entry_of n)))

-- a number other than the update is more than a byte holds; every limit is below that
unfoldable pub beyond_byte : Numbers → Bool
beyond_byte n =
    leb byte_values n.process
    || leb byte_values n.by
    || leb byte_values n.store
    || leb byte_values n.tx
    || leb byte_values n.list
    || leb byte_values n.turn
