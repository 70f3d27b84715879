-- "Each entry takes the log and hands back the log after it, with an answer, 0 if accepted."
use Rattle.log_entry.specs.Entry.{is_take, tx_of}
use Rattle.std.specs.Prelude.{ℕ, cond, List, [], ◌∷◌, is_ok}
use Rattle.log_entry.specs.declared.Entry.{Entry}
use Rattle.log_entry.specs.Number.{Answer, answer_number}
use Rattle.log_votes.specs.declared.Row.{Row}
use Rattle.log_votes.specs.Row.{in_group, keeping}
use Rattle.log_core.specs.declared.Effect.{Effect}
use Rattle.log_core.specs.declared.Entered.{Entered}
use Rattle.log_core.specs.declared.Log.{Log}
use Rattle.log_core.specs.Decide.{effect_of, parts_of}
use Rattle.log_core.specs.Group.{running_set}
use Rattle.log_core.specs.Log.{row_of, with_group, with_holder, with_row}

abbrev pub answered : Log → Answer → Entered
answered l a = record { log = l; answer = a }

-- the row with the vote kept, in its group
abbrev pub row_after : Log → Entry → Effect → Row
row_after l e f = in_group (keeping (row_of l (tx_of e)) e) f.group

-- the log with the effect of an accepted entry stored: a new holder, or a row and the group that it
-- begins
unfoldable pub stored : Log → Entry → Effect → Log
stored l e f =
    cond (is_take e)
    (with_holder l e.process e.turn e.store)
    (cond f.begins
    (with_group (with_row l (tx_of e) (row_after l e f)) f.group (running_set l.rows))
    (with_row l (tx_of e) (row_after l e f)))

-- a refused entry leaves the log as it was
unfoldable pub entered : Log → Entry → Effect → Entered
entered l e f = answered (cond (is_ok f.answer) (stored l e f) l) f.answer

-- the log after an entry, and the answer
unfoldable pub enter : Log → Entry → Entered
enter l e = entered l e (effect_of (parts_of l e) e)

-- the answers to a list of entries, one after the other, as numbers
unfoldable pub answers_to : Log → List Entry → List ℕ
answers_to l [] = []
answers_to l (e ∷ es) = answer_number (enter l e).answer ∷ answers_to (enter l e).log es

-- the log fed a list of entries, refused ones skipped
unfoldable pub feed : Log → List Entry → Log
feed l [] = l
feed l (e ∷ es) = feed (enter l e).log es
