-- The claims on lines and inputs of `plain`. In each, `l` is any log.
use Rattle.std.specs.Prelude.{ℕ, ◌≤◌, ◌<◌, true, List, ◌≡◌, length}
use Rattle.log_entry.specs.declared.Entry.{Entry}
use Rattle.log_entry.specs.Entry.{outside}
use Rattle.log_entry.specs.Refusal.{outside_limits, unreadable}
use Rattle.log_core.specs.declared.Log.{Log}
use Rattle.log_core.specs.Enter.{answered, enter}
use Rattle.text_entry.specs.Claims.{IsText}
use Rattle.text_lines.specs.Feed.{fed_all, finished, fresh, joined}
use Rattle.text_lines.specs.Lines.{max_line_bytes}
use Rattle.plain_run.specs.Plain.{enter_line, plain}
use Rattle.plain_run.specs.Session.{answer_line, fresh_session, is_over, output}

-- A text of an entry, if it is not over 100 bytes, is entered: its answer is the log's.
abbrev pub TextIsEntered : Type 0
TextIsEntered = (l : Log) (s : List ℕ) (e : Entry) → IsText s e → length s ≤ max_line_bytes → enter_line l s ≡ enter l e

-- A text of an entry with a number outside the log's limits is answered 2, and the log stays as it
-- was.
abbrev pub TextOutsideLimits : Type 0
TextOutsideLimits =
    (l : Log) (s : List ℕ) (e : Entry) → IsText s e → length s ≤ max_line_bytes → outside l.stores e ≡ true → enter_line l s ≡ answered l outside_limits

-- Every line that is a text of no entry is answered 1, and the log stays as it was.
abbrev pub OtherLineIsUnreadable : Type 0
OtherLineIsUnreadable = (l : Log) (s : List ℕ) → ((e : Entry) → IsText s e → ⊥) → enter_line l s ≡ answered l unreadable

-- A line over 100 bytes is answered 1, however long it is, and the log stays as it was.
abbrev pub LongLineIsUnreadable : Type 0
LongLineIsUnreadable = (l : Log) (s : List ℕ) → max_line_bytes < length s → enter_line l s ≡ answered l unreadable

-- A line answered 2 is a text of an entry with natural numbers of any size, one of them outside
-- the log's limits.
abbrev pub Answered2IsOutside : Type 0
Answered2IsOutside = (l : Log) (s : List ℕ) → (enter_line l s).answer ≡ outside_limits → (e : Entry) × IsText s e × (outside l.stores e ≡ true)

-- However the input was cut into pieces, the code's session prints what `plain` says of its bytes.
abbrev pub PiecesArePlain : Type 0
PiecesArePlain = (pieces : List (List ℕ)) → output (finished is_over answer_line (fed_all is_over answer_line (fresh fresh_session) pieces)) ≡ plain (joined pieces)
