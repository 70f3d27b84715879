-- The meaning of the program `plain`: from the bytes read to the bytes written.
use Rattle.std.specs.Prelude.{ℕ, Bool, cond, List, [], ◌∷◌, ◌++◌, leb, ltb, length, Result, Ok, Err}
use Rattle.log_entry.specs.declared.Entry.{Entry}
use Rattle.log_entry.specs.Number.{answer_number}
use Rattle.log_entry.specs.Refusal.{no_place, outside_limits, unreadable}
use Rattle.log_core.specs.declared.Entered.{Entered}
use Rattle.log_core.specs.declared.Log.{Log}
use Rattle.log_core.specs.Enter.{answered, enter}
use Rattle.log_core.specs.Log.{empty_log}
use Rattle.text_entry.specs.declared.Unread.{Unread}
use Rattle.text_entry.specs.declared.Unread.TheVariants.{Outside, Unreadable}
use Rattle.text_entry.specs.Entry.{reading}
use Rattle.text_lines.specs.Feed.{fed_lines}
use Rattle.text_lines.specs.Lines.{lines, max_line_bytes, max_lines}
use Rattle.text_report.specs.Report.{answers_text, log_text}

-- the log and the answer after what the reader says of a line: an entry is entered, a number that
-- no byte holds is answered 2, and a line that does not read 1
abbrev pub entering : Log → Result Entry Unread → Entered
entering l (Ok e) = enter l e
entering l (Err Outside) = answered l outside_limits
entering l (Err Unreadable) = answered l unreadable

-- "a line that does not read as a step of this program, or is over 100 bytes without its LF" is
-- answered 1
unfoldable pub enter_line : Log → List ℕ → Entered
enter_line l line = cond (ltb max_line_bytes (length line)) (answered l unreadable) (entering l (reading line))

-- the log, and the answers to the lines so far
pub record Run : Type 0 where
  pub log : Log
  pub answers : List ℕ

abbrev pub noted : Run → Entered → Run
noted r e = record { log = e.log; answers = r.answers ++ answer_number e.answer ∷ [] }

-- line 1,001 has been answered
abbrev pub over : Run → Bool
over r = ltb max_lines (length r.answers)

-- "line 1,001, good or bad, is answered 6 and ends the reading"
unfoldable pub after_line : Run → List ℕ → Run
after_line r line = noted r (cond (leb max_lines (length r.answers)) (answered r.log no_place) (enter_line r.log line))

abbrev pub no_lines : Run
no_lines = record { log = empty_log; answers = [] }

-- the log and the answers after all lines of an input
abbrev pub run : List ℕ → Run
run input = fed_lines over after_line no_lines (lines input)

abbrev pub printed : Run → List ℕ
printed r = answers_text r.answers ++ log_text r.log

-- what `plain` writes for the bytes that it reads
unfoldable pub plain : List ℕ → List ℕ
plain input = printed (run input)
