-- What the functions under `main` do: the session that they keep, and how it stands for a run.
use Rattle.std.specs.Prelude.{ℕ, Bool, cond, List, leb, ltb, Result, Ok, Err}
use Rattle.log_entry.specs.declared.Entry.{Entry}
use Rattle.log_entry.specs.declared.refusal.Refusal.{Refusal}
use Rattle.log_entry.specs.Number.{answer_number}
use Rattle.log_entry.specs.Refusal.{no_place, unreadable}
use Rattle.log_core.specs.declared.Entered.{Entered}
use Rattle.log_core.specs.declared.Log.{Log}
use Rattle.log_core.specs.Enter.{answered, enter}
use Rattle.log_core.specs.Log.{empty_log}
use Rattle.text_entry.specs.Entry.{reading}
use Rattle.text_lines.specs.declared.Input.{Input}
use Rattle.text_lines.specs.declared.Line.{Line}
use Rattle.text_lines.specs.Answers.{answers_of, no_answers, noted as answers_noted}
use Rattle.text_lines.specs.Feed.{Fed}
use Rattle.text_lines.specs.Line.{bytes_of, too_long}
use Rattle.text_lines.specs.Lines.{max_lines}
use Rattle.plain_run.specs.declared.Session.{Session}
use Rattle.plain_run.specs.Plain.{Run, entering, printed}

-- the line's entry is entered
unfoldable pub enter_held : Log → Line → Entered
enter_held l line = cond (too_long line) (answered l unreadable) (entering l (reading (bytes_of line)))

-- the log and the answer after a line, where `count` lines were answered before it
abbrev pub line_entered : Log → ℕ → Line → Entered
line_entered l count line = cond (leb max_lines count) (answered l no_place) (enter_held l line)

-- the log and the answer after a command: its entry is entered, or its refusal answered
abbrev pub carried_out : Log → Result Entry Refusal → Entered
carried_out l (Ok e) = enter l e
carried_out l (Err r) = answered l (Err r)

abbrev pub fresh_session : Session
fresh_session = record { log = empty_log; answers = no_answers }

abbrev pub is_over : Session → Bool
is_over s = ltb max_lines s.answers.count

abbrev pub noted : Session → Entered → Session
noted s e = record { log = e.log; answers = answers_noted s.answers (answer_number e.answer) }

-- the session after a line
unfoldable pub answer_line : Session → Line → Session
answer_line s line = noted s (line_entered s.log s.answers.count line)

-- an input as a machine that is fed
abbrev pub state_of : Input Session → Fed Session
state_of i = record { state = i.session; line = i.line }

-- the run that a session stands for
abbrev pub run_of : Session → Run
run_of s = record { log = s.log; answers = answers_of s.answers }

-- what a session prints
abbrev pub output : Session → List ℕ
output s = printed (run_of s)
