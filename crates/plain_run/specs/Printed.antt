-- What the program promises of its output.
use Rattle.std.specs.Prelude.{ℕ, ◌+◌, List, ◌≡◌}
use Rattle.text_lines.specs.declared.Input.{Input}
use Rattle.text_lines.specs.Feed.{fed, fresh}
use Rattle.text_report.specs.Printed.{Printed}
use Rattle.text_report.specs.Within.{longest_answers, longest_log}
use Rattle.plain_run.specs.declared.Session.{Session}
use Rattle.plain_run.specs.Plain.{plain}
use Rattle.plain_run.specs.Session.{answer_line, fresh_session, is_over, state_of}

-- no output is longer
abbrev pub longest_output : ℕ
longest_output = longest_answers + longest_log

-- the first `used` bytes of the buffer are what `plain` writes for these bytes, all of it
abbrev pub Prints : List ℕ → List ℕ → ℕ → Type 0
Prints input buffer used = Printed longest_output (plain input) buffer used

-- so for the bytes that the input was fed, whatever they are
abbrev pub PrintsFed : Input Session → List ℕ → ℕ → Type 0
PrintsFed i buffer used = (bytes : List ℕ) → state_of i ≡ fed is_over answer_line (fresh fresh_session) bytes → Prints bytes buffer used
