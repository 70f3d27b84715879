-- What a function that prints leaves on the page, and how much room it takes at most.
use Rattle.std.specs.Prelude.{ℕ, ◌≤◌, ◌+◌, ◌*◌, List, length}
use Rattle.text_ascii.specs.Bytes.{ascii}
use Rattle.text_ascii.specs.Decimal.{byte_digits}
use Rattle.text_ascii.specs.Hex.{update_digits}
use Rattle.text_ascii.specs.Page.{Puts}
use Rattle.text_ascii.specs.declared.Page.{Page}
use Rattle.log_entry.specs.Limits.{stores, transactions}
use Rattle.text_lines.specs.Lines.{answered_lines}
use Rattle.text_report.specs.Report.{end}

-- The text was put on the page, and is no longer than this room.
pub record Within (room : ℕ) (old new : Page) (text : List ℕ) : Type 0 where
  pub puts : Puts old new text
  pub within : length text ≤ room

-- a field whose number fits a byte takes at most this much
abbrev pub longest_field : List ℕ → ℕ
longest_field key = length key + byte_digits

-- no outcome's word is longer
abbrev pub outcome_bytes : ℕ
outcome_bytes = length (ascii "commit")

-- no printed line is longer than a replay's
abbrev pub longest_line : ℕ
longest_line = longest_field (ascii "store=") + longest_field (ascii " group=") + longest_field (ascii " tx=") + length (ascii " upd=") + update_digits + length end

-- no number of a line has more digits
abbrev pub number_digits : ℕ
number_digits = 5

-- no answer's line is longer
abbrev pub longest_answer : ℕ
longest_answer = length (ascii "step=") + number_digits + longest_field (ascii " answer=") + length end

-- no replay prints as more: a line for each row
abbrev pub longest_replay : ℕ
longest_replay = transactions * longest_line

-- no log prints as more: a line for each transaction and each store, and each replay
abbrev pub longest_log : ℕ
longest_log = (transactions + stores) * longest_line + stores * longest_replay

-- no answers print as more
abbrev pub longest_answers : ℕ
longest_answers = answered_lines * longest_answer
