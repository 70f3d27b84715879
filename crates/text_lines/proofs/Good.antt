-- What owning answers by value says of them: the length of their array.
use mathlib.Core.List.{List}
use mathlib.Core.Path.{◌≡◌}
use denote.Laws.{Is}
use denote.Struct.Declared.{row}
use lib.ListN.{length}
use mir.Val.{Val}
use Rattle.text_lines.specs.declared.Answers.{Answers}
use Rattle.text_lines.specs.declared.Line.{Line}
use Rattle.text_lines.specs.Lines.{answered_lines, max_line_bytes}
use Rattle.text_lines.specs.contracts.Answers.{the_type as answers-type}
use Rattle.text_lines.specs.contracts.Line.{the_type as line-type}

pub answers_length : (a : Answers) (vs : List Val) → Is (row answers-type) a vs → length a.answers ≡ answered_lines
answers_length a vs g = g.1.1.1.0.1.0.1

pub bytes_length : (l : Line) (vs : List Val) → Is (row line-type) l vs → length l.bytes ≡ max_line_bytes
bytes_length l vs g = g.1.1.1.0.1.0.1
