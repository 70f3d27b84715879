-- How many lines a replay and the answers have.
use Prim.Native.Nat.{min}
use mathlib.Core.Path.{◌≡◌, ap, ◌∙◌}
use lib.ListN.{length, length-take}
use Rattle.log_core.specs.declared.Replay.{Replay}
use Rattle.log_core.specs.Replay.{rows_in}
use Rattle.log_core.proofs.ReplayedRows.{replay_places}
use Rattle.log_entry.specs.Limits.{transactions}
use Rattle.text_lines.specs.Answers.{answers_of}
use Rattle.text_lines.specs.Lines.{answered_lines}
use Rattle.text_lines.specs.declared.Answers.{Answers}
use Rattle.text_report.specs.Report.{rows_of}

-- as many rows as count, and as there are places for
pub rows_counted : (r : Replay) → length (rows_of r) ≡ min r.count transactions
rows_counted r = length-take r.count (rows_in r) ∙ ap (min r.count) (replay_places r)

-- as many answers as count, and as there are places for
pub answers_counted : (a : Answers) → length a.answers ≡ answered_lines → length (answers_of a) ≡ min a.count answered_lines
answers_counted a h = length-take a.count a.answers ∙ ap (min a.count) h
