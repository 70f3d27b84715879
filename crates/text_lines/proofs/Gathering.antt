-- A line with one byte more, by whether it has room.
use Prim.Native.Nat.{ℕ, ◌≤◌, ◌<◌, ◌+◌}
use mathlib.Core.Path.{◌≡◌}
use lib.ListN.{set}
use borrow.Author.Tests.{lt-ltb, le-ltb}
use Rattle.text_lines.specs.declared.Line.{Line}
use Rattle.text_lines.specs.Line.{with}
use Rattle.text_lines.specs.Lines.{max_line_bytes}

pub with_room : (l : Line) (c : ℕ) → l.length < max_line_bytes → with l c ≡ record { length = l.length + 1; bytes = set l.bytes l.length c }
unfolding with
with_room l c h = rw (lt-ltb l.length max_line_bytes h)

pub without_room : (l : Line) (c : ℕ) → max_line_bytes ≤ l.length → with l c ≡ record { length = max_line_bytes + 1; bytes = l.bytes }
unfolding with
without_room l c h = rw (le-ltb l.length max_line_bytes h)
