-- A line as it is gathered byte by byte.
use Rattle.std.specs.Prelude.{ℕ, ◌+◌, Bool, cond, List, ltb, take, replicate, set}
use Rattle.text_lines.specs.declared.Line.{Line}
use Rattle.text_lines.specs.Lines.{max_line_bytes}

abbrev pub no_line : Line
no_line = record { length = 0; bytes = replicate max_line_bytes 0 }

-- the line with one byte more; a line that is too long is only counted as such
unfoldable pub with : Line → ℕ → Line
with l c =
    cond (ltb l.length max_line_bytes)
    (record { length = l.length + 1; bytes = set l.bytes l.length c })
    (record { length = max_line_bytes + 1; bytes = l.bytes })

abbrev pub too_long : Line → Bool
too_long l = ltb max_line_bytes l.length

abbrev pub bytes_of : Line → List ℕ
bytes_of l = take l.length l.bytes
