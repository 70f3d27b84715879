-- "An LF ends a line; the last may lack it, and no bytes after the last LF are no line."
-- "A program reads at most 1,000 lines of at most 100 bytes."
use Rattle.std.specs.Prelude.{ℕ, ◌+◌, cond, List, [], ◌∷◌, ◌++◌, eqb}

-- a line holds at most this many bytes without its LF
abbrev pub max_line_bytes : ℕ
max_line_bytes = 100

-- a program reads at most this many lines
abbrev pub max_lines : ℕ
max_lines = 1000

-- "line 1,001, good or bad, is answered 6 and ends the reading": it is answered too
abbrev pub answered_lines : ℕ
answered_lines = max_lines + 1

abbrev pub lf : ℕ
lf = 10

-- what is left as a last line that lacks its LF
abbrev pub last_line : List ℕ → List (List ℕ)
last_line [] = []
last_line (c ∷ s) = (c ∷ s) ∷ []

-- the lines of an input, the first of which has begun with these bytes
unfoldable pub lines_from : List ℕ → List ℕ → List (List ℕ)
lines_from begun [] = last_line begun
lines_from begun (c ∷ s) = cond (eqb c lf) (begun ∷ lines_from [] s) (lines_from (begun ++ c ∷ []) s)

abbrev pub lines : List ℕ → List (List ℕ)
lines input = lines_from [] input
