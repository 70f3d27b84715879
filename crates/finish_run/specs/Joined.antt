-- The lines that `finish` prints, put after the file's own.
use Rattle.std.specs.Prelude.{ℕ, cond, List, [], ◌∷◌, ◌++◌, eqb}
use Rattle.text_lines.specs.Lines.{lf}
use Rattle.finish_run.specs.Program.{finish}

-- the LF that a begun line lacks
abbrev pub end_of : List ℕ → List ℕ
end_of [] = []
end_of (c ∷ s) = lf ∷ []

-- the LF that the last line of an input lacks, where its first line has begun with these bytes
unfoldable pub lacking : List ℕ → List ℕ → List ℕ
lacking begun [] = end_of begun
lacking begun (c ∷ s) = cond (eqb c lf) (lacking [] s) (lacking (begun ++ c ∷ []) s)

-- a file, each of whose lines has its LF
abbrev pub ended : List ℕ → List ℕ
ended input = input ++ lacking [] input

-- the file, and what `finish` prints for it behind it
abbrev pub joined : List ℕ → List ℕ
joined input = ended input ++ finish input
