-- The files that the arguments of a program name.
use Rattle.std.specs.Prelude.{ℕ}

-- arguments behind these are not read
abbrev pub max_files : ℕ
max_files = 999
