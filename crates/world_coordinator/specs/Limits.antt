-- "set as bits of a byte": the numbers that a set kept so can hold.
use Rattle.std.specs.Prelude.{ℕ}

-- the set has a bit for each of 0 to 7
abbrev pub set_places : ℕ
set_places = 8
