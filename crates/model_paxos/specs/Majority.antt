-- Majorities.
use Rattle.std.specs.Prelude.{ℕ, ◌*◌, ◌/◌, ◌<◌, Bool, ltb}
use Rattle.std.specs.Int.Count.{ones, ones_in}

-- more than half of the acceptors 0 to n - 1 are in the set
unfoldable pub Majority : ℕ → ℕ → Type 0
Majority n set = n < 2 * ones_in n set

-- "A majority is counted from the set of acceptors heard": the test, of a set of the n acceptors
abbrev pub majority : ℕ → ℕ → Bool
majority n set = ltb (n / 2) (ones set)
