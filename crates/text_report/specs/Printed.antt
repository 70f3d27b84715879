-- A buffer that holds a whole text.
use Rattle.std.specs.Prelude.{ℕ, ◌≤◌, List, ◌≡◌, length, take}

-- The first `used` bytes of the buffer are the text, all of it. The buffer has as much room as the
-- longest text takes.
pub record Printed (longest : ℕ) (text buffer : List ℕ) (used : ℕ) : Type 0 where
  pub whole : take used buffer ≡ text
  pub room : length buffer ≡ longest
  pub count : used ≤ length buffer
  pub counted : used ≡ length (take used buffer)
