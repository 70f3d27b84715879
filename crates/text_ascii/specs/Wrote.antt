-- What a function leaves in a buffer that it writes a text into.
use Rattle.std.specs.Prelude.{ℕ, ◌+◌, min, max, List, ◌≡◌, length}
use Rattle.std.proofs.lemmas.List.Edits.{sets}

-- the text stands in the buffer from a place on, as far as there was room; the next place comes
-- after it
pub record Wrote (before : List ℕ) (at : ℕ) (text after : List ℕ) (next : ℕ) : Type 0 where
  pub bytes : after ≡ sets before at text
  pub place : next ≡ min (at + length text) (max at (length before))
