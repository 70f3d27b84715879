-- What is known of an output that was written.
use Rattle.std.specs.Prelude.{ℕ, Bool, List, Option, IsTrue, take}
use Rattle.std.specs.Io.KnownBytes.{Appends}

-- If `all` is true, a writer that held `before` holds the first `count` bytes of the buffer behind
-- them, where its bytes are known.
abbrev pub WasWritten : Option (List ℕ) → Option (List ℕ) → List ℕ → ℕ → Bool → Type 0
WasWritten before after buffer count all = IsTrue all → Appends before after (take count buffer)
