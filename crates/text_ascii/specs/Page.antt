-- What a function leaves on a page that it puts a text on.
use Rattle.std.specs.Prelude.{ℕ, List, ◌≡◌}
use Rattle.text_ascii.specs.declared.Page.{Page}
use Rattle.text_ascii.specs.Wrote.{Wrote}

-- The text stands in the page's buffer from the page's place on, as far as there was room. The page
-- keeps its buffer, and its place comes after the text.
pub record Puts (old new : Page) (text : List ℕ) : Type 0 where
  pub same : new.bytes.ghost_name ≡ old.bytes.ghost_name
  pub wrote : Wrote old.bytes.now old.at text new.bytes.now new.at
