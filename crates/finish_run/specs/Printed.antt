-- What the functions under `main` promise.
use Rattle.std.specs.Prelude.{ℕ, List, [], ◌≡◌}
use Rattle.finish_list.specs.Longest.{longest_list}
use Rattle.text_lines.specs.declared.Input.{Input}
use Rattle.text_lines.specs.Feed.{fed, fresh}
use Rattle.text_report.specs.Printed.{Printed}
use Rattle.world_input.specs.declared.Asked.{Asked}
use Rattle.world_input.specs.State.{over, state_of, with_line}
use Rattle.finish_run.specs.Claims.{Continues, LinesLeft, ListCloses, ListFinishes, NothingIfNone}
use Rattle.finish_run.specs.Program.{finish}

-- The first `used` bytes of the buffer are what `finish` writes for these bytes, all of it. There
-- are none exactly if no coordinator is such. The list that they are closes one more instance, by
-- the sequence too, and continues the file.
pub record PrintsList (input buffer : List ℕ) (used : ℕ) : Type 0 where
  pub prints : Printed longest_list (finish input) buffer used
  pub nothing : NothingIfNone input
  pub closes : ListCloses input
  pub finishes : ListFinishes input
  pub continues : LinesLeft input → Continues input

-- so for the bytes that the input was fed, whatever they are
abbrev pub PrintsFed : Input Asked → List ℕ → ℕ → Type 0
PrintsFed i buffer used = (bytes : List ℕ) → state_of i ≡ fed over with_line (fresh []) bytes → PrintsList bytes buffer used
