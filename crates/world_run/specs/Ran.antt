-- What the functions under `main` keep, and what they promise of it.
use Rattle.std.specs.Prelude.{ℕ, ◌+◌, List, [], ◌≡◌}
use Rattle.model_agreement.specs.Claim.{Claim}
use Rattle.model_agreement.specs.History.{history}
use Rattle.model_steps.specs.Commands.{Command}
use Rattle.world_engine.specs.Commands.{answers_to, world_after}
use Rattle.text_lines.specs.Answers.{answers_of}
use Rattle.text_lines.specs.declared.Input.{Input}
use Rattle.text_lines.specs.Feed.{fed, fresh}
use Rattle.model_protocol.specs.World.{fresh_world}
use Rattle.text_report.specs.Printed.{Printed}
use Rattle.text_report.specs.Within.{longest_answers}
use Rattle.world_report.specs.Longest.{longest_world}
use Rattle.world_input.specs.declared.Asked.{Asked}
use Rattle.world_input.specs.State.{over, state_of, with_line}
use Rattle.world_run.specs.declared.Session.{Session}
use Rattle.world_run.specs.Program.{answers_for, printed, world, world_for}
use Rattle.world_run.specs.Steps.{steps_of}

-- the session after these commands
pub record Ran (os : List Command) (s : Session) : Type 0 where
  pub world : s.world ≡ world_after fresh_world os
  pub answers : answers_of s.answers ≡ answers_to fresh_world os

-- the session of a whole input, for which demand 3 holds
pub record Agreed (input : List ℕ) (s : Session) : Type 0 where
  pub world : s.world ≡ world_for input
  pub answers : answers_of s.answers ≡ answers_for input
  pub demand_3 : Claim (steps_of input) (history (steps_of input)) s.world

-- the session of whatever bytes the input was fed
abbrev pub AgreedOnFed : Input Asked → Session → Type 0
AgreedOnFed i s = (bytes : List ℕ) → state_of i ≡ fed over with_line (fresh []) bytes → Agreed bytes s

-- what a session prints
abbrev pub output : Session → List ℕ
output s = printed (answers_of s.answers) s.world

-- no output is longer
abbrev pub longest_output : ℕ
longest_output = longest_answers + longest_world

-- The first `used` bytes of the buffer are what `world` writes for these bytes, all of it. Demand 3
-- holds for the world that they show.
pub record PrintsAgreed (input buffer : List ℕ) (used : ℕ) : Type 0 where
  pub prints : Printed longest_output (world input) buffer used
  pub demand_3 : Claim (steps_of input) (history (steps_of input)) (world_for input)

-- so for the bytes that the input was fed, whatever they are
abbrev pub PrintsFed : Input Asked → List ℕ → ℕ → Type 0
PrintsFed i buffer used = (bytes : List ℕ) → state_of i ≡ fed over with_line (fresh []) bytes → PrintsAgreed bytes buffer used
