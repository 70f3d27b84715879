-- The claims on lines and inputs of `world`.
use Rattle.std.specs.Prelude.{ℕ, ◌≤◌, ◌<◌, true, List, ◌≡◌, length}
use Rattle.log_entry.specs.Refusal.{outside_limits, unreadable}
use Rattle.model_agreement.specs.Claim.{Claim}
use Rattle.model_agreement.specs.History.{history}
use Rattle.model_protocol.specs.declared.Stepped.{Stepped}
use Rattle.model_protocol.specs.declared.World.{World}
use Rattle.model_protocol.specs.Step.{acceptors_counted, answered, run, step_of}
use Rattle.model_protocol.specs.World.{fresh_world}
use Rattle.model_steps.specs.declared.Step.{Step}
use Rattle.model_steps.specs.Limits.{outside_step}
use Rattle.text_ascii.specs.Decimal.{byte_numbers}
use Rattle.text_lines.specs.Lines.{max_line_bytes}
use Rattle.text_step.specs.Claims.{IsText}
use Rattle.world_engine.specs.Commands.{carried_out}
use Rattle.world_input.specs.Commands.{command_of}
use Rattle.world_run.specs.declared.Session.{Session}
use Rattle.world_run.specs.Program.{world, world_for}
use Rattle.world_run.specs.Ran.{Agreed, output}
use Rattle.world_run.specs.Steps.{steps_of}

-- The world of an input is the fresh world after the input's steps.
abbrev pub InputRuns : Type 0
InputRuns = (input : List ℕ) → world_for input ≡ run fresh_world (steps_of input)

-- Demand 3 holds of the world of an input, for the input's steps.
abbrev pub InputAgrees : Type 0
InputAgrees = (input : List ℕ) → Claim (steps_of input) (history (steps_of input)) (world_for input)

-- What a session of an input prints is what `world` writes for it.
abbrev pub AgreedPrints : Type 0
AgreedPrints = (input : List ℕ) (s : Session) → Agreed input s → output s ≡ world input

-- the answer to a line, and the world after it
abbrev pub line_taken : World → List ℕ → Stepped
line_taken w line = carried_out w (command_of line)

-- In the world, no more acceptors count than a byte holds.
abbrev pub FewCount : World → Type 0
FewCount w = acceptors_counted w.acceptors ≤ byte_numbers

-- It is so in every reachable world.
abbrev pub FewCounted : Type 0
FewCounted = (steps : List Step) → FewCount (run fresh_world steps)

-- A text of a step, if it is not over 100 bytes, is taken: its answer is the world's.
abbrev pub TextIsTaken : Type 0
TextIsTaken = (w : World) → FewCount w → (line : List ℕ) (s : Step) → IsText line s → length line ≤ max_line_bytes → line_taken w line ≡ step_of w s

-- A text of a step with a number outside its limits is answered 2, and the world stays as it was.
abbrev pub TextOutsideLimits : Type 0
TextOutsideLimits =
    (w : World) → FewCount w → (line : List ℕ) (s : Step) → IsText line s → length line ≤ max_line_bytes
    → outside_step (acceptors_counted w.acceptors) s ≡ true → line_taken w line ≡ answered w outside_limits

-- A line over 100 bytes is answered 1, however long it is, and the world stays as it was.
abbrev pub LongLineIsUnreadable : Type 0
LongLineIsUnreadable = (w : World) (line : List ℕ) → max_line_bytes < length line → line_taken w line ≡ answered w unreadable

-- Every line that is a text of no step is answered 1, and the world stays as it was.
abbrev pub OtherLineIsUnreadable : Type 0
OtherLineIsUnreadable = (w : World) (line : List ℕ) → ((s : Step) → IsText line s → ⊥) → line_taken w line ≡ answered w unreadable

-- A line answered 2 is a text of a step with natural numbers of any size, one of them outside its
-- limits.
abbrev pub Answered2IsOutside : Type 0
Answered2IsOutside =
    (w : World) → FewCount w → (line : List ℕ) → (line_taken w line).answer ≡ outside_limits
    → (s : Step) × IsText line s × (outside_step (acceptors_counted w.acceptors) s ≡ true)
