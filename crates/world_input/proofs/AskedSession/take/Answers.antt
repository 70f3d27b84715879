use native.Mathlib.Omega.{arith}
use mathlib.Core.List.{[], ◌∷◌, ◌++◌}
use mathlib.Core.Path.{◌≡◌, ap, ◌∙◌}
use Prim.Native.Nat.{ℕ, ◌≤◌}
use borrow.Author.Tests.{ltb-false}
use lib.ListN.{length}
use Rattle.model_steps.specs.Commands.{Command, commands_in}
use Rattle.text_lines.specs.Lines.{max_lines}
use Rattle.world_input.specs.State.{command_at}
use Rattle.world_input.proofs.AskedSession.take.Goals as goal

pub returns : goal.returns
returns c running =
    let asked = commands_in c.args.self.now.commands in
    let few : length asked ≤ max_lines = ltb-false max_lines (length asked) running in
    c.push.ensures.listed (omega (arith, few))
    ∙ ap (λ (o : Command). asked ++ o ∷ []) (c.command_at-command.ensures ∙ ap (λ (n : ℕ). command_at n c.args.line.now) (ap length c.as_slice.ensures))
