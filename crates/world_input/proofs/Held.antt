-- What a gathered line asks for, by its reading.
use Prim.Native.Nat.{ℕ}
use mathlib.Core.Bool.{false, true}
use mathlib.Core.List.{List}
use mathlib.Core.Path.{◌≡◌, refl, ◌∙◌, ap}
use Rattle.log_entry.specs.declared.refusal.Refusal.TheVariants as refused
use Rattle.model_steps.specs.declared.Step.{Step}
use Rattle.text_lines.specs.declared.Line.{Line}
use Rattle.text_lines.specs.Line.{bytes_of, too_long}
use Rattle.std.specs.Prelude.{Result}
use Rattle.text_entry.specs.declared.Unread.{Unread}
use Rattle.text_step.specs.Step.{reading}
use Rattle.world_input.specs.Commands.{command_to, refusing}
use Rattle.world_input.specs.State.{held_command}

module _ (line : Line) where
  pub held_long : too_long line ≡ true → refusing refused.Unreadable ≡ held_command line
  unfolding held_command
  held_long h = rw h

  pub held_short : too_long line ≡ false → (s : List ℕ) → s ≡ bytes_of line → (r : Result Step Unread) → r ≡ reading s → command_to r ≡ held_command line
  unfolding held_command
  held_short h s e r k = rw h (ap command_to (k ∙ ap reading e))
