-- However the input is cut into pieces, what the reader finds is what the input asks for.
use Prim.Native.Nat.{ℕ, suc, ◌≤◌, ◌<◌}
use native.Mathlib.Omega.{arith}
use mathlib.Core.Bool.{Bool, true, false, cond}
use mathlib.Core.List.{List, [], ◌∷◌, ◌++◌, append_assoc, append-nil}
use mathlib.Core.Path.{◌≡◌, refl, sym, ◌∙◌, ap}
use lib.Dec.{leb}
use lib.ListN.{length, length-append}
use borrow.Author.Tests.{le-ltb, lt-ltb, leb-true, leb-false}
use Rattle.log_entry.specs.declared.refusal.Refusal.TheVariants as refused
use Rattle.text_lines.specs.declared.Line.{Line}
use Rattle.text_lines.specs.Feed.{fed, fed_all, fed_lines, finished, fresh, joined}
use Rattle.text_lines.specs.Lines.{lines, max_lines}
use Rattle.text_lines.proofs.Feeding.{all_is_joined, held_is_line}
use Rattle.text_lines.proofs.Stream.{Holds, stream_is_lines}
use Rattle.text_step.specs.Step.{reading}
use Rattle.model_steps.specs.Commands.{Command}
use Rattle.world_input.specs.Commands.{command_of, command_to, commands_from, commands_of, refusing}
use Rattle.world_input.specs.State.{held_command, over, with_line}

-- a gathered line asks for what its bytes ask for
held_command_lem : (line : Line) (b : List ℕ) → Holds line b → held_command line ≡ command_of b
unfolding held_command command_of
held_command_lem line b h = held_is_line (refusing refused.Unreadable) (λ (s : List ℕ). command_to (reading s)) line b h

abbrev with_bytes : List Command → List ℕ → List Command
with_bytes os b = os ++ cond (leb max_lines (length os)) (refusing refused.NoPlace) (command_of b) ∷ []

meets : (os : List Command) (line : Line) (b : List ℕ) → Holds line b → with_line os line ≡ with_bytes os b
meets os line b h = ap (λ (o : Command). os ++ cond (leb max_lines (length os)) (refusing refused.NoPlace) o ∷ []) (held_command_lem line b h)

lines_over : (os : List Command) (ls : List (List ℕ)) → over os ≡ true → fed_lines over with_bytes os ls ≡ os
unfolding fed_lines
lines_over os [] h = refl
lines_over os (l ∷ ls) h = rw h

lines_ask : (os : List Command) (ls : List (List ℕ)) → length os ≤ max_lines → fed_lines over with_bytes os ls ≡ os ++ commands_from (length os) ls
unfolding fed_lines commands_from
lines_ask os [] h = sym (append-nil os)
lines_ask os (l ∷ ls) h = rw (le-ltb max_lines (length os) h) (go (leb max_lines (length os)) refl (lines_ask (os ++ command_of l ∷ []) ls))
  where
    longer : (o : Command) → length (os ++ o ∷ []) ≡ suc (length os)
    longer o = length-append os (o ∷ []) ∙ omega arith

    go : (b : Bool) → leb max_lines (length os) ≡ b
        → (length (os ++ command_of l ∷ []) ≤ max_lines → fed_lines over with_bytes (os ++ command_of l ∷ []) ls ≡ (os ++ command_of l ∷ []) ++ commands_from (length (os ++ command_of l ∷ [])) ls)
        → fed_lines over with_bytes (os ++ cond b (refusing refused.NoPlace) (command_of l) ∷ []) ls ≡ os ++ cond b (refusing refused.NoPlace ∷ []) (command_of l ∷ commands_from (suc (length os)) ls)
    go true k ih =
        let m : max_lines ≤ length os = leb-true max_lines (length os) k in
        lines_over (os ++ refusing refused.NoPlace ∷ []) ls (lt-ltb max_lines (length (os ++ refusing refused.NoPlace ∷ [])) (omega (arith, longer (refusing refused.NoPlace))))
    go false k ih =
        let m : length os < max_lines = leb-false max_lines (length os) k in
        ih (omega (arith, longer (command_of l)))
        ∙ append_assoc os (command_of l ∷ []) (commands_from (length (os ++ command_of l ∷ [])) ls)
        ∙ ap (λ (n : ℕ). os ++ (command_of l ∷ commands_from n ls)) (longer (command_of l))

-- Fed the bytes of an input, the reader ends with what the input asks for.
pub fed_is_commands : (input : List ℕ) → finished over with_line (fed over with_line (fresh []) input) ≡ commands_of input
fed_is_commands input = stream_is_lines over with_line with_bytes meets [] input ∙ lines_ask [] (lines input) (omega arith)

-- However the input was cut into pieces, the reader ends the same.
pub pieces_are_commands : (pieces : List (List ℕ)) → finished over with_line (fed_all over with_line (fresh []) pieces) ≡ commands_of (joined pieces)
pieces_are_commands pieces = ap (finished over with_line) (all_is_joined over with_line (fresh []) pieces) ∙ fed_is_commands (joined pieces)
