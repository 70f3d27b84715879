-- What the lines of an input ask for: a step each, or an answer to what is none.
use Rattle.std.specs.Prelude.{ℕ, suc, cond, List, [], ◌∷◌, leb, ltb, length, Result, Ok, Err}
use Rattle.log_entry.specs.declared.refusal.Refusal.{Refusal}
use Rattle.log_entry.specs.declared.refusal.Refusal.TheVariants as refused
use Rattle.model_steps.specs.declared.Step.{Step}
use Rattle.text_lines.specs.Lines.{lines, max_line_bytes, max_lines}
use Rattle.text_entry.specs.declared.Unread.{Unread}
use Rattle.text_entry.specs.declared.Unread.TheVariants.{Outside, Unreadable}
use Rattle.text_step.specs.Step.{reading}
use Rattle.model_steps.specs.Commands.{Command}

-- it is answered with the refusal, and the world stays as it was
abbrev pub refusing : Refusal → Command
refusing r = Err r

abbrev pub command_to : Result Step Unread → Command
command_to (Ok s) = Ok s
command_to (Err Outside) = refusing refused.OutsideLimits
command_to (Err Unreadable) = refusing refused.Unreadable

-- "a line that does not read as a step of this program, or is over 100 bytes without its LF" is
-- answered 1, one with a number that no byte holds 2; every other asks for its step
unfoldable pub command_of : List ℕ → Command
command_of line = cond (ltb max_line_bytes (length line)) (refusing refused.Unreadable) (command_to (reading line))

-- "line 1,001, good or bad, is answered 6 and ends the reading": what lines ask for after n
-- others
unfoldable pub commands_from : ℕ → List (List ℕ) → List Command
commands_from n [] = []
commands_from n (l ∷ ls) = cond (leb max_lines n) (refusing refused.NoPlace ∷ []) (command_of l ∷ commands_from (suc n) ls)

-- what an input asks for
abbrev pub commands_of : List ℕ → List Command
commands_of input = commands_from 0 (lines input)
