-- The world of an input is that of its steps, and demand 3 holds for them.
use Prim.Native.Nat.{ℕ, suc, ◌≤◌, ◌<◌, ◌-◌}
use native.Mathlib.Omega.{arith}
use mathlib.Core.Bool.{Bool, true, false, cond}
use mathlib.Core.List.{List, [], ◌∷◌, ◌++◌}
use mathlib.Core.Path.{◌≡◌, refl, sym, ◌∙◌, ap, subst}
use lib.Dec.{leb, ltb}
use lib.ListN.{length, take}
use borrow.Author.Tests.{leb-false, leb-true}
use Rattle.model_agreement.specs.Claim.{Claim}
use Rattle.model_agreement.specs.History.{history}
use Rattle.model_agreement.proofs.Theorem.{demand_3}
use Rattle.model_steps.specs.Commands.{Command}
use Rattle.world_engine.specs.Commands.{answers_to, world_after}
use Rattle.log_entry.specs.declared.refusal.Refusal.TheVariants as refused
use Rattle.text_lines.specs.Lines.{lines, max_line_bytes, max_lines}
use Rattle.model_protocol.specs.declared.World.{World}
use Rattle.model_protocol.specs.Step.{run, step_of}
use Rattle.model_protocol.specs.World.{fresh_world}
use Rattle.model_steps.specs.declared.Step.{Step}
use Rattle.text_entry.specs.declared.Unread.{Unread}
use Rattle.text_entry.specs.declared.Unread.TheVariants.{Outside, Unreadable}
use Rattle.std.specs.Prelude.{Result, Ok, Err}
use Rattle.text_step.specs.Step.{reading}
use Rattle.world_input.specs.Commands.{command_of, command_to, commands_from, commands_of, refusing}
use Rattle.world_run.specs.declared.Session.{Session}
use Rattle.world_run.specs.Claims.{AgreedPrints, InputAgrees, InputRuns}
use Rattle.world_run.specs.Program.{printed, world, world_for}
use Rattle.world_run.specs.Ran.{Agreed, Ran}
use Rattle.world_run.specs.Steps.{step_in, step_of_line, steps_in, steps_of}

-- the world after a line's command is that after its step, if it has one
line_runs : (w : World) (l : List ℕ) (os : List Command) (ss : List Step) → ((v : World) → world_after v os ≡ run v ss) → world_after w (command_of l ∷ os) ≡ run w (step_of_line l ++ ss)
unfolding command_of world_after run
line_runs w l os ss later = go (ltb max_line_bytes (length l)) (reading l)
  where
    go : (b : Bool) (r : Result Step Unread) → world_after w (cond b (refusing refused.Unreadable) (command_to r) ∷ os) ≡ run w (cond b [] (step_in r) ++ ss)
    go true r = later w
    go false (Ok s) = later (step_of w s).world
    go false (Err Outside) = later w
    go false (Err Unreadable) = later w

no_lines : (k : ℕ) (w : World) → world_after w [] ≡ run w (steps_in (take k []))
unfolding world_after run steps_in
no_lines ℕ.zero w = refl
no_lines (suc k) w = refl

line_1001 : (w : World) (k : ℕ) (ls : List (List ℕ)) → k ≡ 0 → world_after w (refusing refused.NoPlace ∷ []) ≡ run w (steps_in (take k ls))
unfolding world_after run steps_in
line_1001 w k ls e = rw e

first_steps : (k j : ℕ) (l : List ℕ) (ls : List (List ℕ)) → k ≡ suc j → step_of_line l ++ steps_in (take j ls) ≡ steps_in (take k (l ∷ ls))
unfolding steps_in
first_steps k j l ls e = rw e

lines_run : (ls : List (List ℕ)) (n : ℕ) (w : World) → world_after w (commands_from n ls) ≡ run w (steps_in (take (max_lines - n) ls))
unfolding commands_from
lines_run [] n w = no_lines (max_lines - n) w
lines_run (l ∷ ls) n w = go (leb max_lines n) refl (lines_run ls (suc n))
  where
    go : (b : Bool) → leb max_lines n ≡ b → ((v : World) → world_after v (commands_from (suc n) ls) ≡ run v (steps_in (take (max_lines - suc n) ls)))
        → world_after w (cond b (refusing refused.NoPlace ∷ []) (command_of l ∷ commands_from (suc n) ls)) ≡ run w (steps_in (take (max_lines - n) (l ∷ ls)))
    go true k later = let m : max_lines ≤ n = leb-true max_lines n k in line_1001 w (max_lines - n) (l ∷ ls) (omega arith)
    go false k later =
        let m : n < max_lines = leb-false max_lines n k in
        line_runs w l (commands_from (suc n) ls) (steps_in (take (max_lines - suc n) ls)) later
        ∙ ap (run w) (first_steps (max_lines - n) (max_lines - suc n) l ls (omega arith))

pub input_runs : InputRuns
input_runs input = lines_run (lines input) 0 fresh_world

pub input_agrees : InputAgrees
input_agrees input = subst (Claim (steps_of input) (history (steps_of input))) (sym (input_runs input)) (demand_3 (steps_of input))

-- A session after what an input asks for is the input's.
pub ran_agrees : (input : List ℕ) (os : List Command) (s : Session) → os ≡ commands_of input → Ran os s → Agreed input s
ran_agrees input os s e r =
    let w : s.world ≡ world_for input = r.world ∙ ap (world_after fresh_world) e in
    record {
      world = w;
      answers = r.answers ∙ ap (answers_to fresh_world) e;
      demand_3 = subst (Claim (steps_of input) (history (steps_of input))) (sym w) (input_agrees input);
    }

pub agreed_prints : AgreedPrints
unfolding world
agreed_prints input s a = λ i. printed (a.answers i) (a.world i)
