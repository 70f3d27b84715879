-- The session of commands that were carried out: their answers are the first ones of an array.
use Prim.Native.Nat.{ℕ, suc, ◌≤◌, ◌+◌, min}
use native.Mathlib.Omega.{arith}
use mathlib.Core.List.{List, [], ◌∷◌}
use mathlib.Core.Path.{◌≡◌, refl, sym, ◌∙◌, ap}
use lib.ListN.{drop, length, length-take, replicate, take}
use lib.Seq.{take-append_seam, sets, sets-eq}
use Rattle.model_steps.specs.Commands.{Command}
use Rattle.model_steps.specs.declared.Commands.{Commands}
use Rattle.model_steps.specs.Commands.{commands_in, most_commands}
use Rattle.model_protocol.specs.declared.World.{World}
use Rattle.model_protocol.specs.World.{fresh_world}
use Rattle.world_engine.specs.Commands.{answers_in, answers_to, carried_out, world_after}
use Rattle.world_run.specs.Ran.{Ran}

-- how many commands there are
commands_count : (c : Commands) → length c.commands ≡ most_commands → length (commands_in c) ≡ min c.count most_commands
commands_count c h = length-take c.count c.commands ∙ ap (λ (n : ℕ). min c.count n) h

-- one answer for each
answers_count : (w : World) (xs : List Command) → length (answers_to w xs) ≡ length xs
unfolding answers_to
answers_count w [] = refl
answers_count w (x ∷ xs) = ap suc (answers_count (carried_out w x).world xs)

-- what the array holds in front
told : (vs : List ℕ) (n : ℕ) → n ≡ length vs → length vs ≤ most_commands → take n (sets (replicate most_commands 0) 0 vs) ≡ vs
told vs n e h =
    (λ i. take (e i) (sets-eq vs (replicate most_commands 0) 0 (omega arith) i)) ∙ take-append_seam vs (drop (0 + length vs) (replicate most_commands 0))

pub carried_ran : (c : Commands) (n : ℕ) (w v : World) (answers : List ℕ) → length c.commands ≡ most_commands → n ≡ min c.count most_commands
    → w ≡ fresh_world → v ≡ world_after w (commands_in c) → answers ≡ answers_in (replicate most_commands 0) w c
    → Ran (commands_in c) (record { world = v; answers = record { count = n; answers = answers } })
carried_ran c n w v answers hl hn hw hv ha =
    let vs = answers_to fresh_world (commands_in c) in
    let counted : n ≡ length vs = hn ∙ sym (commands_count c hl) ∙ sym (answers_count fresh_world (commands_in c)) in
    record {
      world = hv ∙ ap (λ (x : World). world_after x (commands_in c)) hw;
      answers = ap (take n) (ha ∙ ap (λ (x : World). answers_in (replicate most_commands 0) x c) hw) ∙ told vs n counted (omega (arith, counted, hn));
    }
