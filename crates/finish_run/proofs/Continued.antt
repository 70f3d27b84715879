-- The list of an input closes one more instance, and its lines continue the file.
use Prim.Native.Nat.{ℕ, suc, ◌+◌, ◌≤◌, ◌<◌}
use native.Mathlib.Omega.{arith}
use mathlib.Core.Bool.{Bool, true, false}
use mathlib.Core.List.{List, [], ◌∷◌, ◌++◌, append_assoc, map}
use mathlib.Core.Path.{◌≡◌, ap, refl, subst, sym, ◌∙◌}
use borrow.Author.Tests.{eqb-false, eqb-true, le-ltb, lt-leb}
use lib.Dec.{eqb}
use lib.ListN.{length, length-append, length-map, replicate, take}
use lib.Seq.{take_all}
use Rattle.std.specs.Prelude.{Ok}
use Rattle.log_entry.specs.Number.{answer_number}
use Rattle.log_entry.specs.Refusal.{accepted}
use Rattle.model_agreement.specs.Claim.{IsSequence}
use Rattle.model_agreement.specs.History.{history}
use Rattle.model_finish.specs.Choice.{choice_of}
use Rattle.model_finish.specs.Claims.{AllAccepted, Closes, Finished}
use Rattle.model_finish.specs.Closing.{accept_number, accepted_number, answering, closing, deliveries, prepare_number, promise_number}
use Rattle.model_finish.specs.Such.{OwnBallot, Such, current_of}
use Rattle.model_finish.proofs.ChoiceLaws.{choice_exactly, nothing_exactly}
use Rattle.model_finish.proofs.Theorem.{closes_in_sequence, run_append, such_closes}
use Rattle.model_protocol.specs.Batch.{Batch}
use Rattle.model_protocol.specs.declared.World.{World}
use Rattle.model_protocol.specs.Step.{run, step_of}
use Rattle.model_protocol.specs.World.{fresh_world}
use Rattle.model_steps.specs.Commands.{Command}
use Rattle.model_steps.specs.declared.Step.{Step}
use Rattle.model_steps.specs.declared.Step.TheVariants.{Deliver, Open, Propose}
use Rattle.finish_list.specs.Text.{steps_text}
use Rattle.text_report.specs.Report.{end}
use Rattle.text_lines.specs.Lines.{lines, max_line_bytes, max_lines}
use Rattle.text_step.specs.Step.{text}
use Rattle.world_engine.specs.Commands.{answers_to, carried_out, world_after}
use Rattle.world_input.specs.Commands.{command_of, commands_from}
use Rattle.world_run.specs.Claims.{FewCount}
use Rattle.world_run.specs.Program.{answers_for, world_for}
use Rattle.world_run.specs.Steps.{step_of_line, steps_in, steps_of}
use Rattle.world_run.proofs.Answers.{few_counted}
use Rattle.world_run.proofs.Meaning.{input_runs}
use Rattle.finish_run.specs.Claims.{EveryListCloses, EveryListFinishes, FileContinues, LinesLeft, ListCloses, ListFinishes, PrintsNothingExactly}
use Rattle.finish_run.specs.Joined.{joined}
use Rattle.finish_run.specs.Program.{finish, list_for}
use Rattle.finish_run.proofs.FileLines.{Each, lines_joined, lines_of_steps, no_lf_lem}
use Rattle.finish_run.proofs.LineTexts.{OfList, ReadsAsStep, reads_as_step}

-- ---- the steps of a list

each_append : (P : Step → Type 0) (xs ys : List Step) → Each P xs → Each P ys → Each P (xs ++ ys)
each_append P [] ys p q = q
each_append P (x ∷ xs) ys p q = (p.0, each_append P xs ys p.1 q)

deliveries_steps : (number : ℕ → ℕ) (k : ℕ) → Each OfList (deliveries number k)
unfolding deliveries
deliveries_steps number ℕ.zero = tt
deliveries_steps number (suc k) = each_append OfList (deliveries number k) (Deliver (number k) ∷ []) (deliveries_steps number k) (tt, tt)

closing_steps : (w : World) (c b : ℕ) → Each OfList (closing w c b)
unfolding closing
closing_steps w c b =
    each_append OfList (first ++ promises ++ second) (deliveries (accepted_number w) m)
    (each_append OfList (first ++ promises) second
    (each_append OfList first promises (tt, deliveries_steps (prepare_number w) m) (deliveries_steps (promise_number w) m))
    (tt, deliveries_steps (accept_number w) m))
    (deliveries_steps (accepted_number w) m)
  where
    m : ℕ
    m = answering w

    first : List Step
    first = Open c (current_of w c) b ∷ deliveries (prepare_number w) m

    promises : List Step
    promises = deliveries (promise_number w) m

    second : List Step
    second = Propose c (current_of w c) b ∷ deliveries (accept_number w) m

-- ---- the list of an input

module _ (input : List ℕ) where
  abbrev w : World
  w = world_for input

  -- where a coordinator was chosen, its list is printed
  listed : 0 < (choice_of w).ballot → list_for input ≡ closing w (choice_of w).coord (choice_of w).ballot
  listed h = go (eqb (choice_of w).ballot 0) refl
    where
      go : (t : Bool) → eqb (choice_of w).ballot 0 ≡ t → list_for input ≡ closing w (choice_of w).coord (choice_of w).ballot
      go true e = absurd (omega (arith, eqb-true (choice_of w).ballot 0 e))
      go false e = rw e

  -- what holds of the list of every such coordinator holds of this one
  of_choice : (P : World → ℕ → List Step → Type 0)
      → ((c b : ℕ) → let v = run fresh_world (steps_of input) in Such v c → OwnBallot v c b → P v c (closing v c b))
      → 0 < (choice_of w).ballot → P w (choice_of w).coord (list_for input)
  of_choice P each h =
      let l = (choice_exactly w).lowest h in
      subst (P w c) (sym (listed h))
      (subst (λ (v : World). Such v c → OwnBallot v c b → P v c (closing v c b)) (sym (input_runs input)) (each c b) l.such l.ballot)
    where
      c : ℕ
      c = (choice_of w).coord

      b : ℕ
      b = (choice_of w).ballot

  list_closes : ListCloses input
  list_closes = of_choice Closes (such_closes (steps_of input))

  list_finishes : ListFinishes input
  list_finishes =
      let steps = steps_of input in
      of_choice
      (λ v c list.
      (s t : List Batch) → IsSequence (history steps) s → IsSequence (history (steps ++ list)) t
      → Finished steps list c (current_of v c) s t)
      (closes_in_sequence steps)

  -- by the ballot of the choice: none, or one with its list
  by_choice : (P : List Step → Type 0) → P [] → (0 < (choice_of w).ballot → P (list_for input)) → P (list_for input)
  by_choice P none some = go (eqb (choice_of w).ballot 0) refl
    where
      go : (t : Bool) → eqb (choice_of w).ballot 0 ≡ t → P (list_for input)
      go true e = rw e none
      go false e = some (let z : ((choice_of w).ballot ≡ 0 → ⊥) = eqb-false (choice_of w).ballot 0 e in omega arith)

  list_accepted : AllAccepted w (list_for input)
  list_accepted = by_choice (AllAccepted w) tt (λ h. (list_closes h).answered)

  list_steps : Each OfList (list_for input)
  list_steps = by_choice (Each OfList) tt (λ h. subst (Each OfList) (sym (listed h)) (closing_steps _ _ _))

pub every_list_closes : EveryListCloses
every_list_closes input = list_closes input

pub every_list_finishes : EveryListFinishes
every_list_finishes input = list_finishes input

-- ---- an empty list prints nothing, and no other does

-- a line has its LF
line_some : (s : Step) (rest : List ℕ) → text s ++ end ++ rest ≡ [] → ⊥
line_some s rest e = omega (arith, ap length e, length-append (text s ++ end) rest, length-append (text s) end)

no_steps : (steps : List Step) → steps_text steps ≡ [] → steps ≡ []
unfolding steps_text
no_steps [] e = refl
no_steps (s ∷ steps) e = absurd (line_some s (steps_text steps) e)

pub prints_nothing_exactly : PrintsNothingExactly
unfolding finish steps_text
prints_nothing_exactly input =
    let exactly = nothing_exactly (world_for input) in
    (λ e. exactly.0 (no_steps (list_for input) e), λ f. ap steps_text (exactly.1 f))

-- ---- the lines of the list, read

-- each step of a list that is accepted from a reachable world
reads_all : (pre steps : List Step) (w : World) → w ≡ run fresh_world pre → Each OfList steps → AllAccepted w steps → Each ReadsAsStep steps
reads_all pre [] w e o a = tt
reads_all pre (s ∷ steps) w e o a =
    (reads_as_step w s (subst FewCount (sym e) (few_counted pre)) o.0 a.0, reads_all (pre ++ s ∷ []) steps (step_of w s).world next o.1 a.1)
  where
    next : (step_of w s).world ≡ run fresh_world (pre ++ s ∷ [])
    next = ap (λ (v : World). (step_of v s).world) e ∙ unfold run in sym (run_append pre (s ∷ []) fresh_world)

-- what a line asks for
command_is : (s : Step) → ReadsAsStep s → command_of (text s) ≡ Ok s
unfolding command_of
command_is s r = rw (le-ltb max_line_bytes (length (text s)) r.short, r.reads)

step_of_line_lem : (s : Step) → ReadsAsStep s → step_of_line (text s) ≡ s ∷ []
step_of_line_lem s r = rw (le-ltb max_line_bytes (length (text s)) r.short, r.reads)

steps_read : (steps : List Step) → Each ReadsAsStep steps → steps_in (map text steps) ≡ steps
unfolding steps_in
steps_read [] r = refl
steps_read (s ∷ steps) r = λ i. step_of_line_lem s r.0 i ++ steps_read steps r.1 i

-- where each step is accepted, so is its line
answers_read : (steps : List Step) (w : World) → Each ReadsAsStep steps → AllAccepted w steps
    → answers_to w (map command_of (map text steps)) ≡ replicate (length steps) (answer_number accepted)
unfolding answers_to
answers_read [] w r a = refl
answers_read (s ∷ steps) w r a =
    ap (λ (o : Command). answer_number (carried_out w o).answer ∷ answers_to (carried_out w o).world (map command_of (map text steps))) (command_is s r.0)
    ∙ (λ i. answer_number (a.0 i) ∷ answers_read steps (step_of w s).world r.1 a.1 i)

world_read : (steps : List Step) (w : World) → Each ReadsAsStep steps → world_after w (map command_of (map text steps)) ≡ run w steps
unfolding world_after run
world_read [] w r = refl
world_read (s ∷ steps) w r =
    ap (λ (o : Command). world_after (carried_out w o).world (map command_of (map text steps))) (command_is s r.0)
    ∙ world_read steps (step_of w s).world r.1

-- ---- commands one after the other

commands_of_lem : (ls : List (List ℕ)) (n : ℕ) → n + length ls ≤ max_lines → commands_from n ls ≡ map command_of ls
unfolding commands_from
commands_of_lem [] n h = refl
commands_of_lem (l ∷ ls) n h = rw (lt-leb max_lines n (omega arith)) (ap (λ (os : List Command). command_of l ∷ os) (commands_of_lem ls (suc n) (omega arith)))

map_append : {A B : Type 0} (f : A → B) (xs ys : List A) → map f (xs ++ ys) ≡ map f xs ++ map f ys
map_append f [] ys = refl
map_append f (x ∷ xs) ys = ap (λ r. f x ∷ r) (map_append f xs ys)

world_append : (xs ys : List Command) (w : World) → world_after w (xs ++ ys) ≡ world_after (world_after w xs) ys
unfolding world_after
world_append [] ys w = refl
world_append (x ∷ xs) ys w = world_append xs ys (carried_out w x).world

answers_append : (xs ys : List Command) (w : World) → answers_to w (xs ++ ys) ≡ answers_to w xs ++ answers_to (world_after w xs) ys
unfolding answers_to world_after
answers_append [] ys w = refl
answers_append (x ∷ xs) ys w = ap (λ (a : List ℕ). answer_number (carried_out w x).answer ∷ a) (answers_append xs ys (carried_out w x).world)

steps_append : (xs ys : List (List ℕ)) → steps_in (xs ++ ys) ≡ steps_in xs ++ steps_in ys
unfolding steps_in
steps_append [] ys = refl
steps_append (x ∷ xs) ys = ap (λ (s : List Step). step_of_line x ++ s) (steps_append xs ys) ∙ sym (append_assoc (step_of_line x) (steps_in xs) (steps_in ys))

-- ---- the file and the list together

module _ (input : List ℕ) (left : LinesLeft input) where
  abbrev own : List (List ℕ)
  own = lines input

  abbrev list : List Step
  list = list_for input

  reads : Each ReadsAsStep list
  reads = reads_all (steps_of input) list (world_for input) (input_runs input) (list_steps input) (list_accepted input)

  no_lfs : (steps : List Step) → Each ReadsAsStep steps → Each (λ s. no_lf_lem (text s) ≡ true) steps
  no_lfs [] r = tt
  no_lfs (s ∷ steps) r = (r.0.no_lf, no_lfs steps r.1)

  all_lines : lines (joined input) ≡ own ++ map text list
  unfolding finish
  all_lines = lines_joined input (finish input) ∙ ap (λ (ls : List (List ℕ)). own ++ ls) (lines_of_steps list (no_lfs list reads))

  -- they are few enough
  few : 0 + length (own ++ map text list) ≤ max_lines
  few = omega (arith, length-append own (map text list), length-map list text)

  all_commands : commands_from 0 (lines (joined input)) ≡ map command_of own ++ map command_of (map text list)
  all_commands = ap (commands_from 0) all_lines ∙ commands_of_lem (own ++ map text list) 0 few ∙ map_append command_of own (map text list)

  own_commands : commands_from 0 own ≡ map command_of own
  own_commands = commands_of_lem own 0 (omega arith)

  own_world : world_after fresh_world (map command_of own) ≡ world_for input
  own_world = ap (world_after fresh_world) (sym own_commands)

  all_steps : steps_of (joined input) ≡ steps_of input ++ list
  all_steps =
      ap (λ (ls : List (List ℕ)). steps_in (take max_lines ls)) all_lines
      ∙ ap steps_in (take_all max_lines (own ++ map text list) (omega (arith, few)))
      ∙ steps_append own (map text list)
      ∙ (λ i. steps_in (sym (take_all max_lines own (omega arith)) i) ++ steps_read list reads i)

  all_answers : answers_for (joined input) ≡ answers_for input ++ replicate (length list) (answer_number accepted)
  all_answers =
      ap (answers_to fresh_world) all_commands
      ∙ answers_append (map command_of own) (map command_of (map text list)) fresh_world
      ∙ (λ i. answers_to fresh_world (sym own_commands i) ++ answers_to (own_world i) (map command_of (map text list)))
      ∙ ap (λ (a : List ℕ). answers_for input ++ a) (answers_read list (world_for input) reads (list_accepted input))

  all_world : world_for (joined input) ≡ run (world_for input) list
  all_world =
      ap (world_after fresh_world) all_commands
      ∙ world_append (map command_of own) (map command_of (map text list)) fresh_world
      ∙ ap (λ (v : World). world_after v (map command_of (map text list))) own_world
      ∙ world_read list (world_for input) reads

pub file_continues : FileContinues
file_continues input left = record { steps = all_steps input left; answers = all_answers input left; world = all_world input left }
