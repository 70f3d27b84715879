-- What is claimed of an input and of the list that is printed for it.
use Rattle.std.specs.Prelude.{ℕ, ◌+◌, ◌≤◌, ◌<◌, List, [], ◌∷◌, ◌++◌, ◌↔◌, ◌≡◌, length, replicate}
use Rattle.log_entry.specs.Number.{answer_number}
use Rattle.log_entry.specs.Refusal.{accepted}
use Rattle.model_agreement.specs.Claim.{IsSequence}
use Rattle.model_agreement.specs.History.{history}
use Rattle.model_finish.specs.Choice.{choice_of}
use Rattle.model_finish.specs.Claims.{Closes, Finished}
use Rattle.model_finish.specs.Such.{Such, current_of}
use Rattle.model_protocol.specs.Batch.{Batch}
use Rattle.model_protocol.specs.Step.{run}
use Rattle.text_lines.specs.Lines.{lf, lines, max_lines}
use Rattle.world_run.specs.Program.{answers_for, world_for}
use Rattle.world_run.specs.Steps.{steps_of}
use Rattle.finish_run.specs.Joined.{ended, joined}
use Rattle.finish_run.specs.Program.{finish, list_for}

-- Where a coordinator was chosen, the list closes one more instance of it.
abbrev pub ListCloses : List ℕ → Type 0
ListCloses input =
    let w = world_for input in
    0 < (choice_of w).ballot → Closes w (choice_of w).coord (list_for input)

abbrev pub EveryListCloses : Type 0
EveryListCloses = (input : List ℕ) → ListCloses input

-- With demand 3: s is the sequence of the file, and t of the file and the list. Either the
-- coordinator learns what was decided already, or the sequence grows by one batch.
abbrev pub ListFinishes : List ℕ → Type 0
ListFinishes input =
    let w = world_for input in
    let c = (choice_of w).coord in
    0 < (choice_of w).ballot → (s t : List Batch)
    → IsSequence (history (steps_of input)) s → IsSequence (history (steps_of input ++ list_for input)) t
    → Finished (steps_of input) (list_for input) c (current_of w c) s t

abbrev pub EveryListFinishes : Type 0
EveryListFinishes = (input : List ℕ) → ListFinishes input

-- "and nothing exactly where no coordinator is such"
abbrev pub NothingIfNone : List ℕ → Type 0
NothingIfNone input = (finish input ≡ []) ↔ ((c : ℕ) → Such (world_for input) c → ⊥)

abbrev pub PrintsNothingExactly : Type 0
PrintsNothingExactly = (input : List ℕ) → NothingIfNone input

-- there are lines left for the list among the 1,000 that a program reads
abbrev pub LinesLeft : List ℕ → Type 0
LinesLeft input = length (lines input) + length (list_for input) ≤ max_lines

-- The lines printed, put after the file's own, are read as the steps of the list, and answered 0.
-- All that the file's own lines came to is as it was.
pub record Continues (input : List ℕ) : Type 0 where
  pub steps : steps_of (joined input) ≡ steps_of input ++ list_for input
  pub answers : answers_for (joined input) ≡ answers_for input ++ replicate (length (list_for input)) (answer_number accepted)
  pub world : world_for (joined input) ≡ run (world_for input) (list_for input)

abbrev pub FileContinues : Type 0
FileContinues = (input : List ℕ) → LinesLeft input → Continues input

-- A file whose last line has its LF is as it stands: then the lines are just appended.
abbrev pub EndedFileStands : Type 0
EndedFileStands = (input : List ℕ) → ended (input ++ lf ∷ []) ≡ input ++ lf ∷ []

-- And an LF more ends the last line of any other.
abbrev pub EndedReadsAlike : Type 0
EndedReadsAlike = (input : List ℕ) → lines (ended input) ≡ lines input
