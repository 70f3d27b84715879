-- The lines of a file and of what is put after it.
use Prim.Native.Nat.{ℕ}
use mathlib.Core.Bool.{Bool, true, false, ◌&&◌, cond, not}
use mathlib.Core.List.{List, [], ◌∷◌, ◌++◌, append_assoc, append-nil, map}
use mathlib.Core.Path.{◌≡◌, ap, refl, sym, ◌∙◌}
use borrow.Author.Tests.{not-true}
use lib.Dec.{eqb}
use Rattle.log_entry.proofs.Tests.{and_left, and_right}
use Rattle.model_steps.specs.declared.Step.{Step}
use Rattle.finish_list.specs.Text.{steps_text}
use Rattle.text_lines.specs.Lines.{lf, lines, lines_from}
use Rattle.text_report.specs.Report.{end}
use Rattle.text_step.specs.Step.{text}
use Rattle.finish_run.specs.Claims.{EndedFileStands, EndedReadsAlike}
use Rattle.finish_run.specs.Joined.{ended, lacking}

-- ---- a file whose last line has its LF, and what comes after it

lines_after : (begun s t : List ℕ) → lines_from begun (s ++ lacking begun s ++ t) ≡ lines_from begun s ++ lines t
unfolding lines_from lacking
lines_after [] [] t = refl
lines_after (b ∷ begun) [] t = refl
lines_after begun (c ∷ s) t = go (eqb c lf) (lines_after [] s t) (lines_after (begun ++ c ∷ []) s t)
  where
    go : (e : Bool) → lines_from [] (s ++ lacking [] s ++ t) ≡ lines s ++ lines t
        → lines_from (begun ++ c ∷ []) (s ++ lacking (begun ++ c ∷ []) s ++ t) ≡ lines_from (begun ++ c ∷ []) s ++ lines t
        → cond e (begun ∷ lines_from [] (s ++ cond e (lacking [] s) (lacking (begun ++ c ∷ []) s) ++ t)) (lines_from (begun ++ c ∷ []) (s ++ cond e (lacking [] s) (lacking (begun ++ c ∷ []) s) ++ t))
        ≡ cond e (begun ∷ lines_from [] s) (lines_from (begun ++ c ∷ []) s) ++ lines t
    go true here on = ap (λ (x : List (List ℕ)). begun ∷ x) here
    go false here on = on

pub lines_joined : (s t : List ℕ) → lines (ended s ++ t) ≡ lines s ++ lines t
lines_joined s t = lines_after [] s t

pub ended_reads_alike : EndedReadsAlike
ended_reads_alike input = ap lines (sym (append-nil (ended input))) ∙ lines_joined input [] ∙ none (lines input)
  where
    none : (x : List (List ℕ)) → x ++ lines [] ≡ x
    none x = unfold lines_from in append-nil x

nothing_lacks : (begun s : List ℕ) → lacking begun (s ++ lf ∷ []) ≡ []
unfolding lacking
nothing_lacks begun [] = refl
nothing_lacks begun (c ∷ s) = go (eqb c lf) (nothing_lacks [] s) (nothing_lacks (begun ++ c ∷ []) s)
  where
    go : (e : Bool) → lacking [] (s ++ lf ∷ []) ≡ [] → lacking (begun ++ c ∷ []) (s ++ lf ∷ []) ≡ []
        → cond e (lacking [] (s ++ lf ∷ [])) (lacking (begun ++ c ∷ []) (s ++ lf ∷ [])) ≡ []
    go true here on = here
    go false here on = on

pub ended_file_stands : EndedFileStands
ended_file_stands input = ap (λ (x : List ℕ). input ++ lf ∷ [] ++ x) (nothing_lacks [] input) ∙ append-nil (input ++ lf ∷ [])

-- ---- the lines of steps

-- no LF is among the bytes
unfoldable pub no_lf_lem : List ℕ → Bool
no_lf_lem [] = true
no_lf_lem (c ∷ s) = not (eqb c lf) && no_lf_lem s

line_ends : (begun l rest : List ℕ) → no_lf_lem l ≡ true → lines_from begun (l ++ lf ∷ rest) ≡ (begun ++ l) ∷ lines rest
unfolding lines_from no_lf_lem
line_ends begun [] rest h = ap (λ (x : List ℕ). x ∷ lines rest) (sym (append-nil begun))
line_ends begun (c ∷ l) rest h =
    rw (not-true (eqb c lf) (and_left (not (eqb c lf)) (no_lf_lem l) h))
    (line_ends (begun ++ c ∷ []) l rest (and_right (not (eqb c lf)) (no_lf_lem l) h)
    ∙ ap (λ (x : List ℕ). x ∷ lines rest) (append_assoc begun (c ∷ []) l))

-- what holds of each step of a list
abbrev pub Each : (Step → Type 0) → List Step → Type 0
Each P [] = Unit {0}
Each P (s ∷ steps) = P s × Each P steps

pub lines_of_steps : (steps : List Step) → Each (λ s. no_lf_lem (text s) ≡ true) steps → lines (steps_text steps) ≡ map text steps
unfolding steps_text lines_from
lines_of_steps [] h = refl
lines_of_steps (s ∷ steps) h =
    ap lines (append_assoc (text s) end (steps_text steps))
    ∙ line_ends [] (text s) (steps_text steps) h.0
    ∙ ap (λ (x : List (List ℕ)). text s ∷ x) (lines_of_steps steps h.1)
