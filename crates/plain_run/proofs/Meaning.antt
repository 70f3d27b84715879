-- However the input is cut into pieces, what the functions under `main` print is what `plain` says.
use Prim.Native.Nat.{ℕ, ◌≤◌}
use native.Mathlib.Omega.{arith}
use mathlib.Core.Bool.{Bool, true, false, cond}
use mathlib.Core.List.{List, [], ◌∷◌, ◌++◌}
use mathlib.Core.Path.{◌≡◌, refl, sym, ◌∙◌, ap}
use lib.Dec.{leb, ltb}
use borrow.Author.Tests.{ltb-false}
use Rattle.log_entry.specs.Number.{answer_number}
use Rattle.log_entry.specs.Refusal.{no_place, unreadable}
use Rattle.log_core.specs.declared.Entered.{Entered}
use Rattle.log_core.specs.declared.Log.{Log}
use Rattle.log_core.specs.Enter.{answered}
use Rattle.text_lines.specs.declared.Line.{Line}
use Rattle.text_lines.specs.Answers.{answers_of}
use Rattle.text_lines.specs.Feed.{Fed, fed, fed_lines, finished, fresh, joined}
use Rattle.text_lines.specs.Lines.{lines, max_lines}
use Rattle.text_lines.proofs.Feeding.{all_is_joined, held_is_line}
use Rattle.text_lines.proofs.Noting.{Sound, counts, noted_answers, noted_sound}
use Rattle.text_lines.proofs.Stream.{Holds, stream_is_lines}
use Rattle.plain_run.specs.declared.Session.{Session}
use Rattle.plain_run.specs.Claims.{PiecesArePlain}
use Rattle.plain_run.specs.Plain.{Run, after_line, enter_line, entering, noted as plain_noted, over, plain, printed}
use Rattle.plain_run.specs.Session.{answer_line, enter_held, fresh_session, is_over, noted, output, run_of}
use Rattle.text_entry.specs.Entry.{reading}

-- ---- a line by its bytes

held_enters : (l : Log) (line : Line) (b : List ℕ) → Holds line b → enter_held l line ≡ enter_line l b
unfolding enter_held enter_line
held_enters l line b h = held_is_line (answered l unreadable) (λ (s : List ℕ). entering l (reading s)) line b h

-- what a line's bytes do to a session
answer_bytes : Session → List ℕ → Session
answer_bytes s b = noted s (cond (leb max_lines s.answers.count) (answered s.log no_place) (enter_line s.log b))

meets : (s : Session) (line : Line) (b : List ℕ) → Holds line b → answer_line s line ≡ answer_bytes s b
unfolding answer_line answer_bytes
meets s line b h = ap (λ (e : Entered). noted s (cond (leb max_lines s.answers.count) (answered s.log no_place) e)) (held_enters s.log line b h)

-- ---- a session stands for a run

over_is : (s : Session) → Sound s.answers → over (run_of s) ≡ is_over s
over_is s h = ap (ltb max_lines) (counts s.answers h)

line_is : (s : Session) (b : List ℕ) → Sound s.answers → s.answers.count ≤ max_lines → run_of (answer_bytes s b) ≡ after_line (run_of s) b
unfolding answer_bytes after_line
line_is s b h k =
    let e : Entered = cond (leb max_lines s.answers.count) (answered s.log no_place) (enter_line s.log b) in
    let p : run_of (noted s e) ≡ record { log = e.log; answers = answers_of s.answers ++ answer_number e.answer ∷ [] } = (λ i. record { log = e.log; answers = noted_answers s.answers (answer_number e.answer) h k i }) in
    p ∙ ap (λ (n : ℕ). plain_noted (run_of s) (cond (leb max_lines n) (answered s.log no_place) (enter_line s.log b))) (sym (counts s.answers h))

lines_are : (s : Session) (ls : List (List ℕ)) → Sound s.answers → run_of (fed_lines is_over answer_bytes s ls) ≡ fed_lines over after_line (run_of s) ls
unfolding fed_lines answer_bytes
lines_are s [] h = refl
lines_are s (l ∷ ls) h = go (is_over s) refl (over_is s h) (lines_are (answer_bytes s l) ls)
  where
    go : (o : Bool) → is_over s ≡ o → over (run_of s) ≡ is_over s
        → (Sound (answer_bytes s l).answers → run_of (fed_lines is_over answer_bytes (answer_bytes s l) ls) ≡ fed_lines over after_line (run_of (answer_bytes s l)) ls)
        → run_of (cond o s (fed_lines is_over answer_bytes (answer_bytes s l) ls)) ≡ cond (over (run_of s)) (run_of s) (fed_lines over after_line (after_line (run_of s) l) ls)
    go true k e ih = rw (e ∙ k)
    go false k e ih =
        let m : s.answers.count ≤ max_lines = ltb-false max_lines s.answers.count k in
        rw (e ∙ k) (ih (noted_sound s.answers _ h m) ∙ ap (λ (r : Run). fed_lines over after_line r ls) (line_is s l h m))

-- ---- the whole

-- What is printed of an input's bytes is what `plain` says of them.
pub output_is_plain : (input : List ℕ) → output (finished is_over answer_line (fed is_over answer_line (fresh fresh_session) input)) ≡ plain input
unfolding plain
output_is_plain input =
    ap output (stream_is_lines is_over answer_line answer_bytes meets fresh_session input)
    ∙ ap printed (lines_are fresh_session (lines input) (record { room = refl; count = omega arith }))

pub pieces_are_plain : PiecesArePlain
pieces_are_plain pieces =
    ap (λ (f : Fed Session). output (finished is_over answer_line f)) (all_is_joined is_over answer_line (fresh fresh_session) pieces) ∙ output_is_plain (joined pieces)
