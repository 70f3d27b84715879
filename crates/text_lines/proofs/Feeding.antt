-- What is made of a gathered line, and a machine that is fed piece by piece.
use Prim.Native.Nat.{ℕ, ◌≤◌, ◌<◌}
use native.Mathlib.Omega.{arith}
use native.Mathlib.Decide.{dec_lt}
use mathlib.Core.Bool.{Bool, cond}
use mathlib.Core.List.{List, [], ◌∷◌}
use mathlib.Core.Path.{◌≡◌, refl, sym, ◌∙◌, ap}
use lib.Dec.{ltb}
use lib.ListN.{length, take}
use borrow.Author.Tests.{le-ltb, lt-ltb}
use Rattle.text_lines.specs.declared.Line.{Line}
use Rattle.text_lines.specs.Feed.{Fed, fed, fed_all, joined}
use Rattle.text_lines.specs.Line.{bytes_of, too_long}
use Rattle.text_lines.specs.Lines.{max_line_bytes}
use Rattle.text_lines.proofs.Stream.{Holds, fed_in_pieces}

-- what is made of a gathered line, unless it is too long, is made of its bytes
pub held_is_line : {A : Type 0} (long : A) (short : List ℕ → A) (line : Line) (b : List ℕ) → Holds line b
    → cond (too_long line) long (short (bytes_of line)) ≡ cond (ltb max_line_bytes (length b)) long (short b)
held_is_line long short line b h = elim (dec_lt max_line_bytes (length b)) [
  | yes k ↦ rw (lt-ltb max_line_bytes (length b) k, lt-ltb max_line_bytes line.length (omega (arith, h.long k)))
  | no k ↦
      let n : line.length ≡ length b = h.count (omega arith) in
      let e : bytes_of line ≡ b = ap (λ (m : ℕ). take m line.bytes) n ∙ h.bytes (omega arith) in
      rw (le-ltb max_line_bytes (length b) (omega arith), le-ltb max_line_bytes line.length (omega arith)) (ap short e)
]

-- However the input was cut into pieces, the machine ends the same.
pub all_is_joined : {S : Type 0} (over : S → Bool) (step : S → Line → S) (f : Fed S) (ps : List (List ℕ)) → fed_all over step f ps ≡ fed over step f (joined ps)
unfolding fed
all_is_joined over step f [] = refl
all_is_joined over step f (p ∷ ps) = all_is_joined over step (fed over step f p) ps ∙ sym (fed_in_pieces over step f p (joined ps))
