-- A machine that is fed lines, and the same machine fed bytes in pieces of any length.
use Rattle.std.specs.Prelude.{ℕ, Bool, ◌||◌, cond, List, [], ◌∷◌, ◌++◌, eqb}
use Rattle.text_lines.specs.declared.Input.{Input}
use Rattle.text_lines.specs.declared.Line.{Line}
use Rattle.text_lines.specs.Line.{no_line, with}
use Rattle.text_lines.specs.Lines.{lf}

-- a machine and the line that it gathers
pub record Fed (S : Type 0) : Type 0 where
  pub state : S
  pub line : Line

abbrev pub fresh : {S : Type 0} → S → Fed S
fresh s = record { state = s; line = no_line }

-- an input as a machine that is fed, where `state` is the state that its session stands for
abbrev pub state_of : {I S : Type 0} → (I → S) → Input I → Fed S
state_of state i = record { state = state i.session; line = i.line }

-- S are the machine's states, `over` those in which the reading has ended, `step` what a line does
module _ {S : Type 0} (over : S → Bool) (step : S → Line → S) where
  abbrev pub fed_byte : Fed S → ℕ → Fed S
  fed_byte f c = cond (eqb c lf) (fresh (step f.state f.line)) (record { state = f.state; line = with f.line c })

  -- fed the bytes of a piece
  unfoldable pub fed : Fed S → List ℕ → Fed S
  fed f [] = f
  fed f (c ∷ s) = cond (over f.state) f (fed (fed_byte f c) s)

  -- at the end of the input, a line that has begun is a line
  unfoldable pub finished : Fed S → S
  finished f = cond (over f.state || eqb f.line.length 0) f.state (step f.state f.line)

  -- fed piece by piece
  abbrev pub fed_all : Fed S → List (List ℕ) → Fed S
  fed_all f [] = f
  fed_all f (p ∷ ps) = fed_all (fed f p) ps

-- the bytes of pieces, in order
abbrev pub joined : List (List ℕ) → List ℕ
joined [] = []
joined (p ∷ ps) = p ++ joined ps

-- fed whole lines, until the reading has ended
module _ {S : Type 0} (over : S → Bool) (step : S → List ℕ → S) where
  unfoldable pub fed_lines : S → List (List ℕ) → S
  fed_lines s [] = s
  fed_lines s (l ∷ ls) = cond (over s) s (fed_lines (step s l) ls)
