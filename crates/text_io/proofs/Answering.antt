-- What a program answers, from what was read and what is printed of it.
use Prim.Native.Nat.{ℕ}
use mathlib.Core.Bool.{Bool}
use mathlib.Core.List.{List}
use mathlib.Core.Path.{◌≡◌, sym, subst}
use Rattle.std.specs.Prelude.{Option}
use Rattle.text_lines.specs.declared.Line.{Line}
use Rattle.text_io.specs.declared.Exchange.{Exchange}
use Rattle.text_io.specs.declared.Reading.{Reading}
use Rattle.text_io.specs.Exchange.{AnsweredOf, PrintsRead}
use Rattle.text_io.specs.Reading.{WasReadOf}

module _ {S T : Type 0} (state : S → T) (over : T → Bool) (step : T → Line → T) (first : T) (printing : List ℕ → List ℕ → ℕ → Type 0) where
  pub answered_of : (x : Exchange S) (buffer : List ℕ) (left rest : Option (List ℕ)) (r : Reading S) → x.reading ≡ r → WasReadOf state over step first left rest r → PrintsRead state over step first printing x buffer → AnsweredOf state over step first printing left rest x buffer
  answered_of x buffer left rest r e k p =
      let read : WasReadOf state over step first left rest x.reading = subst (WasReadOf state over step first left rest) (sym e) k in
      (record { read = read.0; prints = p read.0 }, read.1)
