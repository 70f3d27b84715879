-- What a program promises: what it prints is what it says of all bytes that were read. S are its
-- sessions, T their states, and `printing` says of an input's bytes, of a buffer and of a count that
-- so many first bytes of the buffer are what is printed.
use Rattle.std.specs.Prelude.{ℕ, Bool, List, Option, ◌≡◌}
use Rattle.std.specs.Io.KnownBytes.{Consumes}
use Rattle.text_lines.specs.declared.Input.{Input}
use Rattle.text_lines.specs.declared.Line.{Line}
use Rattle.text_lines.specs.Feed.{fed, fresh, state_of}
use Rattle.text_io.specs.declared.Exchange.{Exchange}
use Rattle.text_io.specs.Reading.{WasRead, bytes_read}

module _ {S T : Type 0} (state : S → T) (over : T → Bool) (step : T → Line → T) (first : T)
    (printing : List ℕ → List ℕ → ℕ → Type 0) where
  -- of the bytes that the input was fed, whatever they are
  abbrev pub PrintsFed : Input S → List ℕ → ℕ → Type 0
  PrintsFed i buffer used = (bytes : List ℕ) → state_of state i ≡ fed over step (fresh first) bytes → printing bytes buffer used

  -- of the bytes that were read, if all were
  abbrev pub PrintsRead : Exchange S → List ℕ → Type 0
  PrintsRead x buffer = (read : WasRead state over step first x.reading) → printing (bytes_read read) buffer x.printed

  -- all were read, and it is printed of them
  pub record Answered (x : Exchange S) (buffer : List ℕ) : Type 0 where
    pub read : WasRead state over step first x.reading
    pub prints : printing (bytes_read read) buffer x.printed

  -- and the bytes read are what a reader gave that has `left` before, and `rest` after
  abbrev pub AnsweredOf : Option (List ℕ) → Option (List ℕ) → Exchange S → List ℕ → Type 0
  AnsweredOf left rest x buffer = (answered : Answered x buffer) × Consumes left rest (bytes_read answered.read)
