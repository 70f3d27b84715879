-- What the program `plain` promises: all that was read is answered.
use Rattle.std.specs.Prelude.{ℕ, List, Option}
use Rattle.text_io.specs.declared.Exchange.{Exchange}
use Rattle.text_io.specs.Exchange.{Answered as AnsweredBy, AnsweredOf as AnsweredByOf}
use Rattle.plain_run.specs.declared.Session.{Session}
use Rattle.plain_run.specs.Printed.{Prints}
use Rattle.plain_run.specs.Session.{answer_line, fresh_session, is_over}

-- "The program `plain` reads standard input and prints [..]": what is printed of the buffer is what
-- `plain` says of all bytes read. Pieces were read in order, up to the end of the input or to line
-- 1,001.
abbrev pub Answered : Exchange Session → List ℕ → Type 0
Answered = AnsweredBy (λ s. s) is_over answer_line fresh_session Prints

-- and the bytes read are what a reader gave that has `left` before, and `rest` after
abbrev pub AnsweredOf : (left rest : Option (List ℕ)) → Exchange Session → List ℕ → Type 0
AnsweredOf = AnsweredByOf (λ s. s) is_over answer_line fresh_session Prints
