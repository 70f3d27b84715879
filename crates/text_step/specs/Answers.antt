-- What the functions of the reader answer.
use Rattle.std.specs.Prelude.{ℕ, cond, List, [], ◌∷◌, ◌≡◌, Option, None, Some, Result, Ok, Err}
use Rattle.std.specs.Borrow.{Bor}
use Rattle.log_entry.specs.declared.Entry.{Entry}
use Rattle.model_steps.specs.declared.Role.{Role}
use Rattle.model_steps.specs.declared.Step.{Step}
use Rattle.model_steps.specs.declared.Step.TheVariants.{Request}
use Rattle.text_entry.specs.declared.Unread.{Unread}
use Rattle.text_entry.specs.declared.Unread.TheVariants.{Unreadable, Outside}
use Rattle.text_entry.specs.Read.{Part, part, unreadable}
use Rattle.text_entry.specs.Table.{no_byte}
use Rattle.text_step.specs.Step.{role_number}

-- a role and what is left of the line behind it, or nothing
abbrev pub role_read : Option (Role × Bor (List ℕ)) → Part
role_read None = unreadable
role_read (Some p) = part (role_number p.0) p.1.now

-- the values of a crash
abbrev pub crash_values : Option (Role × ℕ) → Option (List ℕ)
crash_values None = None
crash_values (Some p) = Some (role_number p.0 ∷ p.1 ∷ [])

-- the answer that was there stays, but for that to a line that did not read
abbrev pub OrElse : Result Step Unread → Result Step Unread → Type 0 → Type 0
OrElse (Ok s) r Otherwise = r ≡ Ok s
OrElse (Err Outside) r Otherwise = r ≡ Err Outside
OrElse (Err Unreadable) r Otherwise = Otherwise

-- the answer to a request, by that to its entry
abbrev pub request_of : Result Entry Unread → ℕ → Result Step Unread
request_of (Ok e) to = cond (no_byte to) (Err Outside) (Ok (Request e to))
request_of (Err unread) to = Err unread
