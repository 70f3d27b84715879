-- What a gathered line does, by its reading.
use Prim.Native.Nat.{ℕ, ◌≤◌, ◌<◌}
use mathlib.Core.Bool.{false, true}
use mathlib.Core.List.{List}
use mathlib.Core.Path.{◌≡◌, ◌∙◌, ap}
use borrow.Author.Tests.{le-leb, lt-leb}
use Rattle.log_entry.specs.declared.Entry.{Entry}
use Rattle.log_entry.specs.Refusal.{no_place, unreadable}
use Rattle.log_core.specs.declared.Log.{Log}
use Rattle.log_core.specs.Enter.{answered}
use Rattle.text_entry.specs.declared.Unread.{Unread}
use Rattle.std.specs.Prelude.{Result}
use Rattle.text_entry.specs.Entry.{reading}
use Rattle.text_lines.specs.declared.Line.{Line}
use Rattle.text_lines.specs.Line.{bytes_of, too_long}
use Rattle.text_lines.specs.Lines.{max_lines}
use Rattle.plain_run.specs.Plain.{entering}
use Rattle.plain_run.specs.Session.{enter_held, line_entered}

module _ (l : Log) (line : Line) where
  pub held_long : too_long line ≡ true → answered l unreadable ≡ enter_held l line
  unfolding enter_held
  held_long h = rw h

  pub held_short : too_long line ≡ false → (s : List ℕ) → s ≡ bytes_of line → (r : Result Entry Unread) → r ≡ reading s → entering l r ≡ enter_held l line
  unfolding enter_held
  held_short h s e r k = rw h (ap (entering l) (k ∙ ap reading e))

  module _ (count : ℕ) where
    pub last_line : max_lines ≤ count → answered l no_place ≡ line_entered l count line
    last_line h = rw (le-leb max_lines count h)

    pub usual_line : count < max_lines → enter_held l line ≡ line_entered l count line
    usual_line h = rw (lt-leb max_lines count h)
