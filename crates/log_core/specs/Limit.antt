-- Document 02: "Each log is opened with one of the two limits and keeps it."
use Rattle.std.specs.Prelude.{ℕ, false, List, [], ◌∷◌, ◌≡◌}
use Rattle.log_entry.specs.declared.Entry.{Entry}
use Rattle.log_entry.specs.Entry.{outside}
use Rattle.log_core.specs.Enter.{feed}
use Rattle.log_core.specs.Log.{opened}

-- whatever it is fed, the log has the limit that it was opened with
abbrev pub KeepsLimit : Type 0
KeepsLimit = (n : ℕ) (es : List Entry) → (feed (opened n) es).stores ≡ n

-- each entry is within the limits of a log of limit n
abbrev pub AllInside : ℕ → List Entry → Type 0
AllInside n [] = Unit {0}
AllInside n (e ∷ es) = (outside n e ≡ false) × AllInside n es
