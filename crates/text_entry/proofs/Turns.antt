-- A line that shows a turn, or is without it.
use Prim.Native.Nat.{ℕ}
use mathlib.Core.Bool.{Bool, true, false}
use mathlib.Core.List.{List, ◌∷◌, ◌++◌}
use mathlib.Core.Logic.{◌⊎◌, inl, inr}
use Rattle.text_ascii.specs.Bytes.{ascii}
use Rattle.text_entry.specs.Entry.{HasTurnIn, turn_in}
use Rattle.text_entry.specs.Fields.{Field, Kind, Presence, in_decimal, kind}
use Rattle.text_entry.specs.Kinds.{turn, turn_presence}
use Rattle.text_entry.proofs.LineTexts.{LineIs, WritableIn, in_absent, in_shown, which_shown}

-- a turn that has its text can be written, and the other way
pub turn_writable : (shown : Bool) (t : ℕ) → HasTurnIn shown t → WritableIn (turn_in shown) in_decimal t
turn_writable true t h = tt
turn_writable false t h = h

pub turn_written : (shown : Bool) (t : ℕ) → WritableIn (turn_in shown) in_decimal t → HasTurnIn shown t
turn_written true t h = tt
turn_written false t h = h

-- a kind of line with a turn, between these fields
module _ (name : List ℕ) (fs gs : List Field) (vs s : List ℕ) where
  abbrev turned : Presence → Kind
  turned p = kind name (fs ++ turn p ∷ gs)

  pub known_turn : (shown : Bool) → LineIs (turned (turn_in shown)) vs s → LineIs (turned turn_presence) vs s
  known_turn true h = in_shown (ascii "turn") in_decimal _ name fs gs vs s h
  known_turn false h = in_absent (ascii "turn") in_decimal _ name fs gs vs s h

  pub which_turn : LineIs (turned turn_presence) vs s → (shown : Bool) × LineIs (turned (turn_in shown)) vs s
  which_turn h = go (which_shown (ascii "turn") in_decimal _ name fs gs vs s h)
    where
      go : LineIs (turned (turn_in true)) vs s ⊎ LineIs (turned (turn_in false)) vs s → (shown : Bool) × LineIs (turned (turn_in shown)) vs s
      go (inl k) = (true, k)
      go (inr k) = (false, k)
