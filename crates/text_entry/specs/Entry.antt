-- The line of an entry, as `plain` reads it: how it is written, and how it reads.
use Rattle.std.specs.Prelude.{ℕ, ◌<◌, ◌^◌, Bool, true, false, cond, List, [], ◌∷◌, ◌⊎◌, ◌≡◌, eqb, Result, Ok, Err}
use Rattle.std.proofs.Math.Option.{Option}
use Rattle.log_entry.specs.declared.Entry.{Entry}
use Rattle.log_entry.specs.Entry.{by_of, is_take, list_of, says_commit, take_entry, tx_of, update_in, vote_entry}
use Rattle.log_entry.specs.Limits.{first_turn, lists}
use Rattle.text_ascii.specs.Hex.{earlier_digits, update_digits}
use Rattle.text_entry.specs.declared.Unread.{Unread}
use Rattle.text_entry.specs.declared.Unread.TheVariants.{Unreadable, Outside}
use Rattle.text_entry.specs.Fields.{Presence, absent, always, in_hex, line_text}
use Rattle.text_entry.specs.Kinds.{take_kind, take_with, vote_kind, vote_with}
use Rattle.text_entry.specs.Table.{Reader, any_beyond, answer_of, at, read_first, reader}

-- say is 0 for abort and 1 for commit
abbrev pub say_of : Bool → ℕ
say_of c = cond c 1 0

-- the values of the fields of a take, and of a vote
abbrev pub take_values : Entry → List ℕ
take_values e = e.process ∷ e.turn ∷ e.store ∷ []

abbrev pub vote_values : Entry → List ℕ
vote_values e = e.process ∷ e.turn ∷ by_of e ∷ e.store ∷ tx_of e ∷ list_of e ∷ say_of (says_commit e) ∷ update_in e ∷ []

-- a way of writing an entry: whether its turn is shown, and how many digits its update has
pub record Way : Type 0 where
  pub shown : Bool
  pub digits : ℕ

-- "Lines with eight digits are still read": a way of writing is known with sixteen or eight
abbrev pub Known : Way → Type 0
Known w = (w.digits ≡ update_digits) ⊎ (w.digits ≡ earlier_digits)

-- with its turn, and "printed as sixteen digits"
abbrev pub in_full : Way
in_full = record { shown = true; digits = update_digits }

-- the turn in a line that shows it, and in one that does not
abbrev pub turn_in : Bool → Presence
turn_in true = always
turn_in false = absent first_turn

-- "A line without it means turn 1": the turn is shown, or it is turn 1
abbrev pub HasTurnIn : Bool → ℕ → Type 0
HasTurnIn true t = Unit {0}
HasTurnIn false t = t ≡ first_turn

-- the line of an entry, written in this way; its numbers but for the update are of any size
unfoldable pub text_in : Way → Entry → List ℕ
text_in w e =
    cond (is_take e)
    (line_text (take_with (turn_in w.shown)) (take_values e))
    (line_text (vote_with (turn_in w.shown) (in_hex w.digits)) (vote_values e))

-- an entry has such a text if it has its turn, and is a take, what a take does not use being 0, or
-- a vote whose list and update have their digits
abbrev pub HasTextIn : Way → Entry → Type 0
HasTextIn w e =
    HasTurnIn w.shown e.turn
    × ((e ≡ take_entry e.process e.turn e.store) ⊎ ((is_take e ≡ false) × (list_of e < lists) × (update_in e < 16 ^ w.digits)))

abbrev pub text : Entry → List ℕ
text e = text_in in_full e

abbrev pub HasText : Entry → Type 0
HasText e = HasTextIn in_full e

-- the entry of a line's values
abbrev pub take_of : List ℕ → Entry
take_of vs = take_entry (at vs 0) (at vs 1) (at vs 2)

abbrev pub vote_of : List ℕ → Entry
vote_of vs = vote_entry (at vs 0) (at vs 1) (at vs 2) (at vs 3) (at vs 4) (at vs 5) (eqb (at vs 6) 1) (at vs 7)

abbrev pub entry_readers : List (Reader Entry)
entry_readers = reader take_kind take_of ∷ reader vote_kind vote_of ∷ []

-- the entry that a line reads as, whose numbers are of any size
unfoldable pub read_entry : List ℕ → Option Entry
read_entry s = read_first entry_readers s

-- the numbers of an entry, but for its update, which may be any
abbrev pub numbers : Entry → List ℕ
numbers e = e.process ∷ e.turn ∷ by_of e ∷ e.store ∷ tx_of e ∷ list_of e ∷ []

-- one of them is beyond a byte
abbrev pub beyond : Entry → Bool
beyond e = any_beyond (numbers e)

abbrev pub reading_of : Option Entry → Result Entry Unread
reading_of = answer_of beyond Ok (Err Outside) (Err Unreadable)

-- what the reader answers: `Err Outside` if a number is beyond a byte; what else is outside its
-- limits, the log refuses
abbrev pub reading : List ℕ → Result Entry Unread
reading s = reading_of (read_entry s)

-- a reading that has no value for a number beyond a byte
abbrev pub is_outside : {A : Type 0} → Result A Unread → Bool
is_outside (Ok a) = false
is_outside (Err Outside) = true
is_outside (Err Unreadable) = false
