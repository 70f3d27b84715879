-- The line of a step, as `world` reads it: how it is written, and how it reads.
use Rattle.log_entry.specs.Entry.{is_take}
use Rattle.std.specs.Prelude.{ℕ, Bool, cond, List, [], ◌∷◌, ◌++◌, eqb, Result, Ok, Err}
use Rattle.std.proofs.Math.Option.{Option}
use Rattle.model_steps.specs.declared.Role.{Role}
use Rattle.model_steps.specs.declared.Role.TheVariants.{Acceptor, Coord, Proc}
use Rattle.model_steps.specs.declared.Step.{Step}
use Rattle.model_steps.specs.declared.Step.TheVariants.{Setup, Request, Open, Propose, Deliver, Tell, Restore, Follow, Crash, Back}
use Rattle.text_entry.specs.declared.Unread.{Unread}
use Rattle.text_entry.specs.declared.Unread.TheVariants.{Unreadable, Outside}
use Rattle.text_entry.specs.Entry as entry
use Rattle.text_entry.specs.Entry.{Way, in_full, turn_in}
use Rattle.text_entry.specs.Fields.{in_hex, line_text}
use Rattle.text_entry.specs.Table.{Reader, any_beyond, answer_of, at, read_first, reader}
use Rattle.text_step.specs.Kinds.{sent_take, sent_take_with, sent_vote, sent_vote_with, setup_kind, open_kind, propose_kind, deliver_kind, tell_kind, restore_kind, follow_kind, crash_kind, back_kind}

-- the index of a role's word
abbrev pub role_number : Role → ℕ
role_number Acceptor = 0
role_number Coord = 1
role_number Proc = 2

abbrev pub role_of : ℕ → Role
role_of n = cond (eqb n 0) Acceptor (cond (eqb n 1) Coord Proc)

-- the line of a step, an entry written in this way; its numbers but for an update are of any size
unfoldable pub text_in : Way → Step → List ℕ
text_in w (Setup n) = line_text setup_kind (n ∷ [])
text_in w (Request e to) =
    cond (is_take e)
    (line_text (sent_take_with (turn_in w.shown)) (entry.take_values e ++ to ∷ []))
    (line_text (sent_vote_with (turn_in w.shown) (in_hex w.digits)) (entry.vote_values e ++ to ∷ []))
text_in w (Open c i b) = line_text open_kind (c ∷ i ∷ b ∷ [])
text_in w (Propose c i b) = line_text propose_kind (c ∷ i ∷ b ∷ [])
text_in w (Deliver m) = line_text deliver_kind (m ∷ [])
text_in w (Tell c p tx) = line_text tell_kind (c ∷ p ∷ tx ∷ [])
text_in w (Restore c p) = line_text restore_kind (c ∷ p ∷ [])
text_in w (Follow c p tx) = line_text follow_kind (c ∷ p ∷ tx ∷ [])
text_in w (Crash r id) = line_text crash_kind (role_number r ∷ id ∷ [])
text_in w (Back p t) = line_text back_kind (p ∷ t ∷ [])

-- a request has such a text if its entry has one, and every other step has one
abbrev pub HasTextIn : Way → Step → Type 0
HasTextIn w (Setup n) = Unit {0}
HasTextIn w (Request e to) = entry.HasTextIn w e
HasTextIn w (Open c i b) = Unit {0}
HasTextIn w (Propose c i b) = Unit {0}
HasTextIn w (Deliver m) = Unit {0}
HasTextIn w (Tell c p tx) = Unit {0}
HasTextIn w (Restore c p) = Unit {0}
HasTextIn w (Follow c p tx) = Unit {0}
HasTextIn w (Crash r id) = Unit {0}
HasTextIn w (Back p t) = Unit {0}

abbrev pub text : Step → List ℕ
text s = text_in in_full s

abbrev pub HasText : Step → Type 0
HasText s = HasTextIn in_full s

-- the step of a line's values
abbrev pub take_of : List ℕ → Step
take_of vs = Request (entry.take_of vs) (at vs 3)

abbrev pub vote_of : List ℕ → Step
vote_of vs = Request (entry.vote_of vs) (at vs 8)

abbrev pub setup_of : List ℕ → Step
setup_of vs = Setup (at vs 0)

abbrev pub open_of : List ℕ → Step
open_of vs = Open (at vs 0) (at vs 1) (at vs 2)

abbrev pub propose_of : List ℕ → Step
propose_of vs = Propose (at vs 0) (at vs 1) (at vs 2)

abbrev pub deliver_of : List ℕ → Step
deliver_of vs = Deliver (at vs 0)

abbrev pub tell_of : List ℕ → Step
tell_of vs = Tell (at vs 0) (at vs 1) (at vs 2)

abbrev pub restore_of : List ℕ → Step
restore_of vs = Restore (at vs 0) (at vs 1)

abbrev pub follow_of : List ℕ → Step
follow_of vs = Follow (at vs 0) (at vs 1) (at vs 2)

abbrev pub crash_of : List ℕ → Step
crash_of vs = Crash (role_of (at vs 0)) (at vs 1)

abbrev pub back_of : List ℕ → Step
back_of vs = Back (at vs 0) (at vs 1)

-- The kinds of lines, in the order in which a line is tried. No line is of two kinds, so the order
-- is free: most lines of a trace deliver a message.
abbrev pub step_readers : List (Reader Step)
step_readers =
    reader deliver_kind deliver_of
    ∷ reader sent_take take_of
    ∷ reader sent_vote vote_of
    ∷ reader setup_kind setup_of
    ∷ reader open_kind open_of
    ∷ reader propose_kind propose_of
    ∷ reader tell_kind tell_of
    ∷ reader restore_kind restore_of
    ∷ reader follow_kind follow_of
    ∷ reader back_kind back_of
    ∷ reader crash_kind crash_of
    ∷ []

-- the step that a line reads as, whose numbers are of any size
unfoldable pub read_step : List ℕ → Option Step
read_step s = read_first step_readers s

-- the numbers of a step
abbrev pub numbers : Step → List ℕ
numbers (Setup n) = n ∷ []
numbers (Request e to) = entry.numbers e ++ to ∷ []
numbers (Open c i b) = c ∷ i ∷ b ∷ []
numbers (Propose c i b) = c ∷ i ∷ b ∷ []
numbers (Deliver m) = m ∷ []
numbers (Tell c p tx) = c ∷ p ∷ tx ∷ []
numbers (Restore c p) = c ∷ p ∷ []
numbers (Follow c p tx) = c ∷ p ∷ tx ∷ []
numbers (Crash r id) = id ∷ []
numbers (Back p t) = p ∷ t ∷ []

-- a number of the step is beyond a byte
abbrev pub beyond : Step → Bool
beyond s = any_beyond (numbers s)

abbrev pub reading_of : Option Step → Result Step Unread
reading_of = answer_of beyond Ok (Err Outside) (Err Unreadable)

-- what the reader answers: `Err Outside` if a number is beyond a byte; what else is outside its
-- limits, the world refuses
abbrev pub reading : List ℕ → Result Step Unread
reading s = reading_of (read_step s)
