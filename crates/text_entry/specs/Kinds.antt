-- The fields and kinds of steps, as document 01 lists them: `take proc store`, `vote proc by store
-- tx list say upd` (say is commit or abort). Document 02: "Takes and votes gain `turn=`, 1 to 255,
-- after `proc=`".
use Rattle.std.specs.Prelude.{[], ◌∷◌}
use Rattle.log_entry.specs.Limits.{first_turn}
use Rattle.text_ascii.specs.Bytes.{ascii}
use Rattle.text_ascii.specs.Hex.{earlier_digits, list_digits, update_digits}
use Rattle.text_entry.specs.Fields.{Form, in_decimal, in_hex, in_hex_or, in_words, Presence, optional, Field, field, field_in, Kind, kind}

abbrev pub proc : Field
proc = field (ascii "proc") in_decimal

-- a turn, which is or is not shown
abbrev pub turn : Presence → Field
turn presence = field_in presence (ascii "turn") in_decimal

-- "A line without it means turn 1"
abbrev pub turn_presence : Presence
turn_presence = optional first_turn

abbrev pub by : Field
by = field (ascii "by") in_decimal

abbrev pub store : Field
store = field (ascii "store") in_decimal

abbrev pub tx : Field
tx = field (ascii "tx") in_decimal

-- "A list is two lower-case hexadecimal digits"
abbrev pub list : Field
list = field (ascii "list") (in_hex list_digits)

-- the value is 0 for abort and 1 for commit
abbrev pub say : Field
say = field (ascii "say") (in_words (ascii "abort" ∷ ascii "commit" ∷ []))

-- an update, written so
abbrev pub upd : Form → Field
upd form = field (ascii "upd") form

-- "printed as sixteen digits [..]. Lines with eight digits are still read and mean the same
-- number."
abbrev pub update_form : Form
update_form = in_hex_or update_digits earlier_digits

-- a take whose turn is shown or not
abbrev pub take_with : Presence → Kind
take_with presence = kind (ascii "take") (proc ∷ turn presence ∷ store ∷ [])

abbrev pub take_kind : Kind
take_kind = take_with turn_presence

-- a vote whose turn is shown or not, and whose update is written so
abbrev pub vote_with : Presence → Form → Kind
vote_with presence form = kind (ascii "vote") (proc ∷ turn presence ∷ by ∷ store ∷ tx ∷ list ∷ say ∷ upd form ∷ [])

abbrev pub vote_kind : Kind
vote_kind = vote_with turn_presence update_form
