-- The fields and kinds of the world's steps, as document 01 lists them beside those of an entry.
-- Document 02 adds two kinds.
use Rattle.std.specs.Prelude.{[], ◌∷◌, ◌++◌}
use Rattle.text_ascii.specs.Bytes.{ascii}
use Rattle.text_entry.specs.Decimals.{decimal_field}
use Rattle.text_entry.specs.Fields.{Field, Form, Kind, Presence, always, field, in_words, kind}
use Rattle.text_entry.specs.Kinds.{proc, take_with, turn, turn_presence, tx, update_form, vote_with}

abbrev pub to : Field
to = decimal_field (ascii "to")

abbrev pub acceptors : Field
acceptors = decimal_field (ascii "acceptors")

abbrev pub coord : Field
coord = decimal_field (ascii "coord")

abbrev pub inst : Field
inst = decimal_field (ascii "inst")

abbrev pub ballot : Field
ballot = decimal_field (ascii "ballot")

abbrev pub msg : Field
msg = decimal_field (ascii "msg")

-- "role is acceptor, coord or proc"
abbrev pub role : Field
role = field (ascii "role") (in_words (ascii "acceptor" ∷ ascii "coord" ∷ ascii "proc" ∷ []))

abbrev pub id : Field
id = decimal_field (ascii "id")

-- "In the world both end with `to` (a coordinator)"
abbrev pub sent : Kind → Kind
sent k = kind k.name (k.fields ++ to ∷ [])

-- a take whose turn is shown or not
abbrev pub sent_take_with : Presence → Kind
sent_take_with presence = sent (take_with presence)

abbrev pub sent_take : Kind
sent_take = sent_take_with turn_presence

-- a vote whose turn is shown or not, and whose update is written so
abbrev pub sent_vote_with : Presence → Form → Kind
sent_vote_with presence form = sent (vote_with presence form)

abbrev pub sent_vote : Kind
sent_vote = sent_vote_with turn_presence update_form

abbrev pub setup_kind : Kind
setup_kind = kind (ascii "setup") (acceptors ∷ [])

abbrev pub open_kind : Kind
open_kind = kind (ascii "open") (coord ∷ inst ∷ ballot ∷ [])

abbrev pub propose_kind : Kind
propose_kind = kind (ascii "propose") (coord ∷ inst ∷ ballot ∷ [])

abbrev pub deliver_kind : Kind
deliver_kind = kind (ascii "deliver") (msg ∷ [])

abbrev pub tell_kind : Kind
tell_kind = kind (ascii "tell") (coord ∷ proc ∷ tx ∷ [])

abbrev pub restore_kind : Kind
restore_kind = kind (ascii "restore") (coord ∷ proc ∷ [])

-- "A new step `follow coord proc tx`"
abbrev pub follow_kind : Kind
follow_kind = kind (ascii "follow") (coord ∷ proc ∷ tx ∷ [])

abbrev pub crash_kind : Kind
crash_kind = kind (ascii "crash") (role ∷ id ∷ [])

-- "a new step `back proc turn`", which has its turn always
abbrev pub back_kind : Kind
back_kind = kind (ascii "back") (proc ∷ turn always ∷ [])
