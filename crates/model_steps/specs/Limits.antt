-- Document 01, "Numbers in use": the limits of what a step of the world names, beside those of its
-- entry.
use Rattle.std.specs.Prelude.{ℕ, Bool, ◌||◌, not, eqb, leb, ltb}
use Rattle.log_entry.specs.Entry.{no_process, no_turn, outside}
use Rattle.log_entry.specs.Limits.{stores, transactions}
use Rattle.model_steps.specs.declared.Role.{Role}
use Rattle.model_steps.specs.declared.Role.TheVariants.{Acceptor, Coord, Proc}
use Rattle.model_steps.specs.declared.Step.{Step}
use Rattle.model_steps.specs.declared.Step.TheVariants.{Setup, Request, Open, Propose, Deliver, Tell, Restore, Follow, Crash, Back}

-- coordinators are 0 to 2
abbrev pub coordinators : ℕ
coordinators = 3

-- acceptors are 3 or 5, from 0; before setup five count
abbrev pub fewest_acceptors : ℕ
fewest_acceptors = 3

abbrev pub most_acceptors : ℕ
most_acceptors = 5

abbrev pub can_set_up : ℕ → Bool
can_set_up n = eqb n fewest_acceptors || eqb n most_acceptors

-- instances are 0 to 15
abbrev pub instances : ℕ
instances = 16

-- ballots are 1 to 255; 0 is none
abbrev pub ballots : ℕ
ballots = 255

-- messages are 0 to 127
abbrev pub messages : ℕ
messages = 128

abbrev pub no_coordinator : ℕ → Bool
no_coordinator c = leb coordinators c

abbrev pub no_ballot : ℕ → Bool
no_ballot b = eqb b 0 || ltb ballots b

abbrev pub no_party : ℕ → Role → ℕ → Bool
no_party acceptors Acceptor id = leb acceptors id
no_party acceptors Coord id = no_coordinator id
no_party acceptors Proc id = no_process id

-- 2: a number of the step is outside its limits, where this many acceptors count
unfoldable pub outside_step : ℕ → Step → Bool
outside_step acceptors (Setup n) = not (can_set_up n)
outside_step acceptors (Request e to) = outside stores e || no_coordinator to
outside_step acceptors (Open c i b) = no_coordinator c || leb instances i || no_ballot b
outside_step acceptors (Propose c i b) = no_coordinator c || leb instances i || no_ballot b
outside_step acceptors (Deliver m) = leb messages m
outside_step acceptors (Tell c p tx) = no_coordinator c || no_process p || leb transactions tx
outside_step acceptors (Restore c p) = no_coordinator c || no_process p
outside_step acceptors (Follow c p tx) = no_coordinator c || no_process p || leb transactions tx
outside_step acceptors (Crash role id) = no_party acceptors role id
outside_step acceptors (Back p t) = no_process p || no_turn t
