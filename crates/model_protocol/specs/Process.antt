-- Document 01 on processes: what they hear and what they believe; and document 02: what they follow.
use Rattle.std.specs.Prelude.{ℕ, Bool, ◌&&◌, not, eqb, ltb, set}
use Rattle.log_entry.specs.Bits.{has, with}
use Rattle.log_votes.specs.declared.Outcome.{Outcome}
use Rattle.model_protocol.specs.declared.Follows.{Follows}
use Rattle.model_protocol.specs.declared.Message.{Message}
use Rattle.model_protocol.specs.declared.Process.{Process}
use Rattle.model_protocol.specs.Message.{said_outcome, said_tx, said_update}

-- the process took a restore, and the last one was of this store
abbrev pub believes : Process → ℕ → Bool
believes p store = ltb 0 p.position && eqb p.store store

abbrev pub hearing_outcome : Process → ℕ → Outcome → Process
hearing_outcome p tx outcome = record {
  turn = p.turn;
  heard = set p.heard tx (record { outcome = outcome });
  store = p.store;
  position = p.position;
  running = p.running;
  followed = p.followed;
}

-- "A process takes a delivered restore exactly if its position is above the last it took, 0 at
-- first"; "a restore names the holder's turn and is taken only at that turn"
abbrev pub takes_restore : Process → ℕ → ℕ → Bool
takes_restore p turn position = eqb p.turn turn && ltb p.position position

-- with a restore no follow was taken "since that restore"
abbrev pub taking : Process → ℕ → ℕ → ℕ → Process
taking p store position running = record { turn = p.turn; heard = p.heard; store = store; position = position; running = running; followed = 0 }

-- "exactly if it is for its last restore's store and a transaction listed there as running, and none
-- for that transaction was taken since that restore"
abbrev pub takes_follow : Process → ℕ → ℕ → Bool
takes_follow p store tx = believes p store && has p.running tx && not (has p.followed tx)

abbrev pub following : Process → ℕ → Process
following p tx = record { turn = p.turn; heard = p.heard; store = p.store; position = p.position; running = p.running; followed = with p.followed tx }

-- the follows with that of the message
abbrev pub with_follow : Follows → Message → Follows
with_follow fs m = record { of = set fs.of (said_tx m) (record { outcome = said_outcome m; update = said_update m }) }
