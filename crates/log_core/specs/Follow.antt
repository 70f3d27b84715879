-- What the next holder of a store needs of the votes that earlier holders cast: which of them are on
-- transactions that run.
use Rattle.std.specs.Prelude.{ℕ, Bool, ◌&&◌}
use Rattle.log_votes.specs.declared.Row.{Row}
use Rattle.log_votes.specs.Outcome.{is_commit, running}
use Rattle.log_votes.specs.Row.{vote_of_store}
use Rattle.log_votes.specs.Scan.{set_of}
use Rattle.log_core.specs.declared.Log.{Log}

-- the transaction runs, and a commit vote of the store is kept in it
abbrev pub awaits : ℕ → Row → Bool
awaits store r = running r && is_commit store (vote_of_store store r)

-- "the running transactions in which the store has a kept commit vote", bit t for transaction t
unfoldable pub awaited_of : Log → ℕ → ℕ
awaited_of l store = set_of (awaits store) l.rows
