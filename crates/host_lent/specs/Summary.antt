-- A row in short, so that a vote is decided without looking at the row. Nothing of this need be
-- believed: the log after the records is `records_entered`.
use Rattle.std.specs.Prelude.{ℕ, Bool, not, ◌&&◌, ◌≡◌, eqb, length}
use Rattle.log_entry.specs.declared.Entry.{Entry}
use Rattle.log_entry.specs.Limits.{stores}
use Rattle.log_votes.specs.declared.Row.{Row}
use Rattle.log_votes.specs.Outcome.{tally_of}
use Rattle.log_votes.specs.Refusal.{any_clash, clashes}
use Rattle.log_core.specs.declared.VoteParts.{VoteParts}
use Rattle.host_lent.specs.declared.Summary.{Summary}

-- that of a row without votes
abbrev pub no_summary : Summary
no_summary = record { tally = record { kept = 0; commits = 0 }; list = 0; group = 0 }

-- a commit vote is kept, with whose list the vote clashes
abbrev pub clashes_with : Summary → Entry → Bool
clashes_with s e = not (eqb s.tally.commits 0) && clashes e s.list

-- the row in short: its tally, its group, which votes clash with its commit votes, and that it has
-- a place for each store
abbrev pub IsOf : Summary → Row → Type 0
IsOf s r =
    (s.tally ≡ tally_of r.votes) × (s.group ≡ r.group) × ((e : Entry) → clashes_with s e ≡ any_clash e r.votes) × (length r.votes ≡ stores)

-- what a vote on the row is decided on
abbrev pub summary_parts : Summary → Entry → ℕ → ℕ → ℕ → ℕ → VoteParts
summary_parts s e holder turn groups remembered =
    record { tally = s.tally; clash = clashes_with s e; group = s.group; holder = holder; turn = turn; groups = groups; remembered = remembered }
