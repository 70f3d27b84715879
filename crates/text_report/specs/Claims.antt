-- The claims on what is printed.
use Rattle.std.specs.Prelude.{ℕ, ◌<◌, List, [], map, ◌≡◌, drop, length}
use Rattle.log_entry.specs.Limits.{updates}
use Rattle.log_votes.specs.declared.Row.{Row}
use Rattle.log_votes.specs.declared.Vote.{Vote}
use Rattle.log_votes.specs.declared.Vote.TheVariants.{Absent, Abort, Commit}
use Rattle.log_core.specs.declared.Log.{Log}
use Rattle.text_ascii.specs.Hex.{hex_number}
use Rattle.text_report.specs.Report.{log_text, update_field}

-- "printed as sixteen digits": what stands behind the key of an update has so many, and they are
-- the update, all of it.
abbrev pub UpdateIsPrinted : Type 0
UpdateIsPrinted =
    (key : List ℕ) (u : ℕ) → u < updates
    → (length (drop (length key) (update_field key u)) ≡ 16) × (hex_number 0 (drop (length key) (update_field key u)) ≡ u)

-- a vote, a row and a log with their turns taken out
abbrev pub vote_without_turn : Vote → Vote
vote_without_turn Absent = Absent
vote_without_turn (Abort list process turn by update) = Abort list process 0 by update
vote_without_turn (Commit list process turn by update) = Commit list process 0 by update

abbrev pub row_without_turns : Row → Row
row_without_turns r = record { votes = map vote_without_turn r.votes; group = r.group }

abbrev pub without_turns : Log → Log
without_turns l = record {
  rows = map row_without_turns l.rows;
  holders = l.holders;
  turns = [];
  takers = l.takers;
  latest = [];
  groups = l.groups;
  remembered = l.remembered;
  stores = l.stores;
}

-- "No output line of `plain` [..] shows a turn": a log is printed as it is without its turns.
abbrev pub ShowsNoTurn : Type 0
ShowsNoTurn = (l : Log) → log_text (without_turns l) ≡ log_text l
