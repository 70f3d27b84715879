-- The log's value: what stands where, the empty log, and the log with one part changed.
use Rattle.std.specs.Prelude.{ℕ, ◌-◌, Bool, get_or, replicate, set}
use Rattle.log_entry.specs.Bits.{has, with}
use Rattle.log_entry.specs.Limits.{process_places, stores, transactions}
use Rattle.log_votes.specs.declared.Involvement.{Involvement}
use Rattle.log_votes.specs.declared.Outcome.{Outcome}
use Rattle.log_votes.specs.declared.Row.{Row}
use Rattle.log_votes.specs.declared.Vote.{Vote}
use Rattle.log_votes.specs.Involvement.{involvement_of_votes}
use Rattle.log_votes.specs.Outcome.{outcome_of_votes}
use Rattle.log_votes.specs.Row.{empty_row, no_row, no_vote}
use Rattle.log_core.specs.declared.Log.{Log}

-- "Each log is opened with one of the two limits": the log of limit n before any entry. The arrays
-- are those of the full limit, whatever n is.
unfoldable pub opened : ℕ → Log
opened n = record {
  rows = replicate transactions empty_row;
  holders = replicate stores 0;
  turns = replicate stores 0;
  takers = replicate stores 0;
  latest = replicate process_places 0;
  groups = 0;
  remembered = replicate transactions 0;
  stores = n;
}

-- that of the full limit, which step files have
abbrev pub empty_log : Log
empty_log = opened stores

-- the log with limit n, and all else as it was
abbrev pub with_limit : ℕ → Log → Log
with_limit n l =
    record { rows = l.rows; holders = l.holders; turns = l.turns; takers = l.takers; latest = l.latest; groups = l.groups; remembered = l.remembered; stores = n }

-- "The kept votes stand by transaction and then by store."
abbrev pub row_of : Log → ℕ → Row
row_of l tx = get_or l.rows tx no_row

abbrev pub vote_at : Log → ℕ → ℕ → Vote
vote_at l tx store = get_or (row_of l tx).votes store no_vote

-- a transaction's group, 0 if none
abbrev pub group_of : Log → ℕ → ℕ
group_of l tx = (row_of l tx).group

-- the store's holder, 0 if none
abbrev pub holder_of : Log → ℕ → ℕ
holder_of l store = get_or l.holders store 0

-- "the log records each holder's turn"; 0 if there is none
abbrev pub turn_of : Log → ℕ → ℕ
turn_of l store = get_or l.turns store 0

-- the turn of the process's last accepted take, of any store; 0 if there is none
abbrev pub latest_of : Log → ℕ → ℕ
latest_of l process = get_or l.latest process 0

-- the process took the store before; the present holder did too
abbrev pub held_before : Log → ℕ → ℕ → Bool
held_before l process store = has (get_or l.takers store 0) process

-- a transaction's outcome
abbrev pub outcome_of : Log → ℕ → Outcome
outcome_of l tx = outcome_of_votes (row_of l tx).votes

-- whether the store is involved in the transaction
abbrev pub involvement_of : Log → ℕ → ℕ → Involvement
involvement_of l tx store = involvement_of_votes store (row_of l tx).votes

abbrev pub with_row : Log → ℕ → Row → Log
with_row l tx r =
    record { rows = set l.rows tx r; holders = l.holders; turns = l.turns; takers = l.takers; latest = l.latest; groups = l.groups; remembered = l.remembered; stores = l.stores }

-- "An accepted take makes the process the store's holder", in its turn.
abbrev pub with_holder : Log → ℕ → ℕ → ℕ → Log
with_holder l process turn store = record {
  rows = l.rows;
  holders = set l.holders store process;
  turns = set l.turns store turn;
  takers = set l.takers store (with (get_or l.takers store 0) process);
  latest = set l.latest process turn;
  groups = l.groups;
  remembered = l.remembered;
  stores = l.stores;
}

-- the log with one more group, which remembers the transactions of the set
abbrev pub with_group : Log → ℕ → ℕ → Log
with_group l g running =
    record { rows = l.rows; holders = l.holders; turns = l.turns; takers = l.takers; latest = l.latest; groups = g; remembered = set l.remembered (g - 1) running; stores = l.stores }
