-- What owning a log by value says of it: the lengths of its arrays.
use mathlib.Core.List.{List}
use mathlib.Core.Path.{◌≡◌}
use denote.Laws.{Is}
use denote.Struct.Declared.{row}
use lib.ListN.{length}
use mir.Val.{Val}
use Rattle.log_entry.specs.Limits.{stores, transactions}
use Rattle.log_votes.proofs.Lengths.{votes_length}
use Rattle.log_core.specs.declared.Log.{Log}
use Rattle.log_core.specs.declared.Parts.{Parts}
use Rattle.log_core.specs.contracts.Log.{the_type as log-type}
use Rattle.log_core.specs.contracts.Parts.{the_type as parts-type}

pub rows_length : (l : Log) (vs : List Val) → Is (row log-type) l vs → length l.rows ≡ transactions
rows_length l vs g = g.1.1.0.1.0.1

pub holders_length : (l : Log) (vs : List Val) → Is (row log-type) l vs → length l.holders ≡ stores
holders_length l vs g = g.1.1.1.0.1.0.1

pub turns_length : (l : Log) (vs : List Val) → Is (row log-type) l vs → length l.turns ≡ stores
turns_length l vs g = g.1.1.1.1.0.1.0.1

pub takers_length : (l : Log) (vs : List Val) → Is (row log-type) l vs → length l.takers ≡ stores
takers_length l vs g = g.1.1.1.1.1.0.1.0.1

-- of the row among the parts of a log
pub row_length : (p : Parts) (vs : List Val) → Is (row parts-type) p vs → length p.row.votes ≡ stores
row_length p vs g = votes_length p.row _ g.1.1.0
