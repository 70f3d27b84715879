-- Document 01, "Hosts in C": "A query answers 0 and writes its value to a second buffer".
use Rattle.std.specs.Prelude.{ℕ, ◌+◌, Bool, ◌||◌, cond, List, [], ◌∷◌, ◌++◌, ltb, length, is_ok}
use Rattle.std.proofs.lemmas.List.Edits.{sets}
use Rattle.log_entry.specs.Limits.{no_store, no_transaction, update_bytes}
use Rattle.log_entry.specs.Number.{Answer, answer_number}
use Rattle.log_entry.specs.Refusal.{check, first_refusal, outside_limits, no_place}
use Rattle.log_core.specs.declared.Entered.{Entered}
use Rattle.log_core.specs.declared.Replayed.{Replayed}
use Rattle.log_votes.specs.Involvement.{involvement_number}
use Rattle.log_core.specs.Log.{involvement_of, outcome_of}
use Rattle.log_votes.specs.Outcome.{outcome_number}
use Rattle.log_core.specs.Replay.{replay_rows}
use Rattle.host_records.specs.Record.{low_first}
use Rattle.release_log.specs.Add.{passing}
use Rattle.host_lent.specs.Lent.{lent_log}

-- the records' log and answer, whether the query's own numbers are outside their limits, and the
-- value
pub record Query : Type 0 where
  pub lent : Entered
  pub outside : Bool
  pub value : List ℕ

-- "A query's own numbers are tried after the records; then too short a second buffer is 6." Their
-- limits are those of the log.
unfoldable pub query_answer : Query → List ℕ → Answer
query_answer q out =
    first_refusal
    (passing q.lent.answer
    ∷ check outside_limits q.outside
    ∷ check no_place (ltb (length out) (length q.value))
    ∷ [])

-- its number, which the host is answered
abbrev pub answer_to : Query → List ℕ → ℕ
answer_to q out = answer_number (query_answer q out)

-- the second buffer afterwards: the value at its front and the rest as it was, or all as it was
unfoldable pub bytes_after : Query → List ℕ → List ℕ
bytes_after q out = cond (is_ok (query_answer q out)) (sets out 0 q.value) out

-- "a byte for outcome (0 open, 1 commit, 2 abort)"
abbrev pub outcome_query : ℕ → List ℕ → ℕ → ℕ → Query
outcome_query limit bytes count tx = record {
  lent = lent_log limit bytes count;
  outside = no_transaction limit tx;
  value = outcome_number (outcome_of (lent_log limit bytes count).log tx) ∷ [];
}

-- "or involvement (0 no, 1 yes, 2 unknown)"
abbrev pub involvement_query : ℕ → List ℕ → ℕ → ℕ → ℕ → Query
involvement_query limit bytes count tx store = record {
  lent = lent_log limit bytes count;
  outside = no_transaction limit tx || no_store limit store;
  value = involvement_number (involvement_of (lent_log limit bytes count).log tx store) ∷ [];
}

-- where the update begins in a row
abbrev pub row_update_at : ℕ
row_update_at = 2

-- "a replay row [grows] to ten" bytes: group, tx, update
abbrev pub row_size : ℕ
row_size = row_update_at + update_bytes

abbrev pub row_bytes : Replayed → List ℕ
row_bytes r = r.group ∷ r.tx ∷ low_first update_bytes r.update

unfoldable pub rows_bytes : List Replayed → List ℕ
rows_bytes [] = []
rows_bytes (r ∷ rs) = row_bytes r ++ rows_bytes rs

-- "for a replay a byte with the number of rows", then the rows
abbrev pub replay_value : List Replayed → List ℕ
replay_value rows = length rows ∷ rows_bytes rows

abbrev pub replay_query : ℕ → List ℕ → ℕ → ℕ → Query
replay_query limit bytes count store = record {
  lent = lent_log limit bytes count;
  outside = no_store limit store;
  value = replay_value (replay_rows (lent_log limit bytes count).log store);
}
