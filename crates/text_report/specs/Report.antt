-- "The program `plain` reads standard input and prints for each line its number and answer, then
-- for every tx with a kept vote its outcome and group (0 if none), each held store with its holder,
-- and each replay."
use Rattle.std.specs.Prelude.{ℕ, suc, cond, List, [], ◌++◌, eqb, get_or, length, take}
use Rattle.text_ascii.specs.Bytes.{ascii}
use Rattle.text_ascii.specs.Decimal.{decimal}
use Rattle.text_ascii.specs.Hex.{hex, update_digits}
use Rattle.log_entry.specs.Limits.{stores, transactions}
use Rattle.log_core.specs.declared.Log.{Log}
use Rattle.log_votes.specs.declared.Outcome.{Outcome}
use Rattle.log_votes.specs.declared.Outcome.TheVariants.{Open, Commit, Abort}
use Rattle.log_core.specs.declared.Replay.{Replay}
use Rattle.log_core.specs.declared.Replayed.{Replayed}
use Rattle.log_votes.specs.declared.Row.{Row}
use Rattle.log_core.specs.Log.{holder_of, row_of}
use Rattle.log_votes.specs.Outcome.{is_kept, outcome_of_votes}
use Rattle.log_core.specs.Replay.{no_replayed, replay_rows, rows_in}
use Rattle.log_votes.specs.Scan.{any_from}

-- the texts of 0 to n - 1, one after the other
unfoldable pub each : (ℕ → List ℕ) → ℕ → List ℕ
each text ℕ.zero = []
each text (suc n) = each text n ++ text n

abbrev pub end : List ℕ
end = ascii "\n"

-- a key and its decimal
abbrev pub field : List ℕ → ℕ → List ℕ
field key n = key ++ decimal n

abbrev pub step_line : ℕ → ℕ → List ℕ
step_line number answer = field (ascii "step=") number ++ field (ascii " answer=") answer ++ end

-- the answers, the first being that of line 1
abbrev pub answers_text : List ℕ → List ℕ
answers_text answers = each (λ i. step_line (suc i) (get_or answers i 0)) (length answers)

abbrev pub outcome_word : Outcome → List ℕ
outcome_word Open = ascii "open"
outcome_word Commit = ascii "commit"
outcome_word Abort = ascii "abort"

-- a key and an outcome
abbrev pub outcome_field : List ℕ → Outcome → List ℕ
outcome_field key outcome = key ++ outcome_word outcome

abbrev pub tx_line : ℕ → Outcome → ℕ → List ℕ
tx_line tx outcome group = field (ascii "tx=") tx ++ outcome_field (ascii " outcome=") outcome ++ field (ascii " group=") group ++ end

-- of a transaction with this row, if a vote is kept
abbrev pub row_text : Row → ℕ → List ℕ
row_text r tx = cond (any_from is_kept 0 r.votes) (tx_line tx (outcome_of_votes r.votes) r.group) []

abbrev pub tx_text : Log → ℕ → List ℕ
tx_text l tx = row_text (row_of l tx) tx

abbrev pub holder_line : ℕ → ℕ → List ℕ
holder_line store holder = field (ascii "store=") store ++ field (ascii " holder=") holder ++ end

-- of a store with this holder, if it is held
abbrev pub held_text : ℕ → ℕ → List ℕ
held_text holder store = cond (eqb holder 0) [] (holder_line store holder)

abbrev pub holder_text : Log → ℕ → List ℕ
holder_text l store = held_text (holder_of l store) store

-- a key and an update
abbrev pub update_field : List ℕ → ℕ → List ℕ
update_field key update = key ++ hex update_digits update

abbrev pub replay_line : ℕ → Replayed → List ℕ
replay_line store r =
    field (ascii "store=") store ++ field (ascii " group=") r.group ++ field (ascii " tx=") r.tx ++ update_field (ascii " upd=") r.update ++ end

abbrev pub replay_text : ℕ → List Replayed → List ℕ
replay_text store rows = each (λ i. replay_line store (get_or rows i no_replayed)) (length rows)

-- the rows of a replay: the first `count`
abbrev pub rows_of : Replay → List Replayed
rows_of r = take r.count (rows_in r)

-- a log as it is printed
unfoldable pub log_text : Log → List ℕ
log_text l = each (tx_text l) transactions ++ each (holder_text l) stores ++ each (λ s. replay_text s (replay_rows l s)) stores
