-- What is printed of processes: what each heard, the restore that it took, and the follows since.
use Rattle.std.specs.Prelude.{ℕ, suc, cond, List, [], ◌++◌, eqb, get_or}
use Rattle.text_ascii.specs.Bytes.{ascii}
use Rattle.log_entry.specs.Bits.{has}
use Rattle.log_entry.specs.Limits.{processes, transactions}
use Rattle.log_votes.specs.declared.Outcome.{Outcome}
use Rattle.log_votes.specs.declared.Outcome.TheVariants.{Open}
use Rattle.log_votes.specs.Outcome.{is_open}
use Rattle.log_core.specs.declared.Replay.{Replay}
use Rattle.model_protocol.specs.declared.Followed.{Followed}
use Rattle.model_protocol.specs.declared.Follows.{Follows}
use Rattle.model_protocol.specs.declared.Process.{Process}
use Rattle.log_core.specs.Replay.{no_replay}
use Rattle.model_protocol.specs.World.{fresh_process, no_followed, no_follows}
use Rattle.text_report.specs.Report.{each, end, field, outcome_field, replay_text, rows_of, update_field}

-- the texts of the processes, by number: they are numbered from 1
abbrev pub by_process : (ℕ → Process → List ℕ) → List Process → List ℕ
by_process text ps = each (λ i. text (suc i) (get_or ps (suc i) fresh_process)) processes

-- "`proc=1 tx=4 heard=commit` lines by process and tx"
abbrev pub heard_line : ℕ → ℕ → Outcome → List ℕ
heard_line proc tx outcome = field (ascii "proc=") proc ++ field (ascii " tx=") tx ++ outcome_field (ascii " heard=") outcome ++ end

-- of an outcome that was heard; open if nothing was
abbrev pub outcome_text : ℕ → ℕ → Outcome → List ℕ
outcome_text proc tx outcome = cond (is_open outcome) [] (heard_line proc tx outcome)

abbrev pub heard_text : ℕ → Process → List ℕ
heard_text proc p = each (λ tx. outcome_text proc tx (get_or p.heard tx (record { outcome = Open })).outcome) transactions

-- "for each process that took a restore `proc=1 store=0 position=2` and that restore's replay
-- lines"
abbrev pub restore_line : ℕ → ℕ → ℕ → List ℕ
restore_line proc store position = field (ascii "proc=") proc ++ field (ascii " store=") store ++ field (ascii " position=") position ++ end

-- "`world` prints `running=4` lines, then `follow=4 outcome=commit upd=0000000a` lines, each by tx,
-- behind the replay lines."
abbrev pub running_line : ℕ → List ℕ
running_line tx = field (ascii "running=") tx ++ end

-- of a transaction in the set
abbrev pub listed_text : ℕ → ℕ → List ℕ
listed_text running tx = cond (has running tx) (running_line tx) []

-- of what the restore listed as running, whether a follow of it was taken or not
abbrev pub running_text : ℕ → List ℕ
running_text running = each (listed_text running) transactions

-- "then `follow=4 outcome=commit upd=0000000a` lines"
abbrev pub follow_line : ℕ → Followed → List ℕ
follow_line tx f = field (ascii "follow=") tx ++ outcome_field (ascii " outcome=") f.outcome ++ update_field (ascii " upd=") f.update ++ end

-- of a transaction in the set
abbrev pub follow_text : ℕ → ℕ → Followed → List ℕ
follow_text followed tx f = cond (has followed tx) (follow_line tx f) []

-- of the follows that were taken since the restore
abbrev pub follows_text : ℕ → Follows → List ℕ
follows_text followed follows = each (λ tx. follow_text followed tx (get_or follows.of tx no_followed)) transactions

-- of the last restore that the process took, its replay, and the follows since; position 0 if it
-- took none
abbrev pub restore_text : ℕ → Process → Replay → Follows → List ℕ
restore_text proc p replay follows =
    cond (eqb p.position 0) []
    (restore_line proc p.store p.position ++ replay_text p.store (rows_of replay) ++ running_text p.running ++ follows_text p.followed follows)

-- where these are the replays and the follows, by process
abbrev pub restores_text : List Process → List Replay → List Follows → List ℕ
restores_text ps replays follows =
    by_process (λ proc p. restore_text proc p (get_or replays proc no_replay) (get_or follows proc no_follows)) ps
