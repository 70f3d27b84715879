-- How much room the parts of a world take at most.
use Rattle.std.specs.Prelude.{ℕ, ◌+◌, ◌*◌, length}
use Rattle.log_entry.specs.Limits.{processes, transactions}
use Rattle.model_steps.specs.Limits.{coordinators}
use Rattle.text_ascii.specs.Bytes.{ascii}
use Rattle.text_report.specs.Report.{end}
use Rattle.text_report.specs.Within.{longest_field, longest_line, longest_log, longest_replay, outcome_bytes}

-- its line and its log
abbrev pub longest_coordinator : ℕ
longest_coordinator = longest_line + longest_log

-- no line of what a process heard is longer
abbrev pub longest_heard_line : ℕ
longest_heard_line = longest_field (ascii "proc=") + longest_field (ascii " tx=") + length (ascii " heard=") + outcome_bytes + length end

-- a line for each transaction
abbrev pub longest_heard : ℕ
longest_heard = transactions * longest_heard_line

-- no line of what runs is longer
abbrev pub longest_running_line : ℕ
longest_running_line = longest_field (ascii "running=") + length end

-- a line for each transaction
abbrev pub longest_running : ℕ
longest_running = transactions * longest_running_line

-- a line for each transaction
abbrev pub longest_follows : ℕ
longest_follows = transactions * longest_line

-- its line, the replay, what it listed as running and the follows
abbrev pub longest_restore : ℕ
longest_restore = longest_line + longest_replay + longest_running + longest_follows

-- no world prints as more
abbrev pub longest_world : ℕ
longest_world = coordinators * longest_coordinator + processes * longest_heard + processes * longest_restore
