use Rattle.std.proofs.Common.{◌≡◌, ◌+◌, ◌*◌, take, drop}
use lib.Seq.{sets}
use Rattle.log_core.specs.Replay.{rows_in}
use Rattle.release_log.specs.Query.{row_size, rows_bytes}
use Rattle.release_log.proofs.values.answer_rows.Given as goal

-- the rows that are left, stored from the place of the turn on, are the whole
abbrev pub invariant-loop-i : goal.invariant-loop-i
invariant-loop-i l =
    sets l.initial.out 1 (rows_bytes (take l.replay.count (rows_in l.replay)))
    ≡ sets l.out (1 + l.i * row_size) (rows_bytes (drop l.i (take l.replay.count (rows_in l.replay))))
