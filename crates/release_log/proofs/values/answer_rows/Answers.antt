use Rattle.std.proofs.Common.{ℕ, ◌+◌, ◌*◌, ◌≡◌, length, set, take, sym, ap, ◌∙◌, arith}
use lib.ListN.{length-set}
use lib.Seq.{sets}
use Rattle.log_core.specs.Replay.{rows_in}
use Rattle.log_core.proofs.ReplayedRows.{replay_places, row_in}
use Rattle.host_records.proofs.LowFirst.{put_whole}
use Rattle.release_log.specs.Query.{replay_value, row_bytes, row_size, rows_bytes}
use Rattle.release_log.proofs.QueryLaws.{no_place_lem, place}
use Rattle.release_log.proofs.RowsLaws.{row_stored, rows_end, taken_length, value_length}
use Rattle.release_log.proofs.values.answer_rows.Goals as goal

pub returns-then-out-rows : goal.returns-then-out-rows
returns-then-out-rows c =
    let r = c.args.replay in
    let size = value_length r c.requires in
    let w = no_place_lem (replay_value (take r.count (rows_in r))) c.args.out.now (omega arith) in
    record { value = w.0; out_after = w.1 }

pub loop-i-preserved : goal.loop-i-preserved
loop-i-preserved c =
    let r = c.args.replay in
    let size = replay_places r in
    let at = 1 + c.loop-i.i * row_size in
    let long : length c.row_bytes.result ≡ row_size = ap length c.row_bytes.ensures in
    c.loop-i.invariant
    ∙ row_stored (rows_in r) r.count c.loop-i.i (omega arith) c.loop-i.out at (omega arith)
    (c.row_bytes.ensures ∙ ap row_bytes (sym (row_in r c.loop-i.i (omega arith))))
    (put_whole c.loop-i.out at c.row_bytes.result long (omega (arith, c.loop-i.auto.out, length-set c.args.out.now 0 r.count)) c.copy_from_slice.ensures.after) (omega arith)

pub returns : goal.returns
returns c =
    let r = c.args.replay in
    let places = replay_places r in
    let size = value_length r c.requires in
    let w = place (replay_value (take r.count (rows_in r))) c.args.out.now (omega arith) in
    record {
      value = w.0;
      out_after =
          sym (c.loop-i.invariant ∙ rows_end (rows_in r) r.count c.loop-i.i (omega arith) c.loop-i.out (1 + c.loop-i.i * row_size) c.loop-i-test.false)
          ∙ ap (λ (n : ℕ). sets (set c.args.out.now 0 n) 1 (rows_bytes (take r.count (rows_in r)))) (sym (taken_length r c.requires))
          ∙ w.1;
    }
