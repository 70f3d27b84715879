use Rattle.std.proofs.Common.{◌*◌, arith, sym, ◌∙◌}
use Rattle.std.proofs.lemmas.Result.{err_from_is_err_and}
use Rattle.host_records.proofs.LowFirst.{put_whole}
use Rattle.host_records.proofs.Theorems.{record_size_lem}
use Rattle.host_records.specs.Record.{record_of, record_size}
use Rattle.release_log.proofs.AddLaws.{entry_no_place, entry_refused, entry_stored}
use Rattle.release_log.proofs.add_entry.Goals as goal

pub returns-in_err-answer_to : goal.returns-in_err-answer_to
returns-in_err-answer_to c =
    let p = err_from_is_err_and c.from_residual.result c.from_residual.ensures.1 in
    let w = entry_refused c.args.records.now c.args.count c.args.log c.args.e (sym c.answer_to.ensures ∙ c.in_err-answer_to.was) in
    record { value = rw (p.1, p.2) w.0; records_after = w.1 }

pub returns-then-records-at-lt-RECORD_SIZE : goal.returns-then-records-at-lt-RECORD_SIZE
returns-then-records-at-lt-RECORD_SIZE c =
    let w = entry_no_place c.args.records.now c.args.count c.args.log c.args.e (sym c.answer_to.ensures ∙ c.in_ok-answer_to.was) c.if-records-at-lt-RECORD_SIZE.true in
    record { value = w.0; records_after = w.1 }

pub returns : goal.returns
returns c =
    let room = c.if-records-at-lt-RECORD_SIZE.false in
    let w =
    entry_stored c.args.records.now c.args.count c.args.log c.args.e (sym c.answer_to.ensures ∙ c.in_ok-answer_to.was) room
    (put_whole c.args.records.now (c.args.count * record_size) (record_of c.args.e) (record_size_lem c.args.e) (omega (arith, c.requires)) (c.copy_from_slice.ensures.after ∙ c.record_of-record.ensures)) in
    record { value = w.0; records_after = w.1 }
