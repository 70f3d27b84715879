use Rattle.std.proofs.Common.{arith, ◌≡◌, ◌-◌, length, take, drop}
use borrow.Author.Rules.{rules}
use lib.ListN.{length-drop, length-take}
use Rattle.log_entry.specs.Limits.{update_bytes}
use Rattle.host_records.proofs.RecordLaws.{no_record, numbers_read, read_as_numbers, update_read}
use Rattle.host_records.specs.Record.{record_size, update_at}
use Rattle.host_records.proofs.read.Goals as goal

pub returns-in_default : goal.returns-in_default
returns-in_default c = no_record c.args.stores c.args.bytes.now (λ e. omega arith)

pub returns-in_default-try_from : goal.returns-in_default-try_from
returns-in_default-try_from c = no_record c.args.stores c.args.bytes.now (λ e. c.in_default-try_from.ensures.1 (simp (length-take, length-drop) (omega arith)))

pub returns : goal.returns
returns c =
    let long : length (take (length c.args.bytes.now - update_at) (drop update_at c.args.bytes.now)) ≡ update_bytes = c.in-Ok.ensures.1.long in
    let size : length c.args.bytes.now ≡ record_size = omega (arith, simp (length-take, length-drop) at long) in
    read_as_numbers c.args.stores c.args.bytes.now size c.read.ensures
    (numbers_read c.args.bytes.now (search rules) (search rules) (search rules) (search rules) (search rules) (search rules) (search rules) (search rules)
    (update_read c.args.bytes.now c.in-Ok.update c.from_le_bytes.result size (λ i. (c.type_inv.bytes i).fits) c.in-Ok.ensures.1.same c.from_le_bytes.type_inv c.from_le_bytes.ensures))
