-- What a record's reading says of its bytes.
use Prim.Native.Nat.{ℕ}
use mathlib.Core.Bool.{Bool, cond, false, true}
use mathlib.Core.List.{List}
use mathlib.Core.Path.{◌≡◌, ap, sym, ◌∙◌}
use lib.Dec.{eqb}
use lib.ListN.{length}
use Rattle.log_entry.specs.declared.Entry.{Entry}
use Rattle.log_entry.specs.Entry.{outside}
use Rattle.log_entry.specs.declared.refusal.Refusal.TheVariants.{Unreadable}
use Rattle.host_records.proofs.ReadingLaws.{entry_read, passed_read}
use Rattle.host_records.specs.Numbers.{read_numbers}
use Rattle.host_records.specs.Record.{entry_in, numbers_in, read_record, record_size}
use Rattle.host_records.specs.declared.Numbers.{Numbers}
use Rattle.std.proofs.Common.{Err, Ok}

module _ (limit : ℕ) (n : Numbers) where
  tested_entry : (t : Bool) {e : Entry} → cond t (read_numbers limit n) (Err Unreadable) ≡ Ok e → read_numbers limit n ≡ Ok e
  tested_entry true h = h
  tested_entry false {e} h = cc

module _ (limit : ℕ) (bytes : List ℕ) where
  pub record_entry : {e : Entry} → read_record limit bytes ≡ Ok e → entry_in bytes ≡ e
  unfolding read_record
  record_entry h = entry_read limit (numbers_in bytes) (tested_entry limit (numbers_in bytes) (eqb (length bytes) record_size) h)

  pub record_inside : {e : Entry} → read_record limit bytes ≡ Ok e → outside limit e ≡ false
  unfolding read_record
  record_inside h =
      ap (λ (f : Entry). outside limit f) (sym (record_entry h))
      ∙ (passed_read limit (numbers_in bytes) (tested_entry limit (numbers_in bytes) (eqb (length bytes) record_size) h)).1
