-- What the tests of a record's bytes come to, and what its bytes are.
use Prim.Native.Nat.{ℕ, ◌<◌, ◌+◌, ◌-◌, ◌^◌}
use mathlib.Core.List.{List}
use mathlib.Core.Path.{◌≡◌, ap, ◌∙◌}
use native.Mathlib.Omega.{arith}
use borrow.Author.Tests.{eq-eqb, ne_eqb}
use lib.ListN.{drop, get_or, length, length-drop, take}
use lib.Seq.{get_or-drop, take_all}
use Rattle.std.specs.Int.{from_le_bytes, w64}
use Rattle.log_entry.specs.Limits.{update_bytes}
use Rattle.host_records.proofs.LowFirst.{word_read}
use Rattle.log_entry.specs.declared.refusal.Refusal.TheVariants.{Unreadable}
use Rattle.host_records.specs.Numbers.{Reading, byte_values, numbers, read_numbers}
use Rattle.host_records.specs.Record.{from_low_first, numbers_in, read_record, record_size, update_at}
use Rattle.host_records.specs.declared.Numbers.{Numbers}
use Rattle.std.proofs.Common.{Err}

module _ (limit : ℕ) (bytes : List ℕ) where
  pub no_record : (length bytes ≡ record_size → ⊥) → Err Unreadable ≡ read_record limit bytes
  unfolding read_record
  no_record h = rw (ne_eqb (length bytes) record_size h)

  pub read_as_numbers : length bytes ≡ record_size → {r : Reading} {n : Numbers} → r ≡ read_numbers limit n → n ≡ numbers_in bytes → r ≡ read_record limit bytes
  unfolding read_record
  read_as_numbers size h k = rw (h, k, eq-eqb (length bytes) record_size size)

-- the update of what is as long as a record
pub update_read : (bytes part : List ℕ) (n : ℕ) → length bytes ≡ record_size → ((i : ℕ) → get_or bytes i 0 < byte_values)
    → part ≡ take (length bytes - update_at) (drop update_at bytes) → n < byte_values ^ update_bytes → n ≡ from_le_bytes w64 part → n ≡ from_low_first (drop update_at bytes)
update_read bytes part n size small is fits word =
    let whole : part ≡ drop update_at bytes = is ∙ take_all (length bytes - update_at) (drop update_at bytes) (omega (arith, length-drop update_at bytes)) in
    let long : length part ≡ update_bytes = rw whole (omega (arith, length-drop update_at bytes)) in
    let low : (i : ℕ) → get_or part i 0 < byte_values = λ (i : ℕ). rw (whole, get_or-drop) (small (update_at + i)) in
    word_read part n long low fits word ∙ ap from_low_first whole

pub numbers_read : (bytes : List ℕ) {kind process by store tx list say turn update : ℕ}
    → kind ≡ get_or bytes 0 0 → process ≡ get_or bytes 1 0 → by ≡ get_or bytes 2 0 → store ≡ get_or bytes 3 0 → tx ≡ get_or bytes 4 0 → list ≡ get_or bytes 5 0
    → say ≡ get_or bytes 6 0 → turn ≡ get_or bytes 7 0 → update ≡ from_low_first (drop update_at bytes) → numbers kind process by store tx list say turn update ≡ numbers_in bytes
numbers_read bytes kind process by store tx list say turn update = rw (kind, process, by, store, tx, list, say, turn, update)
