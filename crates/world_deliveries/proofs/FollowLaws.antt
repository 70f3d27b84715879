-- A follow that is taken names a transaction of which the process keeps a bit.
use Prim.Native.Nat.{ℕ, ◌<◌, ◌^◌}
use mathlib.Core.Bool.{Bool, false, not, true, true≢false, ◌&&◌}
use mathlib.Core.Path.{◌≡◌, refl, sym, ◌∙◌}
use borrow.Author.Tests.{ltb-false, ltb-true}
use lib.Dec.{ltb}
use Rattle.log_entry.specs.Bits.{has}
use Rattle.log_entry.specs.Limits.{transactions}
use Rattle.log_entry.proofs.SetLaws.{beyond}
use Rattle.log_entry.proofs.Tests.{and_left, and_right}
use Rattle.model_protocol.specs.declared.Process.{Process}
use Rattle.model_protocol.specs.Process.{believes, takes_follow}

-- what is in a set is within its width
inside : (width set k : ℕ) → set < 2 ^ width → has set k ≡ true → k < width
inside width set k small h = by (ltb k width) refl
  where
    by : (t : Bool) → ltb k width ≡ t → k < width
    by true e = ltb-true k width e
    by false e = absurd (true≢false (sym h ∙ sym (beyond width set k small (ltb-false k width e))))

pub taken_inside : (h : Process) (store tx : ℕ) → h.running < 2 ^ transactions → takes_follow h store tx ≡ true → tx < transactions
taken_inside h store tx small takes = inside transactions h.running tx small (and_right (believes h store) (has h.running tx)
    (and_left (believes h store && has h.running tx) (not (has h.followed tx)) takes))
