-- The records in a buffer after one more is stored after them.
use Prim.Native.Nat.{ℕ, zero, suc, ◌+◌, ◌*◌, ◌≤◌}
use mathlib.Core.List.{List, [], ◌∷◌, ◌++◌}
use mathlib.Core.Path.{◌≡◌, ap, refl, ◌∙◌}
use native.Mathlib.Nat.{add_comm, add-suc, suc-mul}
use native.Mathlib.Omega.{arith}
use lib.ListN.{drop, length, length-drop, set, take}
use lib.Seq.{drop-set-add, sets, sets-eq, take_at, take-set-le}
use Rattle.host_records.specs.Record.{record_size}
use Rattle.host_lent.specs.Lent.{records_in}

take_sets : (n : ℕ) (vs l : List ℕ) (i : ℕ) → n ≤ i → take n (sets l i vs) ≡ take n l
take_sets n [] l i h = refl
take_sets n (v ∷ vs) l i h = take_sets n vs (set l i v) (suc i) (omega arith) ∙ take-set-le n l i v h

drop_sets : (n : ℕ) (vs l : List ℕ) (i : ℕ) → drop n (sets l (n + i) vs) ≡ sets (drop n l) i vs
drop_sets n [] l i = refl
drop_sets n (v ∷ vs) l i =
    rw (← add-suc n i) (drop_sets n vs (set l (n + i) v) (suc i) ∙ ap (λ (d : List ℕ). sets d (suc i) vs) (drop-set-add n l i v))

pub records_stored : (count : ℕ) (bytes r : List ℕ) → length r ≡ record_size → suc count * record_size ≤ length bytes
    → records_in (sets bytes (count * record_size) r) (suc count) ≡ records_in bytes count ++ r ∷ []
unfolding records_in
records_stored zero bytes r size room =
    ap (λ (l : List ℕ). take record_size l ∷ []) (sets-eq r bytes 0 (omega arith))
    ∙ ap (λ (l : List ℕ). l ∷ []) (take_at r (drop (0 + length r) bytes) record_size size)
records_stored (suc count) bytes r size room =
    let at : suc count * record_size ≡ record_size + count * record_size = suc-mul count record_size ∙ add_comm (count * record_size) record_size in
    let left = sets bytes (suc count * record_size) r in
    let front : take record_size left ≡ take record_size bytes = take_sets record_size r bytes (suc count * record_size) (omega arith) in
    let rest : drop record_size left ≡ sets (drop record_size bytes) (count * record_size) r
    = ap (λ (k : ℕ). drop record_size (sets bytes k r)) at ∙ drop_sets record_size r bytes (count * record_size) in
    let room-left : suc count * record_size ≤ length (drop record_size bytes) = rw length-drop (omega arith) in
    ap (λ (q : List ℕ). q ∷ records_in (drop record_size left) (suc count)) front
    ∙ ap (λ (d : List ℕ). take record_size bytes ∷ records_in d (suc count)) rest
    ∙ ap (λ (qs : List (List ℕ)). take record_size bytes ∷ qs) (records_stored count (drop record_size bytes) r size room-left)
