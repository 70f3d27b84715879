-- The bytes of a number, low byte first: those of std's words, and what is stored of them.
use Prim.Native.Nat.{ℕ, zero, suc, ◌<◌, ◌≤◌, ◌+◌, ◌-◌, ◌*◌, ◌/◌, ◌^◌, min}
use mathlib.Core.List.{List, [], ◌∷◌, ◌++◌}
use mathlib.Core.Path.{◌≡◌, refl, sym, ap, ◌∙◌}
use native.Mathlib.Nat.{add-sub_cancel_left, add-suc, add-zero, div-div-eq-div-mul, pow-suc, suc-add}
use native.Mathlib.Omega.{arith}
use borrow.Rule.Slice.PartMut.{put_mid}
use lib.ListN.{drop, get_or, length, length-drop, length-take, set, take}
use lib.Seq.{drop-drop, length-sets, set_out, sets, sets-eq}
use Rattle.std.proofs.lemmas.List.{append_assoc, take-append-drop}
use Rattle.std.proofs.lemmas.Nat.{le_bytes_8}
use Rattle.std.specs.Int.{from_le_bytes, to_le_bytes, w64}
use Rattle.log_entry.specs.Limits.{update_bytes}
use Rattle.host_records.specs.Numbers.{byte_values}
use Rattle.host_records.specs.Record.{from_low_first, low_first}

pub low_first_back : (n u : ℕ) → u < byte_values ^ n → from_low_first (low_first n u) ≡ u
low_first_back zero u h = omega arith
low_first_back (suc n) u h =
    let k : u < byte_values ^ n * byte_values = rw pow-suc at h in
    let back = low_first_back n (u / byte_values) (omega arith) in
    omega arith

-- the bytes of an update's word
pub word_bytes : (u : ℕ) → to_le_bytes w64 u ≡ low_first update_bytes u
word_bytes u = simp div-div-eq-div-mul

-- the word that such bytes make
pub word_read : (bs : List ℕ) (n : ℕ) → length bs ≡ update_bytes → ((i : ℕ) → get_or bs i 0 < byte_values) → n < byte_values ^ update_bytes → n ≡ from_le_bytes w64 bs → n ≡ from_low_first bs
word_read bs n size bytes fits is =
    sym (low_first_back update_bytes n fits) ∙ ap from_low_first (sym (word_bytes n) ∙ le_bytes_8 bs n size bytes is)

-- stored one after the other
pub sets_append : (xs ys l : List ℕ) (at : ℕ) → sets l at (xs ++ ys) ≡ sets (sets l at xs) (at + length xs) ys
sets_append [] ys l at = rw add-zero
sets_append (x ∷ xs) ys l at = sets_append xs ys (set l at x) (suc at) ∙ rw (suc-add, add-suc)

-- behind the end there is no room
pub sets_out : (l : List ℕ) (to : ℕ) (vs : List ℕ) → (0 < length vs → length l ≤ to) → sets l to vs ≡ l
sets_out l to [] h = refl
sets_out l to (v ∷ vs) h =
    let out : length l ≤ to = h (omega arith) in
    ap (λ (m : List ℕ). sets m (suc to) vs) (set_out l to v out) ∙ sets_out l (suc to) vs (λ (some : 0 < length vs). omega arith)

-- all of them, copied into their place
pub put_whole : (l : List ℕ) (at : ℕ) (vs : List ℕ) {n : ℕ} {ys : List ℕ} → length vs ≡ n → at + n ≤ length l → ys ≡ vs → put_mid at (at + n - at) l ys ≡ sets l at vs
put_whole l at vs {n} size room is =
    rw (is, add-sub_cancel_left at n, drop-drop n at l, ← append_assoc) (rw size at (sym (sets-eq vs l at (omega arith))))

-- as many of them as there is room for
pub put_with_room : (l : List ℕ) (at n : ℕ) (vs ys : List ℕ) → at < length l → n ≡ min (length vs) (length l - at) → ys ≡ take n vs
    → put_mid at (at + n - at) l ys ≡ sets l at vs
put_with_room l at n vs ys here most is =
    let few : length (take n vs) ≡ n = rw length-take (omega arith) in
    let room : length (sets l at (take n vs)) ≡ length l = length-sets l at (take n vs) in
    let rest : sets (sets l at (take n vs)) (at + length (take n vs)) (drop n vs) ≡ sets l at (take n vs)
    = sets_out _ _ (drop n vs) (λ (some : 0 < length (drop n vs)). omega (arith, length-drop n vs)) in
    put_whole l at (take n vs) few (omega arith) is
    ∙ sym rest
    ∙ sym (sets_append (take n vs) (drop n vs) l at)
    ∙ ap (λ (ws : List ℕ). sets l at ws) (take-append-drop n vs)
