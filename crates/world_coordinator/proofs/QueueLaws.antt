-- One turn of each loop over a queue or a batch, on lists.
use Rattle.std.proofs.Common.{◌≡◌, ◌+◌, ◌<◌, ◌≤◌, ℕ, List, [], ◌∷◌, arith, add-one, drop, drop-cons, false, get_or, length, min, replicate, take, true, ◌++◌, sym, ap, ap₂, ◌∙◌, length-take}
use Rattle.std.proofs.lemmas.List.{take_min}
use lib.ListN.{drop_of_length-le}
use lib.Seq.{sets, sets-eq}
use Rattle.log_entry.specs.declared.Entry.{Entry}
use Rattle.log_entry.specs.Entry.{same_entry}
use Rattle.model_protocol.specs.Batch.{Batch, batch_of, entries_of, no_entry}
use Rattle.model_protocol.specs.Limits.{batch_entries, queue_places}
use Rattle.model_protocol.specs.Queue.{Queue, first_batch, is_in, left_by, queue_of, queued, without}

-- ---- the i-th entry of a row, and the rest

module _ (xs : List Entry) (d : Entry) (i : ℕ) where
  pub in_hit : (e : Entry) → i < length xs → same_entry e (get_or xs i d) ≡ true → is_in e (drop i xs) ≡ true
  unfolding is_in
  in_hit e h k = rw (drop-cons xs i d h, k)

  pub in_miss : (e : Entry) → i < length xs → same_entry e (get_or xs i d) ≡ false → is_in e (drop i xs) ≡ is_in e (drop (i + 1) xs)
  unfolding is_in
  in_miss e h k = rw (drop-cons xs i d h, k, add-one i)

  pub leaves : (fs : List Entry) → i < length xs → is_in (get_or xs i d) fs ≡ true → without (drop i xs) fs ≡ without (drop (i + 1) xs) fs
  unfolding without
  leaves fs h k = rw (drop-cons xs i d h, k, add-one i)

  pub stays : (fs : List Entry) → i < length xs → is_in (get_or xs i d) fs ≡ false → without (drop i xs) fs ≡ get_or xs i d ∷ without (drop (i + 1) xs) fs
  unfolding without
  stays fs h k = rw (drop-cons xs i d h, k, add-one i)

-- ---- where there is none

pub in_end : (e : Entry) (xs : List Entry) (i : ℕ) → length xs ≤ i → is_in e (drop i xs) ≡ false
unfolding is_in
in_end e xs i h = rw (drop_of_length-le xs h)

pub without_end : (fs xs : List Entry) (i : ℕ) → length xs ≤ i → without (drop i xs) fs ≡ []
unfolding without
without_end fs xs i h = rw (drop_of_length-le xs h)

pub ruleset turns = (in_hit, in_miss, in_end, leaves, stays, without_end)

-- ---- the first batch

-- the first of the queue's entries, copied over a row of blanks
pub copied : (q : Queue) (waiting front : List Entry) (n : ℕ) (d : Entry) → d ≡ no_entry → waiting ≡ queued q → front ≡ take n waiting
    → n ≡ min (length waiting) batch_entries
    → ◌≡◌ {A = Batch} (record { entries = front ++ drop n (replicate batch_entries d); count = n }) (first_batch q)
unfolding first_batch batch_of
copied q waiting front n d hd hw hf hn =
    let es = take batch_entries (queued q) in
    let size : n ≡ min batch_entries (length waiting) = omega arith in
    let same : front ≡ es = hf ∙ rw size (take_min batch_entries waiting) ∙ ap (take batch_entries) hw in
    let long : length es ≡ n = rw (length-take, sym hw) (omega arith) in
    let fit : length es ≤ 4 = omega arith in
    let end : 0 + length es ≡ n = omega (arith, long) in
    let put : sets (replicate batch_entries d) 0 es ≡ front ++ drop n (replicate batch_entries d) =
    sets-eq es (replicate batch_entries d) 0 (omega (arith, fit)) ∙ ap₂ (λ (xs : List Entry) (k : ℕ). xs ++ drop k (replicate batch_entries d)) (sym same) end in
    λ k. record { entries = (sym put ∙ ap (λ (e : Entry). sets (replicate batch_entries e) 0 es) hd) k; count = (sym long) k }

-- ---- the queue after a learned batch

-- the end of the outer loop: it stored all that stay
pub left_done : (q : Queue) (b : Batch) (waiting entries : List Entry) (n i : ℕ) (d : Entry) → d ≡ no_entry → waiting ≡ queued q → length waiting ≤ i
    → sets entries n (without (drop i waiting) (entries_of b)) ≡ sets (replicate queue_places d) 0 (without waiting (entries_of b))
    → n + length (without (drop i waiting) (entries_of b)) ≡ length (without waiting (entries_of b))
    → ◌≡◌ {A = Queue} (record { entries = entries; count = n }) (left_by q b)
unfolding left_by queue_of
left_done q b waiting entries n i d hd hw hi hs hn =
    let rest : without (drop i waiting) (entries_of b) ≡ [] = without_end (entries_of b) waiting i hi in
    let stored : entries ≡ sets (replicate queue_places no_entry) 0 (without (queued q) (entries_of b)) = rw (rest, hw, hd) at hs in
    let counted : n ≡ length (without (queued q) (entries_of b)) = omega (arith, rw (rest, hw) at hn) in
    λ k. record { entries = stored k; count = counted k }
