-- The rows of a replay, from the rows of the log: which there are, and in which order.
use Prim.Native.Nat.{ℕ, zero, suc, ◌+◌, ◌≤◌, ◌<◌}
use mathlib.Core.Path.{◌≡◌, refl, sym, ap, subst, ◌∙◌}
use mathlib.Core.Bool.{Bool, true, false, cond}
use mathlib.Core.List.{List, [], ◌∷◌}
use mathlib.Core.Logic.{inl, inr, ⊎_elim}
use native.Mathlib.Omega.{arith}
use lib.ListN.{get_or, length}
use Rattle.log_core.specs.declared.Replayed.{Replayed}
use Rattle.log_votes.specs.declared.Row.{Row}
use Rattle.log_votes.specs.Row.{no_row, replays, vote_of_store}
use Rattle.log_votes.specs.Vote.{vote_update}
use Rattle.log_core.specs.Replay.{group_replay, replay_from}
use Rattle.log_laws.specs.Replays.{Before}
use Rattle.log_laws.proofs.Lists.{In, Sorted, in_either, in_left, in_right, sorted_append}
use Rattle.log_entry.proofs.Tests.{by_test, opposed, same_number}

-- what group g replays of a row, which is that of tx
abbrev pub replayed_of : ℕ → ℕ → ℕ → Row → Replayed
replayed_of store g tx r = record { group = g; tx = tx; update = vote_update (vote_of_store store r) }

-- row k of the rows is replayed as x; the first of the rows is that of tx
pub record From (store g tx : ℕ) (rows : List Row) (x : Replayed) : Type 0 where
  pub at : ℕ
  pub in_rows : at < length rows
  pub is : x ≡ replayed_of store g (tx + at) (get_or rows at no_row)
  pub passes : replays store g (get_or rows at no_row) ≡ true

module _ (store g : ℕ) where
  up : (tx : ℕ) (r : Row) (rs : List Row) (x : Replayed) → From store g (suc tx) rs x → From store g tx (r ∷ rs) x
  up tx r rs x f = record {
    at = suc f.at;
    in_rows = omega (arith, f.in_rows);
    is = f.is ∙ ap (λ (n : ℕ). replayed_of store g n (get_or rs f.at no_row)) (omega arith);
    passes = f.passes;
  }

  pub group_from : (tx : ℕ) (rows : List Row) (x : Replayed) → In x (group_replay store g tx rows) → From store g tx rows x
  unfolding group_replay
  group_from tx [] x h = absurd h
  group_from tx (r ∷ rs) x h = split (replays store g r) refl (group_from (suc tx) rs x) h
    where
      split : (b : Bool) → replays store g r ≡ b → (In x (group_replay store g (suc tx) rs) → From store g (suc tx) rs x)
          → In x (cond b (replayed_of store g tx r ∷ group_replay store g (suc tx) rs) (group_replay store g (suc tx) rs)) → From store g tx (r ∷ rs) x
      split true p rest (inl e) =
          record { at = 0; in_rows = omega arith; is = e ∙ ap (λ (n : ℕ). replayed_of store g n r) (omega arith); passes = p }
      split true p rest (inr h) = up tx r rs x (rest h)
      split false p rest h = up tx r rs x (rest h)

  pub group_has : (tx : ℕ) (rows : List Row) (k : ℕ) → k < length rows → replays store g (get_or rows k no_row) ≡ true
      → In (replayed_of store g (tx + k) (get_or rows k no_row)) (group_replay store g tx rows)
  unfolding group_replay
  group_has tx [] k h p = absurd (omega arith)
  group_has tx (r ∷ rs) zero h p =
      by_test (λ (xs : List Replayed). In (replayed_of store g (tx + 0) r) xs) (replays store g r) _ _
      (λ b. inl (ap (λ (n : ℕ). replayed_of store g n r) (omega arith)))
      (λ b. absurd (opposed p b))
  group_has tx (r ∷ rs) (suc k) h p =
      let same : suc tx + k ≡ tx + suc k = omega arith in
      let m = subst (λ (n : ℕ). In (replayed_of store g n (get_or rs k no_row)) (group_replay store g (suc tx) rs)) same (group_has (suc tx) rs k (omega arith) p) in
      by_test (λ (xs : List Replayed). In (replayed_of store g (tx + suc k) (get_or rs k no_row)) xs) (replays store g r) _ _ (λ b. inr m) (λ b. m)

  group_sorted : (tx : ℕ) (rows : List Row) → Sorted Before (group_replay store g tx rows)
  unfolding group_replay
  group_sorted tx [] = tt
  group_sorted tx (r ∷ rs) =
      by_test (Sorted Before) (replays store g r) _ _
      (λ b. (
        λ y h. let f = group_from (suc tx) rs y h in
            inr (sym (ap (λ (x : Replayed). x.group) f.is), omega (arith, ap (λ (x : Replayed). x.tx) f.is)),
        group_sorted (suc tx) rs,
      ))
      (λ b. group_sorted (suc tx) rs)

module _ (store : ℕ) (rows : List Row) where
  -- a row of the replay of n groups from g on is a row of its own group's part
  pub from_group : (g n : ℕ) (x : Replayed) → In x (replay_from store rows g n)
      → (g ≤ x.group) × (x.group < g + n) × From store x.group 0 rows x
  unfolding replay_from
  from_group g zero x h = absurd h
  from_group g (suc n) x h =
      ⊎_elim
      (λ (k : In x (group_replay store g 0 rows)).
      let f = group_from store g 0 rows x k in
      let e = ap (λ (y : Replayed). y.group) f.is in
      (omega (arith, e), omega (arith, e), subst (λ (m : ℕ). From store m 0 rows x) (sym e) f))
      (λ k. let f = from_group (suc g) n x k in (omega (arith, f.0), omega (arith, f.1), f.2))
      (in_either x (group_replay store g 0 rows) (replay_from store rows (suc g) n) h)

  pub group_in : (g n h : ℕ) (x : Replayed) → g ≤ h → h < g + n → In x (group_replay store h 0 rows) → In x (replay_from store rows g n)
  unfolding replay_from
  group_in g zero h x a b m = absurd (omega arith)
  group_in g (suc n) h x a b m =
      ⊎_elim
      (λ (e : h ≡ g). in_left x (group_replay store g 0 rows) (replay_from store rows (suc g) n) (subst (λ (k : ℕ). In x (group_replay store k 0 rows)) e m))
      (λ (e : h ≡ g → ⊥). in_right x (group_replay store g 0 rows) (replay_from store rows (suc g) n) (group_in (suc g) n h x (omega arith) (omega arith) m))
      (same_number h g)

  pub from_sorted : (g n : ℕ) → Sorted Before (replay_from store rows g n)
  unfolding replay_from
  from_sorted g zero = tt
  from_sorted g (suc n) =
      sorted_append Before (group_replay store g 0 rows) (replay_from store rows (suc g) n) (group_sorted store g 0 rows) (from_sorted (suc g) n)
      (λ x y h k. inl (omega (arith, ap (λ (z : Replayed). z.group) (group_from store g 0 rows x h).is, (from_group (suc g) n y k).0)))
