-- Groups are numbered without gaps, and there are no more of them than transactions that have one.
use Prim.Native.Nat.{ℕ, zero, suc, ◌+◌, ◌≤◌, ◌<◌}
use mathlib.Core.Path.{◌≡◌, refl, sym, ap, ◌∙◌}
use mathlib.Core.Bool.{Bool, true, false, cond}
use mathlib.Core.List.{List, [], ◌∷◌}
use mathlib.Core.Logic.{◌≢◌, ◌⊎◌, inl, inr, ⊎_elim}
use native.Mathlib.Omega.{arith}
use lib.Dec.{eqb}
use lib.ListN.{get_or, length, length-set, set}
use borrow.Author.Tests.{eq-eqb, ne_eqb}
use Rattle.log_votes.specs.declared.Row.{Row}
use Rattle.log_votes.specs.Row.{no_row}
use Rattle.log_laws.proofs.Places.{set_cases}
use Rattle.log_entry.proofs.Tests.{below_or_not}

-- 1 if the row has a group
mark : Row → ℕ
mark r = cond (eqb r.group 0) 0 1

mark_none : (r : Row) → r.group ≡ 0 → mark r ≡ 0
unfolding mark
mark_none r h = rw (eq-eqb r.group 0 h)

mark_some : (r : Row) → r.group ≢ 0 → mark r ≡ 1
unfolding mark
mark_some r h = rw (ne_eqb r.group 0 h)

mark_le : (r : Row) → mark r ≤ 1
unfolding mark
mark_le r = split (eqb r.group 0)
  where
    split : (b : Bool) → cond b 0 1 ≤ 1
    split true = omega arith
    split false = omega arith

-- how many rows have a group
pub grouped : List Row → ℕ
grouped [] = 0
grouped (r ∷ rs) = mark r + grouped rs

grouped_le : (rows : List Row) → grouped rows ≤ length rows
unfolding grouped
grouped_le [] = omega arith
grouped_le (r ∷ rs) = omega (arith, mark_le r, grouped_le rs)

grouped_set : (rows : List Row) (tx : ℕ) (r : Row) → tx < length rows → grouped (set rows tx r) + mark (get_or rows tx no_row) ≡ grouped rows + mark r
unfolding grouped
grouped_set [] tx r h = absurd (omega arith)
grouped_set (x ∷ xs) zero r h = omega arith
grouped_set (x ∷ xs) (suc tx) r h = omega (arith, grouped_set xs tx r (omega arith))

pub record Grouping (rows : List Row) (groups : ℕ) : Type 0 where
  pub group_le : (tx : ℕ) → (get_or rows tx no_row).group ≤ groups
  pub group_of : (g : ℕ) → g ≢ 0 → g ≤ groups → (tx : ℕ) × ((get_or rows tx no_row).group ≡ g)
  pub counted : groups ≤ grouped rows

pub groups_le : (rows : List Row) (groups : ℕ) → Grouping rows groups → groups ≤ length rows
groups_le rows groups w = omega (arith, w.counted, grouped_le rows)

-- while a row has no group there is room for one more group
pub group_room : (rows : List Row) (groups tx : ℕ) → Grouping rows groups → tx < length rows → (get_or rows tx no_row).group ≡ 0 → groups < length rows
group_room rows groups tx w h z =
    let one : Row = record { votes = []; group = 1 } in
    let s = grouped_set rows tx one h in
    let b = grouped_le (set rows tx one) in
    omega (arith, w.counted, s, b, mark_none (get_or rows tx no_row) z, mark_some one (omega arith), length-set rows tx one)

-- a row without a group gets none, or one of those begun; or it gets the next one
pub grouping_set : (rows : List Row) (groups tx : ℕ) (r : Row) (more : ℕ) → Grouping rows groups → tx < length rows → (get_or rows tx no_row).group ≡ 0
    → ((more ≡ groups) × (r.group ≤ groups)) ⊎ ((more ≡ groups + 1) × (r.group ≡ groups + 1))
    → Grouping (set rows tx r) more
grouping_set rows groups tx r more w h z f = record {
  group_le = λ t.
      set_cases (λ (x : Row). x.group ≤ more) rows tx t r no_row h
      (λ k. ⊎_elim (λ (a : (more ≡ groups) × (r.group ≤ groups)). omega (arith, a.0, a.1)) (λ a. omega (arith, a.0, a.1)) f)
      (λ k. ⊎_elim (λ (a : (more ≡ groups) × (r.group ≤ groups)). omega (arith, a.0, w.group_le t)) (λ a. omega (arith, a.0, w.group_le t)) f);
  group_of = λ g n b. ⊎_elim (old_group g n) (λ k. new_group g b k f) (at_most g);
  counted =
      ⊎_elim
      (λ (a : (more ≡ groups) × (r.group ≤ groups)). omega (arith, a.0, w.counted, grouped_set rows tx r h, mark_none (get_or rows tx no_row) z))
      (λ (a : (more ≡ groups + 1) × (r.group ≡ groups + 1)).
      omega (arith, a.0, w.counted, grouped_set rows tx r h, mark_none (get_or rows tx no_row) z, mark_some r (omega (arith, a.1)))) f;
}
  where
    at_most : (g : ℕ) → (g ≤ groups) ⊎ (groups < g)
    at_most g = ⊎_elim (λ (k : groups < g). inr k) (λ k. inl k) (below_or_not groups g)

    old_group : (g : ℕ) → g ≢ 0 → g ≤ groups → (t : ℕ) × ((get_or (set rows tx r) t no_row).group ≡ g)
    old_group g n b =
        let o = w.group_of g n b in (
          o.0,
          set_cases (λ (x : Row). x.group ≡ g) rows tx o.0 r no_row h
              (λ k. absurd (n (sym o.1 ∙ ap (λ (t : ℕ). (get_or rows t no_row).group) k ∙ z)))
              (λ k. o.1),
        )

    new_group : (g : ℕ) → g ≤ more → groups < g → ((more ≡ groups) × (r.group ≤ groups)) ⊎ ((more ≡ groups + 1) × (r.group ≡ groups + 1))
        → (t : ℕ) × ((get_or (set rows tx r) t no_row).group ≡ g)
    new_group g b k (inl a) = absurd (omega (arith, a.0))
    new_group g b k (inr a) =
        (tx, set_cases (λ (x : Row). x.group ≡ g) rows tx tx r no_row h (λ m. omega (arith, a.0, a.1)) (λ m. absurd (m refl)))
