-- What an entry does to the groups of a log and to what they remember.
use Prim.Native.Nat.{ℕ, ◌+◌, ◌-◌, ◌≤◌, ◌<◌}
use mathlib.Core.Path.{◌≡◌, refl, sym, ap, ap₂, subst, subst₂, ◌∙◌}
use mathlib.Core.Bool.{Bool, true, false, cond}
use mathlib.Core.List.{List}
use mathlib.Core.Logic.{◌≢◌, ◌⊎◌, inl, inr, ⊎_elim}
use native.Mathlib.Omega.{arith}
use lib.Dec.{eqb}
use lib.ListN.{get_or, length, set}
use lib.Seq.{get_or-set_other, get_or-set_same}
use borrow.Author.Tests.{eqb-false, ne_eqb}
use Rattle.log_entry.proofs.InsideLaws.{inside_vote}
use Rattle.log_entry.specs.declared.Entry.{Entry}
use Rattle.log_entry.specs.Entry.{tx_of}
use Rattle.log_entry.specs.Limits.{transactions}
use Rattle.log_core.specs.declared.Log.{Log}
use Rattle.log_votes.specs.declared.Row.{Row}
use Rattle.log_core.specs.Enter.{enter}
use Rattle.log_core.specs.Group.{next_group, remembered, running_set}
use Rattle.log_core.specs.Log.{empty_log, group_of, opened, row_of}
use Rattle.log_votes.specs.Row.{in_group, no_row}
use Rattle.log_laws.proofs.Accepted.{VoteOk}
use Rattle.log_laws.proofs.EmptyRows.{empty_rows}
use Rattle.log_laws.proofs.Grouping.{Grouping, group_room, grouping_set}
use Rattle.log_laws.proofs.RowSteps.{no_group}
use Rattle.log_laws.proofs.Rows.{RowWf, committed}
use Rattle.log_laws.proofs.Sizes.{Sized}
use Rattle.log_laws.proofs.Steps.{enter_cases, group_after, groups_after, joins, row_with, voted, voted_groups, voted_remembered, voted_rows}
use Rattle.log_entry.proofs.Tests.{by_test}

-- an accepted vote, and the row with it
module _ (l : Log) (e : Entry) (z : Sized l) (rows : (tx : ℕ) → RowWf (row_of l tx)) (w : Grouping l.rows l.groups)
    (ok : VoteOk (row_of l (tx_of e)) l e) where
  abbrev after : Row
  after = row_with l e

  pub in_rows : tx_of e < length l.rows
  in_rows = subst (λ (n : ℕ). tx_of e < n) (sym z.rows_size) (inside_vote l.stores e ok.in_limits ok.is_vote).tx

  ungrouped : group_of l (tx_of e) ≡ 0
  ungrouped = no_group (row_of l (tx_of e)) l e (rows (tx_of e)) ok

  pub room : l.groups < transactions
  room = omega (arith, group_room l.rows l.groups (tx_of e) w in_rows ungrouped, z.rows_size)

  -- so a new group has the next number
  pub next_is : next_group l.groups ≡ l.groups + 1
  next_is = omega (arith, room)

  grown : ((groups_after l (tx_of e) after ≡ l.groups) × (group_after l (tx_of e) after ≤ l.groups))
      ⊎ ((groups_after l (tx_of e) after ≡ l.groups + 1) × (group_after l (tx_of e) after ≡ l.groups + 1))
  grown = split (committed after) (joins l (tx_of e) after)
    where
      split : (c j : Bool)
          → ((cond c (cond j l.groups (next_group l.groups)) l.groups ≡ l.groups) × (cond c (cond j l.groups (next_group l.groups)) (group_of l (tx_of e)) ≤ l.groups))
          ⊎ ((cond c (cond j l.groups (next_group l.groups)) l.groups ≡ l.groups + 1) × (cond c (cond j l.groups (next_group l.groups)) (group_of l (tx_of e)) ≡ l.groups + 1))
      split true true = inl (refl, omega arith)
      split true false = inr (next_is, next_is)
      split false j = inl (refl, omega (arith, ungrouped))

  begun : ((voted l (tx_of e) after).groups ≡ l.groups) ⊎ ((voted l (tx_of e) after).groups ≡ l.groups + 1)
  begun =
      ⊎_elim
      (λ (g : (groups_after l (tx_of e) after ≡ l.groups) × (group_after l (tx_of e) after ≤ l.groups)). inl (voted_groups l (tx_of e) after ∙ g.0))
      (λ g. inr (voted_groups l (tx_of e) after ∙ g.0))
      grown

  pub groups_grow : l.groups ≤ (voted l (tx_of e) after).groups
  groups_grow = ⊎_elim (λ (g : (voted l (tx_of e) after).groups ≡ l.groups). omega arith) (λ g. omega (arith, g)) begun

  -- the row with the vote stands in the log after it
  pub row_after_lem : row_of (voted l (tx_of e) after) (tx_of e) ≡ in_group after (group_after l (tx_of e) after)
  row_after_lem =
      ap (λ (rs : List Row). get_or rs (tx_of e) no_row) (voted_rows l (tx_of e) after)
      ∙ get_or-set_same l.rows (tx_of e) (in_group after (group_after l (tx_of e) after)) no_row in_rows

  pub grouping_vote : Grouping (voted l (tx_of e) after).rows (voted l (tx_of e) after).groups
  grouping_vote =
      subst₂ Grouping (sym (voted_rows l (tx_of e) after)) (sym (voted_groups l (tx_of e) after))
      (grouping_set l.rows l.groups (tx_of e) (in_group after (group_after l (tx_of e) after)) (groups_after l (tx_of e) after) w in_rows ungrouped grown)

  -- what a group remembers stays
  pub remembered_vote : (g : ℕ) → g ≤ l.groups → remembered (voted l (tx_of e) after) g ≡ remembered l g
  unfolding remembered
  remembered_vote g h = split (eqb g 0) refl
    where
      same : g ≢ 0 → get_or (voted l (tx_of e) after).remembered (g - 1) 0 ≡ get_or l.remembered (g - 1) 0
      same n =
          ap (λ (xs : List ℕ). get_or xs (g - 1) 0) (voted_remembered l (tx_of e) after)
          ∙ by_test (λ (xs : List ℕ). get_or xs (g - 1) 0 ≡ get_or l.remembered (g - 1) 0) (committed after) _ _
          (λ c. by_test (λ (xs : List ℕ). get_or xs (g - 1) 0 ≡ get_or l.remembered (g - 1) 0) (joins l (tx_of e) after) _ _ (λ j. refl)
          (λ j. get_or-set_other l.remembered (next_group l.groups - 1) (g - 1) (running_set l.rows) 0 (omega (arith, next_is))))
          (λ c. refl)

      split : (b : Bool) → eqb g 0 ≡ b → cond b 0 (get_or (voted l (tx_of e) after).remembered (g - 1) 0) ≡ cond b 0 (get_or l.remembered (g - 1) 0)
      split true k = refl
      split false k = same (eqb-false g 0 k)

  -- a group that is begun remembers the transactions that ran before
  pub remembered_begun : (voted l (tx_of e) after).groups ≡ l.groups + 1
      → remembered (voted l (tx_of e) after) (voted l (tx_of e) after).groups ≡ running_set l.rows
  unfolding remembered
  remembered_begun h =
      ap₂ (λ (xs : List ℕ) (g : ℕ). cond (eqb g 0) 0 (get_or xs (g - 1) 0)) (voted_remembered l (tx_of e) after) (voted_groups l (tx_of e) after)
      ∙ split (committed after) (joins l (tx_of e) after) (sym (voted_groups l (tx_of e) after) ∙ h)
    where
      split : (c j : Bool) → cond c (cond j l.groups (next_group l.groups)) l.groups ≡ l.groups + 1
          → let g = cond c (cond j l.groups (next_group l.groups)) l.groups in
          cond (eqb g 0) 0 (get_or (cond c (cond j l.remembered (set l.remembered (next_group l.groups - 1) (running_set l.rows))) l.remembered) (g - 1) 0)
          ≡ running_set l.rows
      split true true h = absurd (omega arith)
      split true false h =
          rw (ne_eqb (next_group l.groups) 0 (omega arith))
          (get_or-set_same l.remembered (next_group l.groups - 1) (running_set l.rows) 0 (omega (arith, next_is, room, z.remembered_size)))
      split false j h = absurd (omega arith)

pub grouping_enter : (l : Log) (e : Entry) → Sized l → ((tx : ℕ) → RowWf (row_of l tx)) → Grouping l.rows l.groups
    → Grouping (enter l e).log.rows (enter l e).log.groups
grouping_enter l e z rows w =
    enter_cases (λ (x : Log). Grouping x.rows x.groups) l e w (λ ok. w) (λ ok. grouping_vote l e z rows w ok)

-- an entry begins one group or none
pub one_group : (l : Log) (e : Entry) → Sized l → ((tx : ℕ) → RowWf (row_of l tx)) → Grouping l.rows l.groups
    → ((enter l e).log.groups ≡ l.groups) ⊎ ((enter l e).log.groups ≡ l.groups + 1)
one_group l e z rows w =
    enter_cases (λ (x : Log). (x.groups ≡ l.groups) ⊎ (x.groups ≡ l.groups + 1)) l e (inl refl) (λ ok. inl refl) (λ ok. begun l e z rows w ok)

pub grouping_empty : Grouping empty_log.rows empty_log.groups
unfolding opened
grouping_empty = record {
  group_le = λ tx. empty_rows (λ (r : Row). r.group ≤ 0) tx (omega arith) (omega arith);
  group_of = λ g n h. absurd (n (omega arith));
  counted = omega arith;
}
