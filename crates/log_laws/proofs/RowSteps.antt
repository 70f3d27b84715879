-- Each row of a log stays well formed: a transaction gets its group with the vote that commits it.
use Prim.Native.Nat.{ℕ, ◌-◌, ◌<◌}
use mathlib.Core.Path.{◌≡◌, refl, sym, subst}
use mathlib.Core.Bool.{true, cond}
use mathlib.Core.Logic.{◌≢◌, ⊎_elim}
use native.Mathlib.Omega.{arith}
use lib.Dec.{eqb}
use lib.ListN.{get_or}
use Rattle.log_entry.proofs.InsideLaws.{inside_vote}
use Rattle.log_entry.specs.declared.Entry.{Entry}
use Rattle.log_entry.specs.Bits.{has}
use Rattle.log_entry.specs.Limits.{transactions}
use Rattle.log_core.specs.declared.Log.{Log}
use Rattle.log_votes.specs.declared.Row.{Row}
use Rattle.log_core.specs.Enter.{enter}
use Rattle.log_core.specs.Group.{next_group, remembered}
use Rattle.log_core.specs.Log.{empty_log, row_of}
use Rattle.log_votes.specs.Row.{keeping, no_row}
use Rattle.log_laws.proofs.Accepted.{VoteOk}
use Rattle.log_laws.proofs.EmptyRows.{blank, blank_kept, empty_rows}
use Rattle.log_laws.proofs.Rows.{RowWf, committed, committed_refuses, row_empty, row_kept}
use Rattle.log_laws.proofs.Sets.{empty_has}
use Rattle.log_laws.proofs.Sizes.{Sized}
use Rattle.log_laws.proofs.Steps.{group_after, joins, row_cases}
use Rattle.log_entry.proofs.Tests.{by_test, opposed, same_number}

-- no group, nothing remembered
pub joins_some : (l : Log) (tx : ℕ) (r : Row) → joins l tx r ≡ true → l.groups ≢ 0
unfolding remembered
joins_some l tx r j z = opposed (subst (λ (g : ℕ). has (cond (eqb g 0) 0 (get_or l.remembered (l.groups - 1) 0)) tx ≡ true) z j) (empty_has tx)

pub next_some : (l : Log) → next_group l.groups ≢ 0
next_some l = omega arith

pub group_made : (l : Log) (tx : ℕ) (r : Row) → committed r ≡ true → group_after l tx r ≢ 0
group_made l tx r h =
    by_test (λ (g : ℕ). g ≢ 0) (committed r) _ _
    (λ c. by_test (λ (g : ℕ). g ≢ 0) (joins l tx r) _ _ (joins_some l tx r) (λ j. next_some l))
    (λ c. absurd (opposed h c))

pub group_commits : (l : Log) (tx : ℕ) (r : Row) → r.group ≡ 0 → group_after l tx r ≢ 0 → committed r ≡ true
group_commits l tx r z =
    by_test (λ (g : ℕ). g ≢ 0 → committed r ≡ true) (committed r) _ _ (λ c k. c) (λ c k. absurd (k z))

-- a row for which a vote is accepted has no group yet
pub no_group : (r : Row) (l : Log) (e : Entry) → RowWf r → VoteOk r l e → r.group ≡ 0
no_group r l e w ok =
    ⊎_elim (λ (z : r.group ≡ 0). z) (λ n. absurd (committed_refuses r w (w.in_group n) l e ok)) (same_number r.group 0)

pub rows_enter : (l : Log) (e : Entry) → Sized l → ((tx : ℕ) → RowWf (row_of l tx)) → (tx : ℕ) → RowWf (row_of (enter l e).log tx)
rows_enter l e s w tx =
    row_cases RowWf l e tx (w tx)
    (λ ok k. row_kept (row_of l tx) l e (group_after l tx (keeping (row_of l tx) e)) (w tx) ok
    (s.votes_size tx (subst (λ (n : ℕ). n < transactions) (sym k) (inside_vote l.stores e ok.in_limits ok.is_vote).tx))
    (group_made l tx (keeping (row_of l tx) e))
    (group_commits l tx (keeping (row_of l tx) e) (no_group (row_of l tx) l e (w tx) ok)))

pub rows_empty : (tx : ℕ) → RowWf (row_of empty_log tx)
rows_empty tx = empty_rows RowWf tx (row_empty blank blank_kept refl) (row_empty no_row (λ s. refl) refl)
