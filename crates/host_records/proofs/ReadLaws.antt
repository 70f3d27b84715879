-- What numbers read as. A number that no byte holds is outside its limits.
use Prim.Native.Nat.{ℕ, ◌≤◌}
use mathlib.Core.Bool.{Bool, false, or-true, true, true≢false}
use mathlib.Core.Logic.{⊎_elim}
use mathlib.Core.Path.{◌≡◌, refl, sym, ◌∙◌}
use native.Mathlib.Omega.{arith}
use borrow.Author.Tests.{eqb-true, le-leb, leb-true, lt-ltb, ne_eqb}
use lib.Dec.{eqb}
use Rattle.std.proofs.Common.{Err}
use Rattle.log_entry.proofs.LimitLaws.{lists_within, stores_within, transactions_within}
use Rattle.log_entry.proofs.Tests.{or_cases}
use Rattle.log_entry.specs.Entry.{outside}
use Rattle.log_entry.specs.Limits.{lists_of, processes, stores_of, transactions_of, turns}
use Rattle.log_entry.specs.declared.refusal.Refusal.TheVariants.{OutsideLimits}
use Rattle.host_records.specs.Numbers.{beyond_byte, byte_values, entry_of, read_numbers, take_kind, unreadable, unused_is_set}
use Rattle.host_records.specs.declared.Numbers.{Numbers}

module _ (limit : ℕ) (n : Numbers) (readable : unreadable n ≡ false) where
  -- what a take does not use is 0, so who uses it is no take
  vote_if_used : unused_is_set n ≡ true → eqb n.kind take_kind ≡ false
  unfolding unreadable
  vote_if_used used = split (eqb n.kind take_kind) refl
    where
      take_is_unreadable : n.kind ≡ take_kind → unreadable n ≡ true
      take_is_unreadable h = rw (h, used)

      split : (t : Bool) → eqb n.kind take_kind ≡ t → t ≡ false
      split false e = refl
      split true e = absurd (true≢false (sym (take_is_unreadable (eqb-true n.kind take_kind e)) ∙ readable))

  outside_process : byte_values ≤ n.process → outside limit (entry_of n) ≡ true
  unfolding outside
  outside_process h = rw (lt-ltb processes n.process (omega arith), or-true)

  outside_store : byte_values ≤ n.store → outside limit (entry_of n) ≡ true
  unfolding outside
  outside_store h = rw (le-leb (stores_of limit) n.store (omega (arith, stores_within limit)), or-true)

  outside_by : byte_values ≤ n.by → outside limit (entry_of n) ≡ true
  unfolding outside
  outside_by h =
      rw (vote_if_used (rw (ne_eqb n.by 0 (λ e. omega arith))), le-leb (stores_of limit) n.by (omega (arith, stores_within limit)), or-true)

  outside_tx : byte_values ≤ n.tx → outside limit (entry_of n) ≡ true
  unfolding outside
  outside_tx h =
      simp (vote_if_used (simp (ne_eqb n.tx 0 (λ e. omega arith), or-true)), le-leb (transactions_of limit) n.tx (omega (arith, transactions_within limit)), or-true)

  outside_list : byte_values ≤ n.list → outside limit (entry_of n) ≡ true
  unfolding outside
  outside_list h =
      simp (vote_if_used (simp (ne_eqb n.list 0 (λ e. omega arith), or-true)), le-leb (lists_of limit) n.list (omega (arith, lists_within limit)), or-true)

  outside_turn : byte_values ≤ n.turn → outside limit (entry_of n) ≡ true
  unfolding outside
  outside_turn h = simp (ne_eqb n.turn 0 (λ e. omega arith), lt-ltb turns n.turn (omega arith), or-true)

  pub beyond_is_outside : beyond_byte n ≡ true → outside limit (entry_of n) ≡ true
  unfolding beyond_byte
  beyond_is_outside h =
      ⊎_elim (λ h.
      ⊎_elim (λ h.
      ⊎_elim (λ h.
      ⊎_elim (λ h.
      ⊎_elim (λ h. outside_process (leb-true byte_values n.process h)) (λ h. outside_by (leb-true byte_values n.by h)) (or_cases _ _ h))
      (λ h. outside_store (leb-true byte_values n.store h)) (or_cases _ _ h))
      (λ h. outside_tx (leb-true byte_values n.tx h)) (or_cases _ _ h))
      (λ h. outside_list (leb-true byte_values n.list h)) (or_cases _ _ h))
      (λ h. outside_turn (leb-true byte_values n.turn h)) (or_cases _ _ h)

  pub read_above : byte_values ≤ n.turn → read_numbers limit n ≡ Err OutsideLimits
  unfolding read_numbers
  read_above h = rw (readable, outside_turn h)
