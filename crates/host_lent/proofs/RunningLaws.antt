-- The set of the running transactions, kept up to date vote by vote.
use Prim.Native.Nat.{ℕ, ◌%◌, ◌*◌, ◌+◌, ◌-◌, ◌<◌, ◌^◌, ◌≤◌}
use mathlib.Core.Bool.{Bool, cond, false, true}
use mathlib.Core.List.{List}
use mathlib.Core.Path.{◌≡◌, ap, refl, sym, ◌∙◌}
use native.Mathlib.Omega.{arith}
use lib.ListN.{get_or, length, length-set, replicate, set}
use Rattle.log_entry.specs.declared.Entry.{Entry}
use Rattle.log_entry.specs.Bits.{has}
use Rattle.log_entry.proofs.SetLaws.{one_shifted}
use Rattle.log_entry.specs.Limits.{transactions}
use Rattle.log_votes.specs.declared.Row.{Row}
use Rattle.log_votes.specs.Outcome.{is_kept, is_open, outcome_of_votes, running}
use Rattle.log_votes.specs.Row.{empty_row, in_group, keeping, no_row, vote_of_entry}
use Rattle.log_votes.specs.Scan.{any_from}
use Rattle.log_votes.proofs.ScanLaws.{any_set}
use Rattle.log_votes.proofs.VoteLaws.{of_kept}
use Rattle.log_votes.proofs.SetLaws.{set_changed, set_has, set_lt, set_of_none}
use Rattle.log_core.specs.Group.{running_set}

-- a shifted one is the power
pub bit_shifted : (k : ℕ) → k < 32 → 1 * 2 ^ k % 4294967296 ≡ 2 ^ k
bit_shifted k h = one_shifted 32 k h

-- a set n with the bit w in it if a, and to have it if b
pub same_in : (n w : ℕ) (a b : Bool) → cond a w 0 ≤ n → a ≡ b → n ≡ n - cond a w 0 + cond b w 0
same_in n w a b h k = rw (← k) (omega (arith, h))

pub taken_out : (n w : ℕ) (a b : Bool) → a ≡ true → b ≡ false → n - w ≡ n - cond a w 0 + cond b w 0
taken_out n w a b h k = rw (h, k) (omega arith)

pub put_in : (n w : ℕ) (a b : Bool) → a ≡ false → b ≡ true → n + w ≡ n - cond a w 0 + cond b w 0
put_in n w a b h k = rw (h, k) (omega arith)

pub bit_in : (n w : ℕ) (a : Bool) → a ≡ true → cond a w 0 ≤ n → w ≤ n
bit_in n w a h k = let same : cond a w 0 ≡ w = ap (λ (b : Bool). cond b w 0) h in omega (arith, k, same)

pub fits_in : (n w m : ℕ) (a b : Bool) → a ≡ false → b ≡ true → n - cond a w 0 + cond b w 0 < m → n + w < m
fits_in n w m a b h k fits = omega (arith, put_in n w a b h k, fits)

none_runs : running no_row ≡ false
unfolding running any_from
none_runs = refl

empty_rests : running empty_row ≡ false
unfolding running any_from
empty_rests = refl

-- no transaction runs at first
pub none_running : (none : Row) → none ≡ empty_row → 0 ≡ running_set (replicate transactions none)
none_running none is = sym (set_of_none running none (ap running is ∙ empty_rests) transactions)

-- the set n of the rows, of which row t is to be r
module _ (rows : List Row) (n : ℕ) (is : n ≡ running_set rows) (size : length rows ≡ transactions) (t : ℕ) (h : t < transactions) where
  bit_of : cond (has n t) (2 ^ t) 0 ≡ cond (running (get_or rows t no_row)) (2 ^ t) 0
  bit_of = ap (λ (b : Bool). cond b (2 ^ t) 0) (ap (λ (k : ℕ). has k t) is ∙ set_has running rows no_row none_runs t)

  pub bit_within : cond (has n t) (2 ^ t) 0 ≤ n
  bit_within =
      omega
      (arith, is, bit_of, set_changed running rows no_row no_row t (omega (arith, size)), ap (λ (b : Bool). cond b (2 ^ t) 0) none_runs)

  module _ (r : Row) (runs : Bool) (so : runs ≡ running r) where
    pub set_after : n - cond (has n t) (2 ^ t) 0 + cond runs (2 ^ t) 0 ≡ running_set (set rows t r)
    set_after =
        omega
        (arith, is, bit_of, bit_within, set_changed running rows no_row r t (omega (arith, size)), ap (λ (b : Bool). cond b (2 ^ t) 0) so)

    pub set_fits : n - cond (has n t) (2 ^ t) 0 + cond runs (2 ^ t) 0 < 2 ^ 32
    set_fits =
        let bound : running_set (set rows t r) < 2 ^ length (set rows t r) = set_lt running (set rows t r) in
        let same : length (set rows t r) ≡ 32 = length-set rows t r ∙ size in
        let whole : 2 ^ length (set rows t r) ≡ 2 ^ 32 = ap (λ (k : ℕ). 2 ^ k) same in
        omega (arith, set_after, bound, whole)

-- the transaction of a vote that is kept runs if its outcome is open
pub vote_runs : (r : Row) (e : Entry) (g : ℕ) → e.store < length (keeping r e).votes
    → is_open (outcome_of_votes (keeping r e).votes) ≡ running (in_group (keeping r e) g)
unfolding running
vote_runs r e g h = rw (any_set is_kept (vote_of_entry e) (λ i. of_kept e) r.votes e.store 0 (rw length-set at h))
