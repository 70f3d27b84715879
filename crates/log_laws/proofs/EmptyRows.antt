-- The rows of the empty log, and the row of no transaction: no vote, no group.
use Prim.Native.Nat.{ℕ, ◌<◌}
use mathlib.Core.Path.{◌≡◌, refl, sym, subst}
use mathlib.Core.Bool.{false}
use mathlib.Core.Logic.{⊎_elim}
use lib.ListN.{get_or, get_or-replicate, length-replicate, get_or-eq_default, replicate}
use Rattle.log_entry.specs.Limits.{stores, transactions}
use Rattle.log_votes.specs.declared.Row.{Row}
use Rattle.log_votes.specs.declared.Vote.{Vote}
use Rattle.log_core.specs.Log.{empty_log, opened, row_of}
use Rattle.log_votes.specs.Row.{no_row, no_vote, vote_of_store}
use Rattle.log_votes.specs.Vote.{vote_kept}
use Rattle.log_entry.proofs.Tests.{below_or_not}

abbrev pub blank : Row
blank = record { votes = replicate stores no_vote; group = 0 }

-- each element of n times a, and what stands for one that is not there
pub replicate_cases : {A : Type 0} (P : A → Type 0) (n i : ℕ) (a d : A) → P a → P d → P (get_or (replicate n a) i d)
replicate_cases P n i a d p q =
    ⊎_elim
    (λ (h : i < n). subst P (sym (get_or-replicate n i a d h)) p)
    (λ h. subst P (sym (get_or-eq_default (replicate n a) d {n = i} (rw (length-replicate n a) h))) q)
    (below_or_not i n)

pub blank_kept : (s : ℕ) → vote_kept (vote_of_store s blank) ≡ false
blank_kept s = replicate_cases (λ (v : Vote). vote_kept v ≡ false) stores s no_vote no_vote refl refl

pub empty_rows : (P : Row → Type 0) (tx : ℕ) → P blank → P no_row → P (row_of empty_log tx)
unfolding opened
empty_rows P tx = replicate_cases P transactions tx blank no_row
