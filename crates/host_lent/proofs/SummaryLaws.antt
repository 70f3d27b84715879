-- A row in short: what a vote does to it, and the summaries of all rows.
use Rattle.log_votes.specs.Vote.{vote_commit, vote_kept, vote_list}
use Rattle.log_entry.specs.Entry.{list_of, says_commit}
use Prim.Native.Nat.{ℕ, ◌<◌}
use mathlib.Core.Bool.{Bool, false, not, true, true≢false, ◌&&◌, ◌||◌}
use mathlib.Core.List.{List}
use mathlib.Core.Path.{◌≡◌, ap, ap₂, refl, subst, sym, ◌∙◌}
use native.Mathlib.Omega.{arith}
use borrow.Author.Tests.{eqb-false, eqb-true}
use lib.Dec.{eqb}
use lib.ListN.{get_or, get_or-replicate, length, length-replicate, length-set, replicate, set}
use lib.Seq.{get_or-set_other, get_or-set_same}
use Rattle.log_entry.specs.declared.Entry.{Entry}
use Rattle.log_entry.specs.Limits.{stores, transactions}
use Rattle.log_votes.specs.declared.Row.{Row}
use Rattle.log_votes.specs.declared.Tally.{Tally}
use Rattle.log_votes.specs.declared.Vote.{Vote}
use Rattle.log_votes.specs.Outcome.{is_commit_vote, tally_of}
use Rattle.log_votes.specs.Refusal.{any_clash, clashes, is_clash}
use Rattle.log_votes.specs.Row.{empty_row, in_group, keeping, no_row, no_vote, vote_of_entry, vote_of_store}
use Rattle.log_votes.specs.Scan.{any_from, set_of}
use Rattle.log_votes.proofs.ScanLaws.{any_never, any_same, any_set, any_with, or_same}
use Rattle.log_votes.proofs.SetLaws.{any_in_set}
use Rattle.log_votes.proofs.TallyLaws.{commits_without}
use Rattle.log_votes.proofs.VoteLaws.{of_commit_vote, of_list}
use Rattle.host_lent.specs.declared.Summary.{Summary}
use Rattle.host_lent.specs.Summary.{IsOf, no_summary}

-- a commit vote d, with which no kept commit vote clashes: they have its list, so what clashes with
-- them clashes with it
module _ (d : Entry) (commit : says_commit d ≡ true) (e : Entry) where
  abbrev whole : Bool
  whole = clashes e (list_of d)

  one_vote : (i : ℕ) (v : Vote) → is_clash d i v ≡ false → false ≡ false → (is_clash e i v || whole) ≡ whole
  one_vote i v agrees none = split (vote_kept v) (vote_commit v) (eqb (vote_list v) (list_of d)) refl (rw commit at agrees)
    where
      split : (k c q : Bool) → eqb (vote_list v) (list_of d) ≡ q → ((k && c) && not q) ≡ false
          → ((k && c) && clashes e (vote_list v) || whole) ≡ whole
      split false c q same agrees = refl
      split true false q same agrees = refl
      split true true false same agrees = absurd (true≢false agrees)
      split true true true same agrees =
          ap (λ (list : ℕ). clashes e list || whole) (eqb-true (vote_list v) (list_of d) same) ∙ or_same whole

  kept_clash : (is_commit_vote (vote_of_entry d) && clashes e (vote_list (vote_of_entry d))) ≡ whole
  kept_clash = ap₂ (λ (b : Bool) (list : ℕ). b && clashes e list) (of_commit_vote d ∙ commit) (of_list d)

  with_vote : (vs : List Vote) (s : ℕ) → s < length vs → any_clash d vs ≡ false → any_clash e (set vs s (vote_of_entry d)) ≡ whole
  with_vote vs s h agrees =
      any_with (is_clash e) (is_clash d) (λ (i : ℕ) (v : Vote). false) whole (vote_of_entry d) one_vote (λ i. kept_clash) vs s 0 h agrees
      (any_never (set vs s (vote_of_entry d)) 0)

-- the summary of the row with an accepted vote; t is the tally with it
module _ (s : Summary) (r : Row) (is : IsOf s r) (e : Entry) (g : ℕ) (here : e.store < stores) (agrees : any_clash e r.votes ≡ false) (free : vote_kept (vote_of_store e.store r) ≡ false) {t : Tally} (so : t ≡ tally_of (keeping r e).votes) where
  inside : e.store < length r.votes
  inside = omega (arith, here, is.3)

  size : length (keeping r e).votes ≡ stores
  size = length-set r.votes e.store (vote_of_entry e) ∙ is.3

  some_commit : says_commit e ≡ true → not (eqb t.commits 0) ≡ true
  some_commit commit =
      ap (λ (t : Tally). not (eqb t.commits 0)) so
      ∙ any_in_set (λ (v : Vote). vote_kept v && vote_commit v) 0 (keeping r e).votes
      ∙ any_set (λ (i : ℕ) (v : Vote). vote_kept v && vote_commit v) (vote_of_entry e) (λ i. of_commit_vote e ∙ commit) r.votes e.store 0 inside

  pub summary_commit : says_commit e ≡ true → IsOf (record { tally = t; list = list_of e; group = g }) (in_group (keeping r e) g)
  summary_commit commit = (
    so,
    refl,
    λ (d : Entry). ap (λ (b : Bool). b && clashes d (list_of e)) (some_commit commit) ∙ sym (with_vote e commit d r.votes e.store inside agrees),
    size,
  )

  same_commits : says_commit e ≡ false → t.commits ≡ s.tally.commits
  same_commits abort =
      ap (λ (t : Tally). t.commits) so ∙ sym (commits_without r e inside free abort) ∙ sym (ap (λ (t : Tally). t.commits) is.0)

  -- an abort vote clashes with nothing, and the vote before it was not kept
  same_clash : says_commit e ≡ false → (d : Entry) (i : ℕ) → is_clash d i (vote_of_store e.store r) ≡ is_clash d i (vote_of_entry e)
  same_clash abort d i =
      ap (λ (b : Bool). (b && vote_commit (vote_of_store e.store r)) && clashes d (vote_list (vote_of_store e.store r))) free
      ∙ sym (ap (λ (b : Bool). b && clashes d (vote_list (vote_of_entry e))) (of_commit_vote e ∙ abort))

  pub summary_abort : says_commit e ≡ false → IsOf (record { tally = t; list = s.list; group = g }) (in_group (keeping r e) g)
  summary_abort abort = (
    so,
    refl,
    λ (d : Entry).
        ap (λ (n : ℕ). not (eqb n 0) && clashes d s.list) (same_commits abort)
        ∙ is.2 d
        ∙ any_same (is_clash d) r.votes no_vote (vote_of_entry e) e.store 0 (same_clash abort d),
    size,
  )

-- the summary of a row without votes
pub summary_none : IsOf no_summary empty_row
unfolding any_from set_of
summary_none = (refl, refl, λ (e : Entry). refl, refl)

moved : {s z : Summary} {r q : Row} → s ≡ z → r ≡ q → IsOf s r → IsOf z q
moved {s} {z} {r} {q} h k is = subst (λ (x : Summary). IsOf x q) h (subst (λ (x : Row). IsOf s x) k is)

-- the summary of an equal row
pub row_of_lem : (s : Summary) {r q : Row} → r ≡ q → IsOf s r → IsOf s q
row_of_lem s k is = subst (λ (x : Row). IsOf s x) k is

-- the summaries of all rows
abbrev pub AllOf : List Summary → List Row → Type 0
AllOf ss rows = (length ss ≡ transactions) × ((t : ℕ) → t < transactions → IsOf (get_or ss t no_summary) (get_or rows t no_row))

pub all_none : (s : Summary) (r : Row) → s ≡ no_summary → r ≡ empty_row → AllOf (replicate transactions s) (replicate transactions r)
all_none s r h k = (
  length-replicate transactions s,
  λ (t : ℕ) (low : t < transactions).
      moved (sym (get_or-replicate transactions t s no_summary low ∙ h)) (sym (get_or-replicate transactions t r no_row low ∙ k)) summary_none,
)

pub all_set : (ss : List Summary) (rows : List Row) → AllOf ss rows → length rows ≡ transactions → (k : ℕ) → k < transactions → (s : Summary) (r : Row) → IsOf s r → AllOf (set ss k s) (set rows k r)
all_set ss rows all full k h s r is = (length-set ss k s ∙ all.0, λ (t : ℕ) (low : t < transactions). split t low (eqb t k) refl)
  where
    split : (t : ℕ) → t < transactions → (b : Bool) → eqb t k ≡ b → IsOf (get_or (set ss k s) t no_summary) (get_or (set rows k r) t no_row)
    split t low true same =
        subst (λ (x : ℕ). IsOf (get_or (set ss k s) x no_summary) (get_or (set rows k r) x no_row)) (sym (eqb-true t k same))
        (moved (sym (get_or-set_same ss k s no_summary (omega (arith, all.0, h)))) (sym (get_or-set_same rows k r no_row (omega (arith, full, h)))) is)
    split t low false other =
        moved (sym (get_or-set_other ss k t s no_summary (eqb-false t k other))) (sym (get_or-set_other rows k t r no_row (eqb-false t k other))) (all.1 t low)
