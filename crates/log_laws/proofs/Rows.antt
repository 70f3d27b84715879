-- A transaction's row: what holds of each row of a reachable log, and that an accepted
-- vote keeps it so.
use Prim.Native.Nat.{ℕ, ◌<◌}
use mathlib.Core.Path.{◌≡◌, ap, refl, sym, subst, ◌∙◌}
use mathlib.Core.Bool.{Bool, true, false, ◌&&◌}
use mathlib.Core.Logic.{◌≢◌}
use lib.ListN.{length, length-set}
use borrow.Author.Tests.{eqb-true, not-false}
use Rattle.log_entry.proofs.InsideLaws.{inside_vote}
use Rattle.log_entry.specs.declared.Entry.{Entry}
use Rattle.log_entry.specs.Bits.{has}
use Rattle.log_entry.specs.Entry.{list_of, says_commit}
use Rattle.log_entry.specs.Limits.{stores}
use Rattle.log_core.specs.declared.Log.{Log}
use Rattle.log_votes.specs.declared.Row.{Row}
use Rattle.log_votes.specs.declared.Vote.{Vote}
use Rattle.log_votes.specs.Row.{in_group, keeping, no_vote, vote_of_entry, vote_of_store}
use Rattle.log_votes.specs.Outcome.{is_commit, is_committed, outcome_of_votes}
use Rattle.log_votes.specs.Refusal.{clashes}
use Rattle.log_votes.specs.Vote.{vote_kept, vote_list}
use Rattle.log_laws.proofs.Accepted.{VoteOk, lists_store}
use Rattle.log_laws.proofs.KeptVotes.{kept_as, kept_says}
use Rattle.log_laws.proofs.Outcomes.{commit_parts, committed_covered, committed_no_abort, covered_at, covering, kept_commit, kept_in}
use Rattle.log_laws.proofs.Places.{set_either}
use Rattle.log_laws.proofs.Scans.{none_here}
use Rattle.log_laws.proofs.Sets.{member_below, within_has}
use Rattle.log_entry.proofs.Tests.{and_false, by_test, opposed}

abbrev pub committed : Row → Bool
committed r = is_committed (outcome_of_votes r.votes)

pub record RowWf (r : Row) : Type 0 where
  -- a kept vote lists stores that have a place in the row
  pub lists_in : (s t : ℕ) → vote_kept (vote_of_store s r) ≡ true → has (vote_list (vote_of_store s r)) t ≡ true → t < length r.votes
  pub one_list : (s t : ℕ) → is_commit s (vote_of_store s r) ≡ true → is_commit t (vote_of_store t r) ≡ true
      → vote_list (vote_of_store s r) ≡ vote_list (vote_of_store t r)
  -- it has a group exactly if it is committed
  pub has_group : committed r ≡ true → r.group ≢ 0
  pub in_group : r.group ≢ 0 → committed r ≡ true

-- the vote of store s after the entry's vote is kept: the entry's, or what it was
pub kept_cases : (P : Vote → Type 0) (r : Row) (e : Entry) (s : ℕ) → (s ≡ e.store → P (vote_of_entry e)) → P (vote_of_store s r)
    → P (vote_of_store s (keeping r e))
kept_cases P r e s = set_either P r.votes e.store s (vote_of_entry e) no_vote

-- the list of an accepted vote does not clash with that of a kept commit vote
no_clash_with : (r : Row) (l : Log) (e : Entry) → VoteOk r l e → (s : ℕ) → is_commit s (vote_of_store s r) ≡ true
    → clashes e (vote_list (vote_of_store s r)) ≡ false
no_clash_with r l e ok s k =
    and_false (is_commit s (vote_of_store s r)) (clashes e (vote_list (vote_of_store s r)))
    (none_here (λ s v. is_commit s v && clashes e (vote_list v)) no_vote r.votes ok.no_clash s
    (kept_in r.votes s (commit_parts (vote_of_store s r) k).0)) k

module _ (r : Row) (w : RowWf r) where
  -- of a committed row each store listed in a kept vote has a kept commit vote
  pub listed_commits : committed r ≡ true → (s t : ℕ) → vote_kept (vote_of_store s r) ≡ true → has (vote_list (vote_of_store s r)) t ≡ true
      → is_commit t (vote_of_store t r) ≡ true
  listed_commits h s t k m =
      let none = committed_no_abort r.votes h in
      let c = covering r.votes (committed_covered r.votes h) in
      let list = w.one_list s c.0 (kept_commit r.votes none s k) (kept_commit r.votes none c.0 c.1) in
      covered_at r.votes (vote_list (vote_of_store c.0 r)) t c.2 (w.lists_in s t k m) (subst (λ (x : ℕ). has x t ≡ true) list m)

  -- no vote is accepted for a committed row
  pub committed_refuses : committed r ≡ true → (l : Log) (e : Entry) → VoteOk r l e → ⊥
  committed_refuses h l e ok =
      let c = covering r.votes (committed_covered r.votes h) in
      let k = kept_commit r.votes (committed_no_abort r.votes h) c.0 c.1 in
      opposed
      (commit_parts (vote_of_store e.store r) (listed_commits h c.0 e.store c.1 (listed (vote_list (vote_of_store c.0 r)) (no_clash_with r l e ok c.0 k)))).0
      ok.free
    where
      -- a list with which the entry's does not clash has its store
      listed : (list : ℕ) → clashes e list ≡ false → has list e.store ≡ true
      listed list =
          by_test (λ (b : Bool). b ≡ false → has list e.store ≡ true) (says_commit e) _ _
          (λ c n. subst (λ (x : ℕ). has x e.store ≡ true) (sym (eqb-true list (list_of e) (not-false _ n))) (lists_store e ok.well_formed))
          (λ c n. within_has (list_of e) list e.store (not-false _ n) (lists_store e ok.well_formed))

-- an accepted vote keeps the row well formed, if the group it gets is right
module _ (r : Row) (l : Log) (e : Entry) (g : ℕ) (w : RowWf r) (ok : VoteOk r l e) (size : length r.votes ≡ stores) where
  after : Row
  after = in_group (keeping r e) g

  same_size : length after.votes ≡ length r.votes
  unfolding after
  same_size = length-set r.votes e.store (vote_of_entry e)

  -- a commit vote kept before has the list of an accepted commit vote
  old_list : says_commit e ≡ true → (s : ℕ) → is_commit s (vote_of_store s r) ≡ true → vote_list (vote_of_store s r) ≡ list_of e
  old_list c s k =
      by_test (λ (b : Bool). b ≡ false → vote_list (vote_of_store s r) ≡ list_of e) (says_commit e) _ _
      (λ c n. eqb-true (vote_list (vote_of_store s r)) (list_of e) (not-false _ n))
      (λ n. absurd (opposed c n))
      (no_clash_with r l e ok s k)

  kept_lists_in : (s t : ℕ) → vote_kept (vote_of_store s after) ≡ true → has (vote_list (vote_of_store s after)) t ≡ true → t < length after.votes
  unfolding after
  kept_lists_in s t =
      kept_cases (λ (v : Vote). vote_kept v ≡ true → has (vote_list v) t ≡ true → t < length after.votes) r e s
      (λ k kept m. subst (λ (n : ℕ). t < n) (sym (same_size ∙ size)) (member_below (list_of e) stores t (inside_vote l.stores e ok.in_limits ok.is_vote).list (ap (λ (list : ℕ). has list t) (sym (kept_as e).list) ∙ m)))
      (λ kept m. subst (λ (n : ℕ). t < n) (sym same_size) (w.lists_in s t kept m))

  kept_one_list : (s t : ℕ) → is_commit s (vote_of_store s after) ≡ true → is_commit t (vote_of_store t after) ≡ true
      → vote_list (vote_of_store s after) ≡ vote_list (vote_of_store t after)
  unfolding after
  kept_one_list s t =
      kept_cases (λ (v : Vote). is_commit s v ≡ true → is_commit t (vote_of_store t after) ≡ true → vote_list v ≡ vote_list (vote_of_store t after)) r e s
      (λ k c. kept_cases (λ (v : Vote). is_commit t v ≡ true → vote_list (vote_of_entry e) ≡ vote_list v) r e t
      (λ k' c'. refl)
      (λ c'. (kept_as e).list ∙ sym (old_list (kept_says e c) t c')))
      (kept_cases (λ (v : Vote). is_commit s (vote_of_store s r) ≡ true → is_commit t v ≡ true → vote_list (vote_of_store s r) ≡ vote_list v) r e t
      (λ k c c'. old_list (kept_says e c') s c ∙ sym (kept_as e).list)
      (w.one_list s t))

  pub row_kept : (committed (in_group (keeping r e) g) ≡ true → g ≢ 0) → (g ≢ 0 → committed (in_group (keeping r e) g) ≡ true)
      → RowWf (in_group (keeping r e) g)
  unfolding after
  row_kept h k =
      record { lists_in = kept_lists_in; one_list = kept_one_list; has_group = h; in_group = k }

-- a row with no kept vote and no group
pub row_empty : (r : Row) → ((s : ℕ) → vote_kept (vote_of_store s r) ≡ false) → r.group ≡ 0 → RowWf r
row_empty r h z =
    record {
      lists_in = λ s t k m. absurd (opposed k (h s));
      one_list = λ s t k m. absurd (opposed (commit_parts (vote_of_store s r) k).0 (h s));
      has_group = λ c. absurd (let v = covering r.votes (committed_covered r.votes c) in opposed v.1 (h v.0));
      in_group = λ g. absurd (g z);
    }
