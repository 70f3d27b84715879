-- What an outcome tells of the votes, and the votes of the outcome.
use Prim.Native.Nat.{ℕ, ◌<◌}
use mathlib.Core.Path.{◌≡◌, refl, sym, ap, ◌∙◌}
use mathlib.Core.Bool.{Bool, true, false, not, ◌&&◌, ◌||◌, cond, true≢false, false≢true}
use mathlib.Core.List.{List}
use mathlib.Core.Logic.{⊎_elim}
use lib.ListN.{get_or, length, get_or-eq_default}
use borrow.Author.Tests.{not-false, not-true}
use Rattle.std.proofs.lemmas.Bool.{and_from, and_parts}
use Rattle.log_entry.specs.Bits.{has}
use Rattle.log_votes.specs.declared.Outcome.{Outcome}
use Rattle.log_votes.specs.declared.Outcome.TheVariants.{Open, Commit, Abort}
use Rattle.log_votes.specs.declared.Vote.{Vote}
use Rattle.log_votes.specs.Row.{no_vote}
use Rattle.log_votes.specs.Outcome.{any_abort, any_covered, covered, is_abort, is_commit, is_commit_vote, is_committed, outcome_of_votes}
use Rattle.log_votes.specs.Vote.{vote_commit, vote_kept, vote_list}
use Rattle.log_laws.proofs.Scans.{all_here, any_here, each_here, found, none_here}
use Rattle.log_entry.proofs.Tests.{and_false, below_or_not}

-- a vote that is kept stands in the row
pub kept_in : (votes : List Vote) (s : ℕ) → vote_kept (get_or votes s no_vote) ≡ true → s < length votes
kept_in votes s h =
    ⊎_elim
    (λ (k : s < length votes). k)
    (λ k. absurd (false≢true (sym (ap (λ (v : Vote). vote_kept v) (get_or-eq_default votes no_vote {n = s} k)) ∙ h)))
    (below_or_not s (length votes))

-- the two tests of a commit vote, and of an abort vote
pub commit_parts : (v : Vote) → is_commit_vote v ≡ true → (vote_kept v ≡ true) × (vote_commit v ≡ true)
commit_parts v = and_parts (vote_kept v) (vote_commit v)

pub commit_from : (v : Vote) → (vote_kept v ≡ true) × (vote_commit v ≡ true) → is_commit_vote v ≡ true
commit_from v k = and_from (vote_kept v) (vote_commit v) k.0 k.1

pub abort_parts : (s : ℕ) (v : Vote) → is_abort s v ≡ true → (vote_kept v ≡ true) × (vote_commit v ≡ false)
abort_parts s v h = let k = and_parts (vote_kept v) (not (vote_commit v)) h in (k.0, not-true (vote_commit v) k.1)

pub abort_from : (s : ℕ) (v : Vote) → (vote_kept v ≡ true) × (vote_commit v ≡ false) → is_abort s v ≡ true
abort_from s v k = and_from (vote_kept v) (not (vote_commit v)) k.0 (ap not k.1)

-- the outcome, by its two tests
pub is_commit_lem : (o : Outcome) → is_committed o ≡ true → o ≡ Commit
is_commit_lem Open h = absurd (false≢true h)
is_commit_lem Commit h = refl
is_commit_lem Abort h = absurd (false≢true h)

no_abort : (a c : Bool) → is_committed (cond a Abort (cond c Commit Open)) ≡ true → a ≡ false
no_abort true c h = absurd (false≢true h)
no_abort false c h = refl

some_cover : (a c : Bool) → is_committed (cond a Abort (cond c Commit Open)) ≡ true → c ≡ true
some_cover true c h = absurd (false≢true h)
some_cover false true h = refl
some_cover false false h = absurd (false≢true h)

commit_by : (a c : Bool) → a ≡ false → c ≡ true → is_committed (cond a Abort (cond c Commit Open)) ≡ true
commit_by true c h k = absurd (true≢false h)
commit_by false true h k = refl
commit_by false false h k = absurd (false≢true k)

abort_by : (a c : Bool) → a ≡ true → cond a Abort (cond c Commit Open) ≡ Abort
abort_by true c h = refl
abort_by false c h = absurd (false≢true h)

is_aborted : Outcome → Bool
is_aborted Open = false
is_aborted Commit = false
is_aborted Abort = true

abort_of : (a c : Bool) → cond a Abort (cond c Commit Open) ≡ Abort → a ≡ true
unfolding is_aborted
abort_of true c h = refl
abort_of false true h = ap is_aborted h
abort_of false false h = ap is_aborted h

module _ (votes : List Vote) where
  abbrev vote : ℕ → Vote
  vote s = get_or votes s no_vote

  pub committed_no_abort : is_committed (outcome_of_votes votes) ≡ true → any_abort votes ≡ false
  unfolding outcome_of_votes
  committed_no_abort h = no_abort (any_abort votes) (any_covered votes) h

  pub committed_covered : is_committed (outcome_of_votes votes) ≡ true → any_covered votes ≡ true
  unfolding outcome_of_votes
  committed_covered h = some_cover (any_abort votes) (any_covered votes) h

  pub committed_by : any_abort votes ≡ false → any_covered votes ≡ true → is_committed (outcome_of_votes votes) ≡ true
  unfolding outcome_of_votes
  committed_by h k = commit_by (any_abort votes) (any_covered votes) h k

  pub aborted_by : (s : ℕ) → is_abort s (vote s) ≡ true → outcome_of_votes votes ≡ Abort
  unfolding outcome_of_votes
  aborted_by s h =
      abort_by (any_abort votes) (any_covered votes)
      (any_here is_abort no_vote votes s (kept_in votes s (abort_parts s (vote s) h).0) h)

  pub aborted_of : outcome_of_votes votes ≡ Abort → (s : ℕ) × (s < length votes) × (is_abort s (vote s) ≡ true)
  unfolding outcome_of_votes
  aborted_of h = found is_abort no_vote votes (abort_of (any_abort votes) (any_covered votes) h)

  -- with no abort kept, a kept vote is a commit
  pub kept_commit : any_abort votes ≡ false → (s : ℕ) → vote_kept (vote s) ≡ true → is_commit s (vote s) ≡ true
  kept_commit h s k =
      and_from (vote_kept (vote s)) (vote_commit (vote s)) k
      (not-false (vote_commit (vote s))
      (and_false (vote_kept (vote s)) (not (vote_commit (vote s))) (none_here is_abort no_vote votes h s (kept_in votes s k)) k))

  -- the vote whose list is covered
  pub covering : any_covered votes ≡ true → (s : ℕ) × (vote_kept (vote s) ≡ true) × (covered (vote_list (vote s)) votes ≡ true)
  covering h =
      let r = found (λ s v. vote_kept v && covered (vote_list v) votes) no_vote votes h in
      let k = and_parts (vote_kept (vote r.0)) (covered (vote_list (vote r.0)) votes) r.2 in
      (r.0, k.0, k.1)

  pub cover_made : (s : ℕ) → vote_kept (vote s) ≡ true → covered (vote_list (vote s)) votes ≡ true → any_covered votes ≡ true
  cover_made s k h =
      any_here (λ s v. vote_kept v && covered (vote_list v) votes) no_vote votes s (kept_in votes s k)
      (and_from (vote_kept (vote s)) (covered (vote_list (vote s)) votes) k h)

  -- each listed store that stands in the row has a kept commit vote
  pub covered_at : (list t : ℕ) → covered list votes ≡ true → t < length votes → has list t ≡ true → is_commit t (vote t) ≡ true
  covered_at list t h b k = take (has list t) (is_commit t (vote t)) k (each_here (λ s v. not (has list s) || is_commit s v) no_vote votes h t b)
    where
      take : (x y : Bool) → x ≡ true → (not x || y) ≡ true → y ≡ true
      take true y e f = f
      take false y e f = absurd (false≢true e)

  pub covered_by : (list : ℕ) → ((t : ℕ) → has list t ≡ true → is_commit t (vote t) ≡ true) → covered list votes ≡ true
  covered_by list h = all_here (λ s v. not (has list s) || is_commit s v) no_vote votes (λ t b. give (has list t) (is_commit t (vote t)) (h t))
    where
      give : (x y : Bool) → (x ≡ true → y ≡ true) → (not x || y) ≡ true
      give true y f = f refl
      give false y f = refl
