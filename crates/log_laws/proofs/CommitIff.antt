-- The outcome is commit if and only if a vote is kept, every store listed in a kept vote has a kept
-- commit vote, and no abort is kept.
use Prim.Native.Nat.{ℕ}
use mathlib.Core.Path.{◌≡◌, ap}
use mathlib.Core.Bool.{true}
use Rattle.log_core.specs.declared.Log.{Log}
use Rattle.log_votes.specs.Row.{no_vote}
use Rattle.log_core.specs.Log.{row_of, vote_at, outcome_of}
use Rattle.log_votes.specs.Outcome.{is_abort, is_committed}
use Rattle.log_votes.specs.Vote.{vote_list}
use Rattle.log_laws.specs.Reached.{reached}
use Rattle.log_laws.specs.Votes.{AllCommit, OutcomeCommitIff}
use Rattle.log_laws.proofs.Feed.{wf_reached}
use Rattle.log_laws.proofs.Outcomes.{abort_from, abort_parts, commit_from, commit_parts, committed_by, committed_covered, committed_no_abort, cover_made, covered_by, covering, is_commit_lem, kept_in}
use Rattle.log_laws.proofs.Rows.{listed_commits}
use Rattle.log_laws.proofs.Scans.{none_found, none_here}
use Rattle.log_entry.proofs.Tests.{opposed}
use Rattle.log_laws.proofs.WellFormed.{Wf}

module _ (l : Log) (w : Wf l) (tx : ℕ) where
  all_commit : is_committed (outcome_of l tx) ≡ true → AllCommit l tx
  all_commit h = record {
    some_kept = let c = covering (row_of l tx).votes (committed_covered (row_of l tx).votes h) in (c.0, c.1);
    listed_commit = λ s t m. commit_parts (vote_at l tx t) (listed_commits (row_of l tx) (w.row tx) h s t m.0 m.1);
    no_abort = λ s a.
        opposed (abort_from s (vote_at l tx s) a)
        (none_here is_abort no_vote (row_of l tx).votes (committed_no_abort (row_of l tx).votes h) s
        (kept_in (row_of l tx).votes s a.0));
  }

  commits : AllCommit l tx → is_committed (outcome_of l tx) ≡ true
  commits a =
      committed_by (row_of l tx).votes
      (none_found is_abort no_vote (row_of l tx).votes (λ s h m. a.no_abort s (abort_parts s (vote_at l tx s) m)))
      (cover_made (row_of l tx).votes a.some_kept.0 a.some_kept.1
      (covered_by (row_of l tx).votes (vote_list (vote_at l tx a.some_kept.0)) (λ t m. commit_from (vote_at l tx t) (a.listed_commit a.some_kept.0 t (a.some_kept.1, m)))))

pub commit_iff : OutcomeCommitIff
commit_iff es tx = (
  λ h. all_commit (reached es) (wf_reached es) tx (ap is_committed h),
  λ a. is_commit_lem (outcome_of (reached es) tx) (commits (reached es) (wf_reached es) tx a),
)
