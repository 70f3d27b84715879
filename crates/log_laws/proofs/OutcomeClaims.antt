-- Abort and running, by the kept votes.
use mathlib.Core.Path.{◌≡◌, refl, ap}
use mathlib.Core.Bool.{Bool, true, false≢true}
use Rattle.log_votes.specs.declared.Outcome.{Outcome}
use Rattle.log_votes.specs.declared.Outcome.TheVariants.{Abort, Commit, Open}
use Rattle.log_votes.specs.Outcome.{is_kept, is_open, running}
use Rattle.log_votes.specs.Row.{no_vote}
use Rattle.log_votes.specs.Scan.{any_from}
use Rattle.log_core.specs.Log.{outcome_of, row_of, vote_at}
use Rattle.log_laws.specs.Votes.{OutcomeAbortIff, RunningExactly}
use Rattle.log_laws.proofs.Outcomes.{abort_from, abort_parts, aborted_by, aborted_of, kept_in}
use Rattle.log_laws.proofs.Scans.{any_here, found}
use Rattle.log_entry.proofs.Tests.{and_left, and_right, both}

pub abort_iff : OutcomeAbortIff
abort_iff l tx = (
  λ h.
      let a = aborted_of (row_of l tx).votes h in
      let v = vote_at l tx a.0 in
      (a.0, abort_parts a.0 v a.2),
  λ a.
      let v = vote_at l tx a.0 in
      aborted_by (row_of l tx).votes a.0 (abort_from a.0 v a.1),
)

pub is_open_lem : (o : Outcome) → is_open o ≡ true → o ≡ Open
is_open_lem Open h = refl
is_open_lem Commit h = absurd (false≢true h)
is_open_lem Abort h = absurd (false≢true h)

pub running_by_votes : RunningExactly
unfolding running
running_by_votes l tx = (
  λ h.
      let k = found is_kept no_vote (row_of l tx).votes (and_left some (is_open (outcome_of l tx)) h) in
      ((k.0, k.2), is_open_lem (outcome_of l tx) (and_right some (is_open (outcome_of l tx)) h)),
  λ r.
      both some (is_open (outcome_of l tx))
      (any_here is_kept no_vote (row_of l tx).votes r.0.0 (kept_in (row_of l tx).votes r.0.0 r.0.1) r.0.1)
      (ap is_open r.1),
)
  where
    some : Bool
    some = any_from is_kept 0 (row_of l tx).votes
