-- Groups: who has one, their numbers, and which one a commit joins or begins.
use Prim.Native.Nat.{ℕ, ◌+◌}
use mathlib.Core.Path.{◌≡◌, refl, sym, ap, subst, ◌∙◌}
use mathlib.Core.Bool.{true, false, cond}
use mathlib.Core.List.{List, [], ◌∷◌, ◌++◌}
use mathlib.Core.Logic.{⊎_elim}
use native.Mathlib.Omega.{arith}
use lib.Seq.{append_snoc}
use Rattle.log_entry.specs.declared.Entry.{Entry}
use Rattle.log_entry.specs.Bits.{has}
use Rattle.log_entry.specs.Entry.{is_take, tx_of}
use Rattle.log_entry.specs.Refusal.{accepted}
use Rattle.log_core.specs.declared.Log.{Log}
use Rattle.log_votes.specs.declared.Row.{Row}
use Rattle.log_core.specs.Enter.{enter, feed}
use Rattle.log_core.proofs.EnterLaws.{answer_is, refusal_of}
use Rattle.log_core.specs.Group.{next_group, remembered}
use Rattle.log_core.specs.Log.{empty_log, row_of, outcome_of}
use Rattle.log_votes.specs.Row.{in_group}
use Rattle.log_votes.specs.Outcome.{is_committed, outcome_of_votes, running}
use Rattle.log_laws.specs.Groups.{Begins, BegunByCommit, FirstCommitBegins, GroupAtCommit, GroupIffCommitted, GroupNeverChanges, Grouped, GroupsWithoutGaps, JoinsIfRunningWhenBegun}
use Rattle.log_laws.specs.Reached.{reached}
use Rattle.log_laws.proofs.Accepted.{VoteOk, vote_ok}
use Rattle.log_laws.proofs.Feed.{feed_append, wf_reached}
use Rattle.log_laws.proofs.GroupSteps.{next_is, row_after_lem}
use Rattle.log_laws.proofs.Grouping.{groups_le}
use Rattle.log_laws.proofs.Outcomes.{is_commit_lem}
use Rattle.log_laws.proofs.Remembered.{remembered_stays, remembers_running}
use Rattle.log_laws.proofs.RowSteps.{joins_some}
use Rattle.log_laws.proofs.Rows.{committed}
use Rattle.log_laws.proofs.Stays.{row_stays}
use Rattle.log_laws.proofs.Steps.{answer_cases, group_after, groups_after, joins, row_with, vote_entered, voted_groups}
use Rattle.log_entry.proofs.Tests.{by_test, either, opposed}
use Rattle.log_laws.proofs.WellFormed.{Wf}

pub iff_committed : GroupIffCommitted
iff_committed es tx = (
  λ h. is_commit_lem (outcome_of (reached es) tx) (((wf_reached es).row tx).in_group h),
  λ h. ((wf_reached es).row tx).has_group (ap is_committed h),
)

pub without_gaps : GroupsWithoutGaps
without_gaps es = record {
  group_le = (wf_reached es).grouping.group_le;
  group_of = λ g n. (wf_reached es).grouping.group_of g (omega arith);
  groups_le = omega (arith, groups_le (reached es).rows (reached es).groups (wf_reached es).grouping, (wf_reached es).sized.rows_size);
}

pub never_changes : GroupNeverChanges
never_changes es more tx h = ap (λ (r : Row). r.group) (row_stays es more tx ((iff_committed es tx).0 h))

-- a vote that is accepted, and the row with it
module _ (l : Log) (e : Entry) (w : Wf l) (vote : is_take e ≡ false) (ok : refusal_of l e ≡ accepted) where
  abbrev after : Row
  after = row_with l e

  fine : VoteOk (row_of l (tx_of e)) l e
  fine = vote_ok l e vote ok

  row_entered : row_of (enter l e).log (tx_of e) ≡ in_group after (group_after l (tx_of e) after)
  row_entered =
      ap (λ (x : Log). row_of x (tx_of e)) (vote_entered l e ok vote)
      ∙ row_after_lem l e w.sized w.row w.grouping fine

  outcome_entered : outcome_of (enter l e).log (tx_of e) ≡ outcome_of_votes after.votes
  outcome_entered = ap (λ (r : Row). outcome_of_votes r.votes) row_entered

  -- the number that a commit gives, to the row and to the count
  number : (other : ℕ) → committed after ≡ true
      → cond (committed after) (cond (joins l (tx_of e) after) l.groups (next_group l.groups)) other ≡ cond (joins l (tx_of e) after) l.groups (l.groups + 1)
  number other h =
      by_test (λ (g : ℕ). g ≡ cond (joins l (tx_of e) after) l.groups (l.groups + 1)) (committed after) _ _
      (λ c. ap (λ (n : ℕ). cond (joins l (tx_of e) after) l.groups n) (next_is l e w.sized w.row w.grouping fine))
      (λ c. absurd (opposed h c))

  grouped_entered : committed after ≡ true → Grouped l e (joins l (tx_of e) after)
  grouped_entered h = record {
    group = ap (λ (r : Row). r.group) row_entered ∙ number after.group h;
    groups = ap (λ (x : Log). x.groups) (vote_entered l e ok vote) ∙ voted_groups l (tx_of e) after ∙ number l.groups h;
  }

pub at_commit : GroupAtCommit
at_commit es e c =
    let ok = sym (answer_is (reached es) e) ∙ c.is_accepted in
    grouped_entered (reached es) e (wf_reached es) c.vote ok
    (ap is_committed (sym (outcome_entered (reached es) e (wf_reached es) c.vote ok) ∙ c.commit))

-- with no group begun, nothing is remembered
pub first_begins : FirstCommitBegins
first_begins es e z c =
    (at_commit es e c).group
    ∙ ⊎_elim
    (λ (j : has (remembered (reached es) (reached es).groups) (tx_of e) ≡ true).
    absurd (joins_some (reached es) (tx_of e) (row_of (reached es) (tx_of e)) j z))
    (λ (j : has (remembered (reached es) (reached es).groups) (tx_of e) ≡ false). rw (j, z) refl)
    (either (has (remembered (reached es) (reached es).groups) (tx_of e)))

-- an entry that begins a group is an accepted vote that commits
module _ (l : Log) (e : Entry) (w : Wf l) where
  Accepted : Type 0
  Accepted = (is_take e ≡ false) × (refusal_of l e ≡ accepted) × (committed (row_with l e) ≡ true)

  begun : Begins l e → Accepted
  unfolding Accepted
  begun =
      answer_cases (λ (x : Log). x.groups ≡ l.groups + 1 → Accepted) l e
      (λ h. absurd (none h))
      (λ ok t h. absurd (none h))
      (λ ok t h. (t, ok, commit (sym (voted_groups l (tx_of e) (row_with l e)) ∙ h)))
    where
      none : l.groups ≡ l.groups + 1 → ⊥
      none h = omega arith

      commit : groups_after l (tx_of e) (row_with l e) ≡ l.groups + 1 → committed (row_with l e) ≡ true
      commit =
          by_test (λ (g : ℕ). g ≡ l.groups + 1 → committed (row_with l e) ≡ true) (committed (row_with l e)) _ _
          (λ c h. c) (λ c h. absurd (none h))

pub by_commit : BegunByCommit
unfolding Accepted
by_commit es e b =
    let l = reached es in
    let w = wf_reached es in
    let a = begun l e w b in
    let g = grouped_entered l e w a.0 a.1 a.2 in (
      record { vote = a.0; is_accepted = answer_is l e ∙ a.1; commit = outcome_entered l e w a.0 a.1 ∙ is_commit_lem _ a.2 },
      g.group ∙ sym g.groups,
    )

-- the log after one more entry
one_more : (es : List Entry) (e : Entry) → reached (es ++ e ∷ []) ≡ (enter (reached es) e).log
unfolding feed
one_more es e = feed_append empty_log es (e ∷ [])

pub joins_if_running : JoinsIfRunningWhenBegun
joins_if_running es first more e b same c =
    subst (Grouped (reached (es ++ first ∷ more)) e) (ap (λ (set : ℕ). has set (tx_of e)) memory ∙ ran) (at_commit (es ++ first ∷ more) e c)
  where
    begun_log : Log
    begun_log = reached (es ++ first ∷ [])

    -- the last group remembers what it did when it was begun
    memory : remembered (reached (es ++ first ∷ more)) (reached (es ++ first ∷ more)).groups ≡ remembered begun_log begun_log.groups
    memory =
        ap (remembered (reached (es ++ first ∷ more))) same
        ∙ ap (λ (xs : List Entry). remembered (reached xs) begun_log.groups) (sym (append_snoc es first more))
        ∙ remembered_stays (es ++ first ∷ []) more begun_log.groups (omega arith)

    ran : has (remembered begun_log begun_log.groups) (tx_of e) ≡ running (row_of (reached es) (tx_of e))
    ran = ap (λ (x : Log). has (remembered x x.groups) (tx_of e)) (one_more es first) ∙ remembers_running es first b (tx_of e)
