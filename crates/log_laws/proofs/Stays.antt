-- What is kept stays: a kept vote, the row of a committed transaction, an outcome that is not open.
use Prim.Native.Nat.{ℕ}
use mathlib.Core.Path.{◌≡◌, refl, sym, ap, ◌∙◌}
use mathlib.Core.Bool.{true}
use mathlib.Core.List.{List, ◌++◌}
use mathlib.Core.Logic.{◌≢◌}
use Rattle.log_entry.specs.declared.Entry.{Entry}
use Rattle.log_entry.specs.Entry.{tx_of}
use Rattle.log_core.specs.declared.Log.{Log}
use Rattle.log_votes.specs.declared.Outcome.{Outcome}
use Rattle.log_votes.specs.declared.Outcome.TheVariants.{Open, Commit, Abort}
use Rattle.log_votes.specs.declared.Row.{Row}
use Rattle.log_votes.specs.declared.Vote.{Vote}
use Rattle.log_core.proofs.EnterLaws.{answer_is}
use Rattle.log_core.specs.Enter.{enter, feed}
use Rattle.log_core.specs.Log.{empty_log, row_of, vote_at, outcome_of}
use Rattle.log_votes.specs.Outcome.{is_abort, is_committed, outcome_of_votes}
use Rattle.log_votes.specs.Row.{vote_of_store}
use Rattle.log_votes.specs.Vote.{vote_commit, vote_kept}
use Rattle.log_laws.specs.Reached.{reached}
use Rattle.log_laws.specs.Votes.{CommitVotesNameOneList, CommittedKeepsNoVote, CommittedRowStays, KeptCommit, KeptVoteStays, OutcomeNeverChanges}
use Rattle.log_laws.proofs.Accepted.{vote_ok}
use Rattle.log_laws.proofs.Feed.{feed_append, later, wf_reached}
use Rattle.log_laws.proofs.Outcomes.{abort_parts, aborted_by, aborted_of, commit_from}
use Rattle.log_laws.proofs.Rows.{committed_refuses, kept_cases}
use Rattle.log_laws.proofs.Steps.{row_cases}
use Rattle.log_entry.proofs.Tests.{opposed}
use Rattle.log_laws.proofs.WellFormed.{Wf, feed_keeps}

-- this vote is kept there
abbrev pub Stands : ℕ → ℕ → Vote → Log → Type 0
Stands tx s v l = (vote_kept v ≡ true) × (vote_at l tx s ≡ v)

pub stands_enter : (tx s : ℕ) (v : Vote) (l : Log) (e : Entry) → Wf l → Stands tx s v l → Stands tx s v (enter l e).log
stands_enter tx s v l e w h = (
  h.0,
  row_cases (λ (r : Row). vote_of_store s r ≡ v) l e tx h.1
      (λ ok k. kept_cases (λ (x : Vote). x ≡ v) (row_of l tx) e s
      (λ m. absurd (opposed h.0 (ap (λ (x : Vote). vote_kept x) (sym h.1 ∙ ap (λ (n : ℕ). vote_at l tx n) m) ∙ ok.free)))
      h.1),
)

pub vote_stays : KeptVoteStays
vote_stays es more tx s k = (later (Stands tx s (vote_at (reached es) tx s)) (stands_enter tx s (vote_at (reached es) tx s)) es more (k, refl)).1

pub commit_stays : (es more : List Entry) (tx s : ℕ) → KeptCommit (reached es) tx s → KeptCommit (reached (es ++ more)) tx s
commit_stays es more tx s k =
    let stays = vote_stays es more tx s k.0 in
    (ap (λ (v : Vote). vote_kept v) stays ∙ k.0, ap (λ (v : Vote). vote_commit v) stays ∙ k.1)

-- this row is committed
abbrev Settled : ℕ → Row → Log → Type 0
Settled tx r l = (is_committed (outcome_of_votes r.votes) ≡ true) × (row_of l tx ≡ r)

settled_enter : (tx : ℕ) (r : Row) (l : Log) (e : Entry) → Wf l → Settled tx r l → Settled tx r (enter l e).log
settled_enter tx r l e w h = (
  h.0,
  row_cases (λ (x : Row). x ≡ r) l e tx h.1
      (λ ok k. absurd (committed_refuses (row_of l tx) (w.row tx)
      (ap (λ (x : Row). is_committed (outcome_of_votes x.votes)) h.1 ∙ h.0) l e ok)),
)

pub row_stays : CommittedRowStays
row_stays es more tx h = (later (Settled tx (row_of (reached es) tx)) (settled_enter tx (row_of (reached es) tx)) es more (ap is_committed h, refl)).1

pub no_vote_kept : CommittedKeepsNoVote
no_vote_kept es e t h a =
    committed_refuses (row_of (reached es) (tx_of e)) ((wf_reached es).row (tx_of e)) (ap is_committed h) (reached es) e (vote_ok (reached es) e t (sym (answer_is (reached es) e) ∙ a))

-- from any log in order, so also from one of a replicated service
pub decided_stays : (l : Log) (es : List Entry) (tx : ℕ) → Wf l → outcome_of l tx ≢ Open → outcome_of (feed l es) tx ≡ outcome_of l tx
decided_stays l es tx w n = split (outcome_of l tx) refl
  where
    committed_stays : outcome_of l tx ≡ Commit → outcome_of (feed l es) tx ≡ outcome_of l tx
    committed_stays h =
        ap (λ (r : Row). outcome_of_votes r.votes)
        (feed_keeps (Settled tx (row_of l tx)) (settled_enter tx (row_of l tx)) l es w (ap is_committed h, refl)).1

    aborted_stays : outcome_of l tx ≡ Abort → outcome_of (feed l es) tx ≡ outcome_of l tx
    aborted_stays h =
        let a = aborted_of (row_of l tx).votes h in
        let v = vote_at l tx a.0 in
        let k = feed_keeps (Stands tx a.0 v) (stands_enter tx a.0 v) l es w ((abort_parts a.0 v a.2).0, refl) in
        aborted_by (row_of (feed l es) tx).votes a.0 (ap (is_abort a.0) k.1 ∙ a.2) ∙ sym h

    split : (o : Outcome) → outcome_of l tx ≡ o → outcome_of (feed l es) tx ≡ outcome_of l tx
    split Open h = absurd (n h)
    split Commit h = committed_stays h
    split Abort h = aborted_stays h

pub outcome_stays : OutcomeNeverChanges
outcome_stays es more tx h =
    ap (λ (l : Log). outcome_of l tx) (feed_append empty_log es more) ∙ decided_stays (reached es) more tx (wf_reached es) h

pub one_list_named : CommitVotesNameOneList
one_list_named es tx s t h k =
    ((wf_reached es).row tx).one_list s t
    (commit_from (vote_at (reached es) tx s) h)
    (commit_from (vote_at (reached es) tx t) k)
