-- Who is involved, beside document 01: what changed, and what did not.
use Prim.Native.Nat.{ℕ}
use mathlib.Core.Path.{◌≡◌, refl, sym, ap, ap₂, ◌∙◌}
use mathlib.Core.Bool.{Bool, true, false, cond}
use mathlib.Core.List.{List, ◌++◌}
use mathlib.Core.Logic.{⊎_elim}
use Rattle.log_entry.specs.declared.Entry.{Entry}
use Rattle.log_entry.specs.Bits.{has}
use Rattle.log_entry.specs.Entry.{list_of, says_commit, tx_of}
use Rattle.log_votes.specs.declared.Involvement.TheVariants.{No, Unknown, Yes}
use Rattle.log_votes.specs.declared.Row.{Row}
use Rattle.log_votes.specs.declared.Vote.{Vote}
use Rattle.log_core.specs.declared.Log.{Log}
use Rattle.log_votes.specs.Involvement.{any_listing}
use Rattle.log_votes.specs.Outcome.{is_commit}
use Rattle.log_votes.specs.Refusal.{any_clash}
use Rattle.log_votes.specs.Row.{vote_of_store}
use Rattle.log_votes.specs.Scan.{any_from}
use Rattle.log_votes.specs.Vote.{vote_commit, vote_kept, vote_list}
use Rattle.log_core.specs.Enter.{enter}
use Rattle.log_core.specs.Log.{involvement_of, row_of, vote_at}
use Rattle.log_laws.specs.Base.{base_involvement_of}
use Rattle.log_laws.specs.Involvement.{AbortLists, ChangedAreAborted, GuessedBefore, InvolvementChangesExactly, SomeCommitKept, WrongGuess}
use Rattle.log_laws.specs.Reached.{reached}
use Rattle.log_laws.specs.Votes.{KeptCommit, Listed}
use Rattle.log_laws.proofs.Accepted.{VoteOk}
use Rattle.log_laws.proofs.ConditionClaims.{clash_by_lists}
use Rattle.log_laws.proofs.Feed.{later}
use Rattle.log_laws.proofs.InvolvementClaims.{abort_lists, by_commit, commit_or_none, commits, committed, involvement_by_votes, listed, lists, without_commit}
use Rattle.log_laws.proofs.KeptVotes.{kept_as}
use Rattle.log_laws.proofs.OutcomeClaims.{abort_iff}
use Rattle.log_laws.proofs.Rows.{kept_cases}
use Rattle.log_laws.proofs.Stays.{Stands, commit_stays, one_list_named, stands_enter, vote_stays}
use Rattle.log_laws.proofs.Steps.{row_cases}
use Rattle.log_laws.proofs.WellFormed.{Wf}
use Rattle.log_entry.proofs.Tests.{either, is_false, opposed}

-- ---- the answer of document 01, by the two scans

module _ (l : Log) (tx store : ℕ) where
  base_by : (a c : Bool) → any_listing store (row_of l tx).votes ≡ a → any_from is_commit 0 (row_of l tx).votes ≡ c
      → base_involvement_of l tx store ≡ cond a Yes (cond c No Unknown)
  unfolding base_involvement_of
  base_by a c is is' = ap₂ (λ (x y : Bool). cond x Yes (cond y No Unknown)) is is'

  base_yes : (s : ℕ) → Listed l tx s store → base_involvement_of l tx store ≡ Yes
  base_yes s t = base_by true _ (listed l tx store s t) refl

-- ---- no other answer changes

module _ (es : List Entry) (tx store : ℕ) (right : WrongGuess (reached es) tx store → ⊥) where
  abbrev l : Log
  l = reached es

  -- a store outside the commit list is in no list
  in_no_list : (s : ℕ) → KeptCommit l tx s → has (vote_list (vote_at l tx s)) store ≡ false → any_listing store (row_of l tx).votes ≡ false
  in_no_list s k out = is_false (any_listing store (row_of l tx).votes) (λ h.
      let t = lists l tx store h in
      right (
        (s, k, out),
        abort_lists l tx store t.0
            (λ c. opposed t.1.1 (ap (λ (list : ℕ). has list store) (one_list_named es tx t.0 s c k) ∙ out)) t.1,
      ))

  same_with_commit : SomeCommitKept l tx → involvement_of l tx store ≡ base_involvement_of l tx store
  same_with_commit c =
      let list = vote_list (vote_at l tx c.0) in
      let answer : (b : Bool) → has list store ≡ b → involvement_of l tx store ≡ cond b Yes No = λ b is. by_commit es tx store c.0 c.1 ∙ ap (λ (x : Bool). cond x Yes No) is in
      ⊎_elim
      (λ (is : has list store ≡ true). answer true is ∙ sym (base_yes l tx store c.0 (c.1.0, is)))
      (λ is. answer false is ∙ sym (base_by l tx store false true (in_no_list c.0 c.1 is) (committed l tx c)))
      (either (has list store))

  same_without : (SomeCommitKept l tx → ⊥) → involvement_of l tx store ≡ base_involvement_of l tx store
  same_without none =
      without_commit l tx store none
      ∙ sym (base_by l tx store (any_listing store (row_of l tx).votes) false refl (is_false (any_from is_commit 0 (row_of l tx).votes) (λ h. none (commits l tx h))))

  same : involvement_of (reached es) tx store ≡ base_involvement_of (reached es) tx store
  same = ⊎_elim same_with_commit same_without (commit_or_none l tx)

pub changes_exactly : InvolvementChangesExactly
changes_exactly es tx store = record {
  was_yes = λ w. base_yes (reached es) tx store w.1.0 (w.1.1.0, w.1.2);
  becomes_no = λ w. (involvement_by_votes es tx store).is_no.1 w.0;
  others_equal = same es tx store;
}

pub changed_aborted : ChangedAreAborted
changed_aborted l tx store w = (abort_iff l tx).1 (w.1.0, w.1.1)

-- ---- the guess comes before the list

-- the vote is a kept abort with the store in its list
abbrev Names : ℕ → Vote → Type 0
Names store v = (vote_kept v ≡ true) × (vote_commit v ≡ false) × (has (vote_list v) store ≡ true)

module _ (tx store s : ℕ) (before : Log) (v : Vote) (commit : vote_commit v ≡ true) (out : has (vote_list v) store ≡ false) where
  -- the commit vote stands, and an abort that lists the store was kept before
  abbrev Guessed : Log → Type 0
  Guessed l = Stands tx s v l × (AbortLists l tx store → AbortLists before tx store)

  -- an abort that is accepted now has its list within that of the commit vote
  not_now : (l : Log) (e : Entry) → VoteOk (row_of l tx) l e → tx ≡ tx_of e → Stands tx s v l → says_commit e ≡ false → has (list_of e) store ≡ true → ⊥
  not_now l e ok is stands abort h =
      let at : vote_at l (tx_of e) s ≡ v = ap (λ (n : ℕ). vote_at l n s) (sym is) ∙ stands.1 in
      let k : KeptCommit l (tx_of e) s = (ap (λ (x : Vote). vote_kept x) at ∙ stands.0, ap (λ (x : Vote). vote_commit x) at ∙ commit) in
      let fits = (clash_by_lists l e).0 (ap (λ (n : ℕ). any_clash e (row_of l n).votes) (sym is) ∙ ok.no_clash) s k in
      opposed (fits.within_list abort store h) (ap (λ (x : Vote). has (vote_list x) store) at ∙ out)

  guessed_enter : (l : Log) (e : Entry) → Wf l → Guessed l → Guessed (enter l e).log
  guessed_enter l e w g = (
    stands_enter tx s v l e w g.0,
    λ t.
        let old : Names store (vote_at l tx t.0) → AbortLists before tx store = λ n. g.1 (t.0, (n.0, n.1), n.2) in
        row_cases (λ (r : Row). Names store (vote_of_store t.0 r) → AbortLists before tx store) l e tx old
        (λ ok is. kept_cases (λ (x : Vote). Names store x → AbortLists before tx store) (row_of l tx) e t.0
        (λ own n. absurd (not_now l e ok is g.0 (sym (kept_as e).commit ∙ n.1) (ap (λ (list : ℕ). has list store) (sym (kept_as e).list) ∙ n.2))) old)
        (t.1.0, t.1.1, t.2),
  )

pub guessed_earlier : GuessedBefore
guessed_earlier es more tx store c w = (
  (c.0, c.1, out),
  (later (Guessed tx store c.0 (reached es) v c.1.1 out) (guessed_enter tx store c.0 (reached es) v c.1.1 out) es more ((c.1.0, refl), λ t. t)).1 w.1,
)
  where
    v : Vote
    v = vote_at (reached es) tx c.0

    stays : vote_at (reached (es ++ more)) tx c.0 ≡ v
    stays = vote_stays es more tx c.0 c.1.0

    out : has (vote_list v) store ≡ false
    out =
        ap (λ (x : Vote). has (vote_list x) store) (sym stays)
        ∙ ap (λ (list : ℕ). has list store) (one_list_named (es ++ more) tx c.0 w.0.0 (commit_stays es more tx c.0 c.1) w.0.1)
        ∙ w.0.2
