-- Involvement, by the kept votes.
use Prim.Native.Nat.{ℕ}
use mathlib.Core.Path.{◌≡◌, refl, sym, ap, ap₂, ◌∙◌}
use mathlib.Core.Bool.{Bool, true, false, cond, true≢false, false≢true}
use mathlib.Core.List.{List, ◌++◌}
use mathlib.Core.Logic.{◌⊎◌, ◌≢◌, inl, inr, ⊎_elim}
use Rattle.std.proofs.lemmas.Bool.{and_parts, and_from}
use Rattle.log_entry.specs.declared.Entry.{Entry}
use Rattle.log_entry.specs.Bits.{has}
use Rattle.log_votes.specs.declared.Involvement.{Involvement}
use Rattle.log_votes.specs.declared.Involvement.TheVariants.{No, Unknown, Yes}
use Rattle.log_votes.specs.declared.Vote.{Vote}
use Rattle.log_core.specs.declared.Log.{Log}
use Rattle.log_votes.specs.Involvement.{any_listing, commit_vote, involvement_of_votes, is_listing}
use Rattle.log_votes.specs.Outcome.{is_commit, is_commit_vote}
use Rattle.log_votes.specs.Row.{no_vote}
use Rattle.log_votes.specs.Scan.{any_from}
use Rattle.log_votes.specs.Vote.{vote_commit, vote_kept, vote_list}
use Rattle.log_core.specs.Log.{involvement_of, row_of, vote_at}
use Rattle.log_laws.specs.Involvement.{AbortLists, InvolvementExactly, InvolvementStays, Involved, SomeCommitKept}
use Rattle.log_laws.specs.Reached.{reached}
use Rattle.log_laws.specs.Votes.{KeptCommit, Listed}
use Rattle.log_laws.proofs.Outcomes.{commit_from, commit_parts, kept_in}
use Rattle.log_laws.proofs.Scans.{any_here, first_missing, first_passes, found}
use Rattle.log_laws.proofs.Stays.{commit_stays, one_list_named, vote_stays}
use Rattle.log_entry.proofs.Tests.{either, is_false, opposed}

-- ---- the scans, by the kept votes

module _ (l : Log) (tx : ℕ) where
  pub lists : (store : ℕ) → any_listing store (row_of l tx).votes ≡ true → (s : ℕ) × Listed l tx s store
  lists store h =
      let r = found (is_listing store) no_vote (row_of l tx).votes h in
      let v = vote_at l tx r.0 in
      (r.0, and_parts (vote_kept v) (has (vote_list v) store) r.2)

  pub listed : (store s : ℕ) → Listed l tx s store → any_listing store (row_of l tx).votes ≡ true
  listed store s t =
      let v = vote_at l tx s in
      any_here (is_listing store) no_vote (row_of l tx).votes s (kept_in (row_of l tx).votes s t.0) (and_from (vote_kept v) (has (vote_list v) store) t.0 t.1)

  pub commits : any_from is_commit 0 (row_of l tx).votes ≡ true → SomeCommitKept l tx
  commits h = let r = found is_commit no_vote (row_of l tx).votes h in (r.0, commit_parts (vote_at l tx r.0) r.2)

  pub committed : SomeCommitKept l tx → any_from is_commit 0 (row_of l tx).votes ≡ true
  committed t =
      let v = vote_at l tx t.0 in
      any_here is_commit no_vote (row_of l tx).votes t.0 (kept_in (row_of l tx).votes t.0 t.1.0) (commit_from v t.1)

  pub commit_or_none : SomeCommitKept l tx ⊎ (SomeCommitKept l tx → ⊥)
  commit_or_none = ⊎_elim (λ h. inl (commits h)) (λ h. inr (λ t. opposed (committed t) h)) (either (any_from is_commit 0 (row_of l tx).votes))

  -- a kept vote that is no commit is an abort
  pub abort_lists : (store s : ℕ) → (KeptCommit l tx s → ⊥) → Listed l tx s store → AbortLists l tx store
  abort_lists store s none t = (s, (t.0, is_false (vote_commit (vote_at l tx s)) (λ c. none (t.0, c))), t.1)

  -- ---- the answer, by the commit vote

  by_vote : ℕ → Bool → ℕ → Involvement
  by_vote store kept list = cond kept (cond (has list store) Yes No) (cond (any_listing store (row_of l tx).votes) Yes Unknown)

  by_first : (store : ℕ) (v : Vote) → commit_vote (row_of l tx).votes ≡ v → involvement_of l tx store ≡ by_vote store (vote_kept v) (vote_list v)
  unfolding involvement_of_votes by_vote
  by_first store v is = ap (λ (x : Vote). by_vote store (vote_kept x) (vote_list x)) is

  pub without_commit : (store : ℕ) → (SomeCommitKept l tx → ⊥) → involvement_of l tx store ≡ cond (any_listing store (row_of l tx).votes) Yes Unknown
  unfolding by_vote
  without_commit store none = by_first store no_vote (first_missing is_commit_vote no_vote (row_of l tx).votes (λ s b h. none (s, commit_parts (vote_at l tx s) h)))

-- each kept commit vote decides, since all have one list
pub by_commit : (es : List Entry) (tx store s : ℕ) → KeptCommit (reached es) tx s
    → involvement_of (reached es) tx store ≡ cond (has (vote_list (vote_at (reached es) tx s)) store) Yes No
unfolding by_vote
by_commit es tx store s k =
    let l = reached es in
    let votes = (row_of l tx).votes in
    let v = vote_at l tx s in
    let first = first_passes is_commit_vote no_vote votes s (kept_in votes s k.0) (commit_from v k) in
    let c : KeptCommit l tx first.0 = commit_parts (vote_at l tx first.0) first.2 in
    by_first l tx store (vote_at l tx first.0) first.1 ∙ ap₂ (by_vote l tx store) c.0 (one_list_named es tx first.0 s c k)

-- ---- which of the three

abbrev is_yes_lem : Involvement → Bool
is_yes_lem No = false
is_yes_lem Yes = true
is_yes_lem Unknown = false

abbrev is_no_lem : Involvement → Bool
is_no_lem No = true
is_no_lem Yes = false
is_no_lem Unknown = false

yes_by : (b : Bool) (other : Involvement) → is_yes_lem other ≡ false → cond b Yes other ≡ Yes → b ≡ true
yes_by true other n e = refl
yes_by false other n e = absurd (opposed (ap is_yes_lem e) n)

other_by : (b : Bool) (other : Involvement) → is_yes_lem other ≡ false → cond b Yes other ≡ other → b ≡ false
other_by true other n e = absurd (opposed (ap is_yes_lem (sym e)) n)
other_by false other n e = refl

never : (b : Bool) (other third : Involvement) → is_yes_lem third ≡ false → is_no_lem other ≢ is_no_lem third → cond b Yes other ≡ third → ⊥
never true other third n d e = opposed (ap is_yes_lem (sym e)) n
never false other third n d e = d (ap is_no_lem e)

-- ---- the claims

module _ (es : List Entry) (tx store : ℕ) where
  with_commit : SomeCommitKept (reached es) tx → Involved (reached es) tx store
  with_commit c = record {
    by_list = by_commit es tx store;
    is_yes = (
      λ e. inl (c.0, c.1, yes_by (has list store) No refl (sym answer ∙ e)),
      ⊎_elim (λ t. by_commit es tx store t.0 t.1 ∙ ap (λ (b : Bool). cond b Yes No) t.2) (λ t. absurd (t.0 c)),
    );
    is_no = (
      λ e. (c.0, c.1, other_by (has list store) No refl (sym answer ∙ e)),
      λ t. by_commit es tx store t.0 t.1 ∙ ap (λ (b : Bool). cond b Yes No) t.2,
    );
    is_unknown = (λ e. absurd (never (has list store) No Unknown refl true≢false (sym answer ∙ e)), λ t. absurd (t.0 c));
  }
    where
      list : ℕ
      list = vote_list (vote_at (reached es) tx c.0)

      answer : involvement_of (reached es) tx store ≡ cond (has list store) Yes No
      answer = by_commit es tx store c.0 c.1

  with_none : (SomeCommitKept (reached es) tx → ⊥) → Involved (reached es) tx store
  with_none none = record {
    by_list = λ s k. absurd (none (s, k));
    is_yes = (
      λ e. inr (none, an_abort (yes_by any Unknown refl (sym answer ∙ e))),
      ⊎_elim (λ t. absurd (none (t.0, t.1))) (λ t. answer ∙ ap (λ (b : Bool). cond b Yes Unknown) (by_abort t.1)),
    );
    is_no = (λ e. absurd (never any Unknown No refl false≢true (sym answer ∙ e)), λ t. absurd (none (t.0, t.1)));
    is_unknown = (
      λ e. (none, λ t. opposed (by_abort t) (other_by any Unknown refl (sym answer ∙ e))),
      λ t. answer ∙ ap (λ (b : Bool). cond b Yes Unknown) (is_false any (λ h. t.1 (an_abort h))),
    );
  }
    where
      l : Log
      l = reached es

      any : Bool
      any = any_listing store (row_of l tx).votes

      answer : involvement_of l tx store ≡ cond any Yes Unknown
      answer = without_commit l tx store none

      by_abort : AbortLists l tx store → any ≡ true
      by_abort t = listed l tx store t.0 (t.1.0, t.2)

      an_abort : any ≡ true → AbortLists l tx store
      an_abort h = let t = lists l tx store h in abort_lists l tx store t.0 (λ k. none (t.0, k)) t.1

pub involvement_by_votes : InvolvementExactly
involvement_by_votes es tx store = ⊎_elim (with_commit es tx store) (with_none es tx store) (commit_or_none (reached es) tx)

pub answer_stays : InvolvementStays
answer_stays es more tx store c =
    by_commit (es ++ more) tx store c.0 (commit_stays es more tx c.0 c.1)
    ∙ ap (λ (v : Vote). cond (has (vote_list v) store) Yes No) (vote_stays es more tx c.0 c.1.0)
    ∙ sym (by_commit es tx store c.0 c.1)
