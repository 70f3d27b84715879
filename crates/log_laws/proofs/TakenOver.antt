-- A store that is taken over: the commit votes of its earlier holders are rows of the replay, or
-- their transactions run.
use Rattle.std.proofs.lemmas.Bool.{and_parts, and_from}
use Rattle.log_entry.specs.Entry.{by_of, says_commit}
use Prim.Native.Nat.{ℕ}
use mathlib.Core.Path.{◌≡◌, refl, sym, ap, subst, subst₂, ◌∙◌}
use mathlib.Core.Bool.{true, false}
use mathlib.Core.List.{List, ◌++◌}
use mathlib.Core.Logic.{◌⊎◌, inl, inr}
use native.Mathlib.Omega.{arith}
use Rattle.log_entry.specs.declared.Entry.{Entry}
use Rattle.log_entry.specs.Bits.{has}
use Rattle.log_core.specs.declared.Log.{Log}
use Rattle.log_core.specs.declared.Replayed.{Replayed}
use Rattle.log_votes.specs.declared.Outcome.{Outcome}
use Rattle.log_votes.specs.declared.Outcome.TheVariants.{Open, Commit, Abort}
use Rattle.log_votes.specs.declared.Row.{Row}
use Rattle.log_votes.specs.declared.Vote.{Vote}
use Rattle.log_votes.specs.Outcome.{is_commit, outcome_of_votes, running}
use Rattle.log_votes.specs.Row.{no_row, vote_of_store}
use Rattle.log_votes.specs.Scan.{any_from}
use Rattle.log_votes.specs.Vote.{vote_commit, vote_kept, vote_process, vote_turn, vote_update}
use Rattle.log_votes.proofs.SetLaws.{set_has}
use Rattle.log_core.proofs.EnterLaws.{answer_is}
use Rattle.log_core.specs.Enter.{enter}
use Rattle.log_core.specs.Follow.{awaited_of, awaits}
use Rattle.log_core.specs.Log.{group_of, held_before, holder_of, latest_of, outcome_of, row_of, turn_of, vote_at}
use Rattle.log_core.specs.Replay.{replay_of}
use Rattle.log_laws.specs.Conditions.{Took}
use Rattle.log_laws.specs.Reached.{reached}
use Rattle.log_laws.specs.Replays.{InReplay, Replays, replayed}
use Rattle.log_laws.specs.TakenOver.{AwaitedExactly, LostStoreVotesNoMore, ReplayedOrAwaited, RowIn, RowStaysCommitted}
use Rattle.log_laws.specs.Votes.{Kept, KeptCommit}
use Rattle.log_laws.proofs.Accepted.{VoteOk, voter_holds, voter_turn}
use Rattle.log_laws.proofs.ConditionClaims.{ill_formed_by_values}
use Rattle.log_laws.proofs.Feed.{later}
use Rattle.log_laws.proofs.Holding.{HadIn, LostIn, had_enter, held_by, lost_enter, taker_held}
use Rattle.log_laws.proofs.KeptVotes.{kept_as}
use Rattle.log_laws.proofs.OutcomeClaims.{running_by_votes}
use Rattle.log_laws.proofs.Outcomes.{commit_from, commit_parts}
use Rattle.log_laws.proofs.ReplayClaims.{lists_exactly}
use Rattle.log_laws.proofs.Rows.{kept_cases}
use Rattle.log_laws.proofs.Stays.{outcome_stays, row_stays}
use Rattle.log_laws.proofs.Steps.{row_cases}
use Rattle.log_laws.proofs.TakenBefore.{took_since}
use Rattle.log_laws.proofs.WellFormed.{Wf}

-- ---- the transactions that are listed

nobody_awaits : (store : ℕ) → awaits store no_row ≡ false
unfolding running any_from
nobody_awaits store = refl

pub awaited_exactly : AwaitedExactly
unfolding awaited_of
awaited_exactly l tx store = (
  λ h.
      let a = sym is ∙ h in
      let k = and_parts (running (row_of l tx)) (is_commit store v) a in
      (k.0, commit_parts v k.1),
  λ h. is ∙ and_from (running (row_of l tx)) (is_commit store v) h.0 (commit_from v h.1),
)
  where
    v : Vote
    v = vote_at l tx store

    is : has (awaited_of l store) tx ≡ awaits store (row_of l tx)
    is = set_has (awaits store) l.rows no_row (nobody_awaits store) tx

-- ---- who lost the store votes no more

-- the process lost the store in this turn, and a commit vote of the store on tx that it cast then,
-- if any is kept, was kept in the log before
abbrev CastsNoMore : Log → ℕ → ℕ → ℕ → ℕ → Log → Type 0
CastsNoMore before p t s tx l = LostIn p t s l × (KeptCommit l tx s → vote_process (vote_at l tx s) ≡ p → vote_turn (vote_at l tx s) ≡ t → Kept before tx s)

casts_no_more : (before : Log) (p t s tx : ℕ) (l : Log) (e : Entry) → Wf l → CastsNoMore before p t s tx l → CastsNoMore before p t s tx (enter l e).log
casts_no_more before p t s tx l e w h = (
  lost_enter l e p t s w.sized h.0,
  row_cases (λ (r : Row). Old (vote_of_store s r)) l e tx h.1
      (λ ok k. kept_cases Old (row_of l tx) e s
      (λ m c q i. let own = at_by ok m (sym (kept_as e).commit ∙ c.1) in
      absurd (h.0.1 (
        ap (holder_of l) own ∙ voter_holds (row_of l tx) l e ok ∙ sym (kept_as e).process ∙ q,
        ap (turn_of l) own ∙ voter_turn (row_of l tx) l e ok ∙ sym (kept_as e).turn ∙ i,
      )))
      h.1),
)
  where
    Old : Vote → Type 0
    Old v = (vote_kept v ≡ true) × (vote_commit v ≡ true) → vote_process v ≡ p → vote_turn v ≡ t → Kept before tx s

    -- a commit vote is the store's own
    at_by : VoteOk (row_of l tx) l e → s ≡ e.store → says_commit e ≡ true → s ≡ by_of e
    at_by ok m c = m ∙ sym (((ill_formed_by_values e).0 ok.well_formed).commit_own c)

-- who took the store in a turn had it in that turn
had : (es : List Entry) (p t s : ℕ) → Took es p t s → HadIn p t s (reached es)
had es p t s k =
    took_since (HadIn p t s) es p t s k
    (λ l e w h.
    let ok = sym (answer_is l e) ∙ h.is_accepted in (
      subst₂ (λ (q r : ℕ). held_before (enter l e).log q r ≡ true) h.taker h.taken (taker_held l e w.sized h.is_take ok),
      omega (arith, (held_by l e w.sized h.is_take ok).latest, ap (latest_of (enter l e).log) h.taker, h.in_turn),
    ))
    (λ l e w h. had_enter l e p t s w.sized h)

pub votes_no_more : LostStoreVotesNoMore
votes_no_more es more tx s p t k lost c q i =
    (later (CastsNoMore (reached es) p t s tx) (casts_no_more (reached es) p t s tx) es more
    ((had es p t s k, lost), (λ k _ _. k.0))).1 c q i

-- ---- a vote that was kept by then

open_runs : (l : Log) (tx s : ℕ) → KeptCommit l tx s → outcome_of l tx ≡ Open → has (awaited_of l s) tx ≡ true
open_runs l tx s k o = (awaited_exactly l tx s).1 ((running_by_votes l tx).1 ((s, k.0), o), k)

pub replayed_or_awaited : ReplayedOrAwaited
replayed_or_awaited es more tx s k c = go (outcome_of l tx) refl
  where
    l : Log
    l = reached es

    row : Replayed
    row = record { group = group_of l tx; tx = tx; update = vote_update (vote_at l tx s) }

    go : (o : Outcome) → outcome_of l tx ≡ o → RowIn (replay_of l s) tx (vote_update (vote_at l tx s)) ⊎ (has (awaited_of l s) tx ≡ true)
    go Open h = inr (open_runs l tx s k h)
    go Commit h = inl (at ((lists_exactly es s row).1 (record { committed = h; kept_commit = k; update = refl; group = refl })))
      where
        at : InReplay l s row → RowIn (replay_of l s) tx (vote_update (vote_at l tx s))
        at r = (r.0, r.1, ap (λ (x : Replayed). x.tx) r.2, ap (λ (x : Replayed). x.update) r.2)
    go Abort h = absurd (let e : Abort ≡ Commit = sym h ∙ sym (outcome_stays es more tx (λ o. aborts (sym h ∙ o))) ∙ c in aborts' e)
      where
        aborts : Abort ≡ Open → ⊥
        aborts e = let z : ◌≡◌ {A = ℕ} 0 1 = cc in omega arith

        aborts' : Abort ≡ Commit → ⊥
        aborts' e = let z : ◌≡◌ {A = ℕ} 0 1 = cc in omega arith

pub row_stays_committed : RowStaysCommitted
row_stays_committed es more tx s u h = record {
  committed = ap (λ (r : Row). outcome_of_votes r.votes) same ∙ there;
  kept_commit = subst (λ (r : Row). (vote_kept (vote_of_store s r) ≡ true) × (vote_commit (vote_of_store s r) ≡ true)) (sym same) kept;
  is = ap (λ (r : Row). vote_update (vote_of_store s r)) same ∙ update;
}
  where
    l : Log
    l = reached es

    row : Replays l s (replayed l s h.0)
    row = (lists_exactly es s (replayed l s h.0)).0 (h.0, h.1, refl)

    there : outcome_of l tx ≡ Commit
    there = ap (outcome_of l) (sym h.2) ∙ row.committed

    kept : KeptCommit l tx s
    kept = subst (λ (t : ℕ). KeptCommit l t s) h.2 row.kept_commit

    update : vote_update (vote_at l tx s) ≡ u
    update = ap (λ (t : ℕ). vote_update (vote_at l t s)) (sym h.2) ∙ row.update ∙ h.3

    same : row_of (reached (es ++ more)) tx ≡ row_of l tx
    same = row_stays es more tx there
