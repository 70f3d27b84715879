-- What an accepted entry leaves as it was.
use Prim.Native.Nat.{ℕ}
use mathlib.Core.Path.{◌≡◌, refl, ap, ◌∙◌}
use mathlib.Core.List.{List}
use mathlib.Core.Logic.{◌≢◌}
use lib.ListN.{get_or}
use lib.Seq.{get_or-set_other}
use Rattle.log_entry.specs.declared.Entry.{Entry}
use Rattle.log_entry.specs.Bits.{has}
use Rattle.log_entry.specs.Entry.{tx_of}
use Rattle.log_votes.specs.declared.Row.{Row}
use Rattle.log_votes.specs.Row.{no_row, no_vote, vote_of_store}
use Rattle.log_core.specs.declared.Log.{Log}
use Rattle.log_core.specs.Log.{row_of}
use Rattle.log_laws.specs.Changes.{OnlyHolderChanges, OnlyVoteChanges, TakeChangesOnly, VoteChangesOnly}
use Rattle.log_laws.specs.Reached.{reached}
use Rattle.log_laws.proofs.Places.{set_either}
use Rattle.log_laws.proofs.Steps.{Holders, answer_cases, holders_of, row_with, voted, voted_holders, voted_limit, voted_rows}
use Rattle.log_entry.proofs.Tests.{opposed}

pub only_holder : TakeChangesOnly
only_holder es e t =
    answer_cases (λ (m : Log). OnlyHolderChanges l m e.process e.store) l e
    (record {
      rows = refl;
      groups = refl;
      remembered = refl;
      limit = refl;
      other_holders = λ s n. refl;
      other_turns = λ s n. refl;
      other_past = λ p s n. refl;
      other_latest = λ p n. refl;
    })
    (λ ok k. record {
      rows = refl;
      groups = refl;
      remembered = refl;
      limit = refl;
      other_holders = λ s n. get_or-set_other l.holders e.store s e.process 0 n;
      other_turns = λ s n. get_or-set_other l.turns e.store s e.turn 0 n;
      other_past = λ p s n. ap (λ (x : ℕ). has x p) (get_or-set_other l.takers e.store s _ 0 n);
      other_latest = λ p n. get_or-set_other l.latest e.process p e.turn 0 n;
    })
    (λ ok k. absurd (opposed t k))
  where
    l : Log
    l = reached es

module _ (l : Log) (e : Entry) where
  r : Row
  r = row_with l e

  -- another row is as it was
  other_row : (t : ℕ) → t ≢ tx_of e → row_of (voted l (tx_of e) r) t ≡ row_of l t
  unfolding r
  other_row t n =
      ap (λ (rows : List Row). get_or rows t no_row) (voted_rows l (tx_of e) r)
      ∙ get_or-set_other l.rows (tx_of e) t _ no_row n

  -- and so is another store's vote
  other_vote : (s : ℕ) → s ≢ e.store → vote_of_store s (row_of (voted l (tx_of e) r) (tx_of e)) ≡ vote_of_store s (row_of l (tx_of e))
  unfolding r
  other_vote s n =
      ap (λ (rows : List Row). vote_of_store s (get_or rows (tx_of e) no_row)) (voted_rows l (tx_of e) r)
      ∙ set_either (λ (x : Row). vote_of_store s x ≡ vote_of_store s (row_of l (tx_of e))) l.rows (tx_of e) (tx_of e) _ no_row
      (λ k. get_or-set_other (row_of l (tx_of e)).votes e.store s _ no_vote n)
      refl

pub only_vote : VoteChangesOnly
unfolding r
only_vote es e t =
    answer_cases (λ (m : Log). OnlyVoteChanges l m (tx_of e) e.store) l e
    (record {
      holders = refl;
      turns = refl;
      takers = refl;
      latest = refl;
      limit = refl;
      other_stores = λ s n. refl;
      other_votes = λ t s n. refl;
      other_groups = λ t n. refl;
    })
    (λ ok k. absurd (opposed k t))
    (λ ok k. record {
      holders = ap (λ (x : Holders). x.holders) same;
      turns = ap (λ (x : Holders). x.turns) same;
      takers = ap (λ (x : Holders). x.takers) same;
      latest = ap (λ (x : Holders). x.latest) same;
      limit = voted_limit l (tx_of e) (row_with l e);
      other_stores = λ s n. other_vote l e s n;
      other_votes = λ t s n. ap (λ (x : Row). vote_of_store s x) (other_row l e t n);
      other_groups = λ t n. ap (λ (x : Row). x.group) (other_row l e t n);
    })
  where
    l : Log
    l = reached es

    same : holders_of (voted l (tx_of e) (row_with l e)) ≡ holders_of l
    same = voted_holders l (tx_of e) (row_with l e)
