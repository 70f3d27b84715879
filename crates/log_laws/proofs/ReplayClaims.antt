-- A store's replay lists the committed transactions with its kept commit vote, each once, by group
-- and then transaction.
use Prim.Native.Nat.{ℕ, ◌+◌, ◌≤◌, ◌<◌}
use mathlib.Core.Path.{◌≡◌, refl, sym, ap, subst, subst₂, ◌∙◌}
use mathlib.Core.Bool.{true}
use mathlib.Core.List.{List}
use mathlib.Core.Logic.{◌≢◌, inl, inr, ⊎_elim}
use native.Mathlib.Omega.{arith}
use lib.Dec.{eqb}
use lib.ListN.{get_or, length, get_or-eq_default}
use borrow.Author.Tests.{eq-eqb, eqb-true}
use Rattle.log_entry.specs.declared.Entry.{Entry}
use Rattle.log_core.proofs.ReplayedRows.{replay_row}
use Rattle.log_core.proofs.ReplayLength.{replay_length}
use Rattle.log_core.specs.declared.Log.{Log}
use Rattle.log_core.specs.declared.Replayed.{Replayed}
use Rattle.log_votes.specs.declared.Row.{Row}
use Rattle.log_core.specs.Log.{group_of, row_of, vote_at, outcome_of}
use Rattle.log_votes.specs.Row.{no_row, replays}
use Rattle.log_votes.specs.Outcome.{is_commit, is_committed}
use Rattle.log_votes.specs.Vote.{vote_update}
use Rattle.log_core.specs.Replay.{group_replay, no_replayed, replay_of, replay_rows}
use Rattle.log_laws.specs.Reached.{reached}
use Rattle.log_laws.specs.Replays.{Before, ReplayListsExactly, ReplayListsOnce, ReplayOrdered, Replays, replayed}
use Rattle.log_laws.proofs.Feed.{wf_reached}
use Rattle.log_laws.proofs.Lists.{In, at_in, in_at, sorted_at}
use Rattle.log_laws.proofs.Outcomes.{commit_from, commit_parts, is_commit_lem}
use Rattle.log_laws.proofs.ReplayRows.{From, from_group, from_sorted, group_has, group_in, replayed_of}
use Rattle.log_laws.proofs.Replicated.{rows_length}
use Rattle.log_entry.proofs.Tests.{and_left, and_right, below_or_not, both, same_number}
use Rattle.log_laws.proofs.WellFormed.{Wf}

module _ (l : Log) (w : Wf l) (store : ℕ) where
  replays_row : (x : Replayed) → In x (replay_rows l store) → Replays l store x
  replays_row x h = record {
    committed = is_commit_lem (outcome_of l x.tx) ((w.row x.tx).in_group (λ z. omega (arith, g, grp, z)));
    kept_commit = commit_parts (vote_at l x.tx store) vote;
    update = ap (λ (t : ℕ). vote_update (vote_at l t store)) tx ∙ sym (ap (λ (y : Replayed). y.update) f.is);
    group = grp;
  }
    where
      g : 1 ≤ x.group
      g = (from_group store l.rows 1 l.groups x h).0

      f : From store x.group 0 l.rows x
      f = (from_group store l.rows 1 l.groups x h).2

      tx : x.tx ≡ f.at
      tx = ap (λ (y : Replayed). y.tx) f.is ∙ omega arith

      passes : replays store x.group (row_of l x.tx) ≡ true
      passes = ap (λ (t : ℕ). replays store x.group (row_of l t)) tx ∙ f.passes

      grp : group_of l x.tx ≡ x.group
      grp = eqb-true (group_of l x.tx) x.group (and_left (eqb (group_of l x.tx) x.group) _ passes)

      vote : is_commit store (vote_at l x.tx store) ≡ true
      vote = and_right (eqb (group_of l x.tx) x.group) _ passes

  row_replayed : (x : Replayed) → Replays l store x → In x (replay_rows l store)
  row_replayed x r =
      group_in store l.rows 1 l.groups x.group x (omega (arith, some)) (omega (arith, w.grouping.group_le x.tx, r.group))
      (subst (λ (y : Replayed). In y (group_replay store x.group 0 l.rows)) same
      (group_has store x.group 0 l.rows x.tx in_rows
      (both (eqb (group_of l x.tx) x.group) _ (eq-eqb (group_of l x.tx) x.group r.group)
      (commit_from (vote_at l x.tx store) r.kept_commit))))
    where
      some : x.group ≢ 0
      some z = (w.row x.tx).has_group (ap is_committed r.committed) (r.group ∙ z)

      in_rows : x.tx < length l.rows
      in_rows =
          ⊎_elim
          (λ (h : x.tx < length l.rows). h)
          (λ h. absurd (some (sym r.group ∙ ap (λ (y : Row). y.group) (get_or-eq_default l.rows no_row {n = x.tx} h))))
          (below_or_not x.tx (length l.rows))

      same : replayed_of store x.group (0 + x.tx) (row_of l x.tx) ≡ x
      same = λ i. record { group = x.group; tx = at i; update = r.update i }
        where
          at : 0 + x.tx ≡ x.tx
          at = omega arith

-- ---- the replay as a value holds these rows

module _ (es : List Entry) (store : ℕ) where
  row_is : (i : ℕ) → i < length (replay_rows (reached es) store) → replayed (reached es) store i ≡ get_or (replay_rows (reached es) store) i no_replayed
  row_is i h = replay_row (reached es) store refl (omega (arith, replay_length (reached es) store, rows_length es)) i h

pub lists_exactly : ReplayListsExactly
unfolding replay_of
lists_exactly es store x = (
  λ h. replays_row (reached es) (wf_reached es) store x
      (subst (λ (y : Replayed). In y (replay_rows (reached es) store)) (sym (row_is es store h.0 h.1) ∙ h.2)
      (at_in no_replayed (replay_rows (reached es) store) h.0 h.1)),
  λ r.
      let at = in_at no_replayed x (replay_rows (reached es) store) (row_replayed (reached es) (wf_reached es) store x r) in
      (at.0, at.1, row_is es store at.0 at.1 ∙ at.2),
)

pub ordered : ReplayOrdered
unfolding replay_of
ordered es store i j h k =
    subst₂ Before (sym (row_is es store i (omega arith))) (sym (row_is es store j k))
    (sorted_at Before no_replayed (replay_rows (reached es) store) (from_sorted store (reached es).rows 1 (reached es).groups) i j h k)

-- of two rows in order the transactions differ
differ : (l : Log) (a b : Replayed) → group_of l a.tx ≡ a.group → group_of l b.tx ≡ b.group → Before a b → a.tx ≡ b.tx → ⊥
differ l a b g h (inl k) e = omega (arith, k, g, h, ap (group_of l) e)
differ l a b g h (inr k) e = omega (arith, k.1, e)

pub lists_once : ReplayListsOnce
lists_once es store i j h k e =
    ⊎_elim (λ (s : i ≡ j). s) (λ (n : i ≡ j → ⊥). absurd (⊎_elim
    (λ (b : i < j). differ l (replayed l store i) (replayed l store j) (group_at i h) (group_at j k) (ordered es store i j b k) e)
    (λ b. differ l (replayed l store j) (replayed l store i) (group_at j k) (group_at i h) (ordered es store j i (omega arith) h) (sym e))
    (below_or_not i j))) (same_number i j)
  where
    l : Log
    l = reached es

    group_at : (m : ℕ) → m < (replay_of l store).count → group_of l (replayed l store m).tx ≡ (replayed l store m).group
    group_at m b = ((lists_exactly es store (replayed l store m)).0 (m, b, refl)).group
