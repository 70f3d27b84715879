-- The arrays of a log keep their lengths.
use Prim.Native.Nat.{ℕ, ◌<◌}
use mathlib.Core.Path.{◌≡◌, refl, ap, ◌∙◌}
use mathlib.Core.List.{List}
use lib.ListN.{get_or-replicate, length, length-set, replicate}
use Rattle.log_entry.specs.declared.Entry.{Entry}
use Rattle.log_entry.specs.Entry.{tx_of}
use Rattle.log_entry.specs.Limits.{process_places, stores, transactions}
use Rattle.log_core.specs.declared.Log.{Log}
use Rattle.log_votes.specs.declared.Row.{Row}
use Rattle.log_core.specs.Enter.{enter}
use Rattle.log_core.specs.Log.{empty_log, opened, row_of}
use Rattle.log_votes.specs.Row.{no_row, no_vote, vote_of_entry}
use Rattle.log_laws.proofs.Rows.{committed}
use Rattle.log_laws.proofs.Steps.{Holders, enter_cases, holder_cases, joins, row_cases, row_with, voted_remembered, voted_rows}
use Rattle.log_entry.proofs.Tests.{by_test}

pub record Sized (l : Log) : Type 0 where
  pub rows_size : length l.rows ≡ transactions
  pub votes_size : (tx : ℕ) → tx < transactions → length (row_of l tx).votes ≡ stores
  pub holders_size : length l.holders ≡ stores
  pub turns_size : length l.turns ≡ stores
  pub takers_size : length l.takers ≡ stores
  pub latest_size : length l.latest ≡ process_places
  pub remembered_size : length l.remembered ≡ transactions

pub sized_empty : Sized empty_log
unfolding opened
sized_empty = record {
  rows_size = refl;
  votes_size = λ tx h. ap (λ (r : Row). length r.votes) (get_or-replicate transactions tx (record { votes = replicate stores no_vote; group = 0 }) no_row h);
  holders_size = refl;
  turns_size = refl;
  takers_size = refl;
  latest_size = refl;
  remembered_size = refl;
}

pub sized_enter : (l : Log) (e : Entry) → Sized l → Sized (enter l e).log
sized_enter l e w = record {
  rows_size =
      enter_cases (λ (x : Log). length x.rows ≡ transactions) l e w.rows_size (λ ok. w.rows_size)
      (λ ok. ap length (voted_rows l (tx_of e) after) ∙ length-set l.rows (tx_of e) _ ∙ w.rows_size);
  votes_size = λ tx h.
      row_cases (λ (r : Row). length r.votes ≡ stores) l e tx (w.votes_size tx h)
      (λ ok k. length-set (row_of l tx).votes e.store (vote_of_entry e) ∙ w.votes_size tx h);
  holders_size =
      holder_cases (λ (x : Holders). length x.holders ≡ stores) l e w.holders_size
      (λ ok. length-set l.holders e.store _ ∙ w.holders_size);
  turns_size =
      holder_cases (λ (x : Holders). length x.turns ≡ stores) l e w.turns_size
      (λ ok. length-set l.turns e.store _ ∙ w.turns_size);
  takers_size =
      holder_cases (λ (x : Holders). length x.takers ≡ stores) l e w.takers_size
      (λ ok. length-set l.takers e.store _ ∙ w.takers_size);
  latest_size =
      holder_cases (λ (x : Holders). length x.latest ≡ process_places) l e w.latest_size
      (λ ok. length-set l.latest e.process _ ∙ w.latest_size);
  remembered_size =
      enter_cases (λ (x : Log). length x.remembered ≡ transactions) l e w.remembered_size (λ ok. w.remembered_size)
      (λ ok. ap length (voted_remembered l (tx_of e) after)
      ∙ by_test (λ (xs : List ℕ). length xs ≡ transactions) (committed after) _ _
      (λ c. by_test (λ (xs : List ℕ). length xs ≡ transactions) (joins l (tx_of e) after) _ _ (λ j. w.remembered_size)
      (λ j. length-set l.remembered _ _ ∙ w.remembered_size))
      (λ c. w.remembered_size));
}
  where
    after : Row
    after = row_with l e
