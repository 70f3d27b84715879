-- What a vote says that is kept of an entry.
use mathlib.Core.Bool.{Bool, false, true}
use mathlib.Core.Path.{◌≡◌, refl}
use Rattle.log_entry.specs.declared.Entry.{Entry}
use Rattle.log_entry.specs.Entry.{by_of, list_of, says_commit, update_in}
use Rattle.log_votes.specs.declared.Vote.{Vote}
use Rattle.log_votes.specs.Outcome.{is_commit_vote}
use Rattle.log_votes.specs.Row.{kept_vote, vote_of_entry}
use Rattle.log_votes.specs.Vote.{vote_by, vote_commit, vote_kept, vote_list, vote_process, vote_turn, vote_update}

module _ (e : Entry) where
  abbrev saying : Bool → Vote
  saying commit = kept_vote commit (list_of e) e.process e.turn (by_of e) (update_in e)

  pub of_kept : vote_kept (vote_of_entry e) ≡ true
  of_kept = elim (says_commit e) as (λ c. vote_kept (saying c) ≡ true) [ true ↦ refl | false ↦ refl ]

  pub of_commit : vote_commit (vote_of_entry e) ≡ says_commit e
  of_commit = elim (says_commit e) as (λ c. vote_commit (saying c) ≡ c) [ true ↦ refl | false ↦ refl ]

  pub of_commit_vote : is_commit_vote (vote_of_entry e) ≡ says_commit e
  of_commit_vote = elim (says_commit e) as (λ c. is_commit_vote (saying c) ≡ c) [ true ↦ refl | false ↦ refl ]

  pub of_list : vote_list (vote_of_entry e) ≡ list_of e
  of_list = elim (says_commit e) as (λ c. vote_list (saying c) ≡ list_of e) [ true ↦ refl | false ↦ refl ]

  pub of_process : vote_process (vote_of_entry e) ≡ e.process
  of_process = elim (says_commit e) as (λ c. vote_process (saying c) ≡ e.process) [ true ↦ refl | false ↦ refl ]

  pub of_turn : vote_turn (vote_of_entry e) ≡ e.turn
  of_turn = elim (says_commit e) as (λ c. vote_turn (saying c) ≡ e.turn) [ true ↦ refl | false ↦ refl ]

  pub of_by : vote_by (vote_of_entry e) ≡ by_of e
  of_by = elim (says_commit e) as (λ c. vote_by (saying c) ≡ by_of e) [ true ↦ refl | false ↦ refl ]

  pub of_update : vote_update (vote_of_entry e) ≡ update_in e
  of_update = elim (says_commit e) as (λ c. vote_update (saying c) ≡ update_in e) [ true ↦ refl | false ↦ refl ]
