-- What is kept of a vote says all that the vote said.
use mathlib.Core.Bool.{true}
use mathlib.Core.Path.{◌≡◌, sym, ◌∙◌}
use Rattle.log_entry.specs.declared.Entry.{Entry}
use Rattle.log_entry.specs.Entry.{says_commit}
use Rattle.log_votes.specs.Outcome.{is_commit_vote}
use Rattle.log_votes.specs.Row.{vote_of_entry}
use Rattle.log_votes.proofs.VoteLaws.{of_by, of_commit, of_commit_vote, of_kept, of_list, of_process, of_turn, of_update}
use Rattle.log_laws.specs.Votes.{KeptAs}

pub kept_as : (e : Entry) → KeptAs (vote_of_entry e) e
kept_as e = record {
  kept = of_kept e;
  commit = of_commit e;
  list = of_list e;
  process = of_process e;
  turn = of_turn e;
  by = of_by e;
  update = of_update e;
}

-- what is kept is a commit vote only if the vote says commit
pub kept_says : (e : Entry) → is_commit_vote (vote_of_entry e) ≡ true → says_commit e ≡ true
kept_says e h = sym (of_commit_vote e) ∙ h
