-- An entry is decided on the few parts of the log that it concerns: what it is answered, and what
-- it changes.
use Rattle.log_entry.specs.Entry.{by_of, is_take, tx_of}
use Rattle.std.specs.Prelude.{ℕ, Bool, ◌&&◌, not, cond, ◌∷◌, get_or, is_ok}
use Rattle.log_entry.specs.declared.Entry.{Entry}
use Rattle.log_entry.specs.Bits.{has}
use Rattle.log_entry.specs.Entry.{outside}
use Rattle.log_entry.specs.Number.{Answer}
use Rattle.log_entry.specs.Refusal.{check, first_refusal, outside_limits}
use Rattle.log_votes.specs.Outcome.{is_committed, is_open, outcome_of_votes, tally_of}
use Rattle.log_votes.specs.Refusal.{any_clash, vote_checks}
use Rattle.log_votes.specs.Row.{keeping}
use Rattle.log_core.specs.declared.Effect.{Effect}
use Rattle.log_core.specs.declared.Log.{Log}
use Rattle.log_core.specs.declared.Parts.{Parts}
use Rattle.log_core.specs.declared.VoteParts.{VoteParts}
use Rattle.log_core.specs.Group.{next_group, remembered}
use Rattle.log_core.specs.Log.{latest_of, row_of}
use Rattle.log_core.specs.Refusal.{take_checks}

-- the parts of the log that an entry is decided on
abbrev pub parts_of : Log → Entry → Parts
parts_of l e = record {
  row = row_of l (tx_of e);
  holders = l.holders;
  turns = l.turns;
  takers = get_or l.takers e.store 0;
  latest = latest_of l e.process;
  groups = l.groups;
  remembered = remembered l l.groups;
  stores = l.stores;
}

-- the answer to an entry: 2, then 11 and 12 of a take, and 7 to 10 and 12 of a vote
unfoldable pub refusal : Parts → Entry → Answer
refusal p e =
    first_refusal
    (check outside_limits (outside p.stores e)
    ∷ cond (is_take e)
    (take_checks p.holders p.takers p.latest e)
    (vote_checks p.row (get_or p.holders (by_of e) 0) (get_or p.turns (by_of e) 0) e))

-- what of the parts a vote is decided on
abbrev pub vote_parts_of : Parts → Entry → VoteParts
vote_parts_of p e = record {
  tally = tally_of p.row.votes;
  clash = any_clash e p.row.votes;
  group = p.row.group;
  holder = get_or p.holders (by_of e) 0;
  turn = get_or p.turns (by_of e) 0;
  groups = p.groups;
  remembered = p.remembered;
}

-- "An accepted vote is kept for good."
abbrev pub keeps : Parts → Entry → Bool
keeps p e = is_ok (refusal p e) && not (is_take e)

-- the outcome is commit with the vote
abbrev pub commits : Parts → Entry → Bool
commits p e = is_committed (outcome_of_votes (keeping p.row e).votes)

-- the outcome is open with the vote: the transaction runs
abbrev pub runs_on : Parts → Entry → Bool
runs_on p e = is_open (outcome_of_votes (keeping p.row e).votes)

-- "the transaction was running when the last group was begun"
abbrev pub joins : Parts → Entry → Bool
joins p e = has p.remembered (tx_of e)

-- "At a commit: .. it joins that group; else it begins a new group, numbered from 1."
abbrev pub group_after : Parts → Entry → ℕ
group_after p e = cond (commits p e) (cond (joins p e) p.groups (next_group p.groups)) p.row.group

unfoldable pub effect_of : Parts → Entry → Effect
effect_of p e = record {
  answer = refusal p e;
  group = cond (keeps p e) (group_after p e) p.row.group;
  begins = keeps p e && commits p e && not (joins p e);
  runs = keeps p e && runs_on p e;
}
