-- "At a commit: if the transaction was running when the last group was begun, it joins that group;
-- else it begins a new group, numbered from 1. For every group, the transactions running just
-- before its first commit are remembered."
use Rattle.std.specs.Prelude.{ℕ, ◌+◌, ◌-◌, min, cond, List, eqb, get_or}
use Rattle.log_entry.specs.Limits.{transactions}
use Rattle.log_votes.specs.declared.Row.{Row}
use Rattle.log_votes.specs.Outcome.{running}
use Rattle.log_votes.specs.Scan.{set_of}
use Rattle.log_core.specs.declared.Log.{Log}

-- the set of the transactions that run, the first row being transaction 0
abbrev pub running_set : List Row → ℕ
running_set rows = set_of running rows

-- what group g remembers; groups are numbered from 1
unfoldable pub remembered : Log → ℕ → ℕ
remembered l g = cond (eqb g 0) 0 (get_or l.remembered (g - 1) 0)

-- the number of a new group. In every reachable log groups < 32 here, so the cap never applies.
abbrev pub next_group : ℕ → ℕ
next_group groups = min (groups + 1) transactions
