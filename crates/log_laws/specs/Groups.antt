-- The claims on groups: "At a commit: if the transaction was running when the last group was begun,
-- it joins that group; else it begins a new group, numbered from 1. For every group, the
-- transactions running just before its first commit are remembered."
use Rattle.std.specs.Prelude.{ℕ, ◌+◌, ◌≤◌, ◌≡◌, Bool, false, cond, List, [], ◌∷◌, ◌++◌, ◌↔◌, ◌≢◌, ◌⊎◌}
use Rattle.log_entry.specs.declared.Entry.{Entry}
use Rattle.log_entry.specs.Bits.{has}
use Rattle.log_entry.specs.Entry.{is_take, tx_of}
use Rattle.log_entry.specs.Limits.{transactions}
use Rattle.log_entry.specs.Refusal.{accepted}
use Rattle.log_core.specs.declared.Log.{Log}
use Rattle.log_votes.specs.declared.Outcome.TheVariants.{Commit}
use Rattle.log_core.specs.Enter.{enter}
use Rattle.log_core.specs.Group.{remembered}
use Rattle.log_core.specs.Log.{group_of, row_of, outcome_of}
use Rattle.log_votes.specs.Outcome.{running}
use Rattle.log_laws.specs.Reached.{reached}

-- a transaction has a group exactly if it is committed
abbrev pub GroupIffCommitted : Type 0
GroupIffCommitted = (es : List Entry) (tx : ℕ) → (group_of (reached es) tx ≢ 0) ↔ (outcome_of (reached es) tx ≡ Commit)

-- groups are numbered from 1 without gaps, and there are no more of them than transactions
pub record NoGaps (l : Log) : Type 0 where
  pub group_le : (tx : ℕ) → group_of l tx ≤ l.groups
  pub group_of : (g : ℕ) → 1 ≤ g → g ≤ l.groups → (tx : ℕ) × (group_of l tx ≡ g)
  pub groups_le : l.groups ≤ transactions

abbrev pub GroupsWithoutGaps : Type 0
GroupsWithoutGaps = (es : List Entry) → NoGaps (reached es)

-- the entry is a vote that is accepted, and with it the outcome is commit
pub record Commits (l : Log) (e : Entry) : Type 0 where
  pub vote : is_take e ≡ false
  pub is_accepted : (enter l e).answer ≡ accepted
  pub commit : outcome_of (enter l e).log (tx_of e) ≡ Commit

-- the entry begins a group
abbrev pub Begins : Log → Entry → Type 0
Begins l e = (enter l e).log.groups ≡ l.groups + 1

-- at a commit the transaction joins the last group if that remembers it, else it begins the next
-- one
pub record Grouped (l : Log) (e : Entry) (joins : Bool) : Type 0 where
  pub group : group_of (enter l e).log (tx_of e) ≡ cond joins l.groups (l.groups + 1)
  pub groups : (enter l e).log.groups ≡ cond joins l.groups (l.groups + 1)

abbrev pub GroupAtCommit : Type 0
GroupAtCommit =
    (es : List Entry) (e : Entry) → Commits (reached es) e
    → Grouped (reached es) e (has (remembered (reached es) (reached es).groups) (tx_of e))

-- The same from the history alone: `first` begins a group, the entries `more` begin none, and `e`
-- commits. Its transaction joins that group exactly if it was running just before `first`.
abbrev pub JoinsIfRunningWhenBegun : Type 0
JoinsIfRunningWhenBegun =
    (es : List Entry) (first : Entry) (more : List Entry) (e : Entry)
    → Begins (reached es) first
    → (reached (es ++ first ∷ more)).groups ≡ (reached (es ++ first ∷ [])).groups
    → Commits (reached (es ++ first ∷ more)) e
    → Grouped (reached (es ++ first ∷ more)) e (running (row_of (reached es) (tx_of e)))

-- an entry began the last group of the log, and none since
pub record LastBegun (es : List Entry) : Type 0 where
  pub before : List Entry
  pub first : Entry
  pub more : List Entry
  pub split : es ≡ before ++ first ∷ more
  pub begins : Begins (reached before) first
  pub none_since : (reached (before ++ first ∷ more)).groups ≡ (reached (before ++ first ∷ [])).groups

-- so the history decides for every log in which a group was begun
abbrev pub LastGroupWasBegun : Type 0
LastGroupWasBegun = (es : List Entry) → ((reached es).groups ≡ 0) ⊎ LastBegun es

-- the first commit of all begins group 1
abbrev pub FirstCommitBegins : Type 0
FirstCommitBegins = (es : List Entry) (e : Entry) → (reached es).groups ≡ 0 → Commits (reached es) e → group_of (enter (reached es) e).log (tx_of e) ≡ 1

-- a group is begun by its first commit, and only so
abbrev pub BegunByCommit : Type 0
BegunByCommit =
    (es : List Entry) (e : Entry) → Begins (reached es) e
    → Commits (reached es) e × (group_of (enter (reached es) e).log (tx_of e) ≡ (enter (reached es) e).log.groups)

-- what a group remembers: the transactions running just before the entry that begins it
abbrev pub GroupRemembersRunning : Type 0
GroupRemembersRunning =
    (es : List Entry) (e : Entry) → Begins (reached es) e
    → (tx : ℕ) → has (remembered (enter (reached es) e).log (enter (reached es) e).log.groups) tx ≡ running (row_of (reached es) tx)

-- and that never changes
abbrev pub RememberedNeverChanges : Type 0
RememberedNeverChanges =
    (es more : List Entry) (g : ℕ) → g ≤ (reached es).groups → remembered (reached (es ++ more)) g ≡ remembered (reached es) g

-- a transaction's group never changes
abbrev pub GroupNeverChanges : Type 0
GroupNeverChanges = (es more : List Entry) (tx : ℕ) → group_of (reached es) tx ≢ 0 → group_of (reached (es ++ more)) tx ≡ group_of (reached es) tx
