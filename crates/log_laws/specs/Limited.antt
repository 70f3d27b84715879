-- Document 02, "A one-saw workshop": "Fed the same entries from empty, all within the small limits,
-- both give equal answers, to queries within them too". The claims are made for the limit as a
-- number, and so for every n.
use Rattle.std.specs.Prelude.{ℕ, ◌<◌, ◌≡◌, true, false, cond, List, [], ◌∷◌, ◌↔◌}
use Rattle.log_entry.specs.declared.Entry.{Entry}
use Rattle.log_entry.specs.Entry.{outside}
use Rattle.log_entry.specs.Limits.{stores_of, transactions_of}
use Rattle.log_entry.specs.Refusal.{outside_limits}
use Rattle.log_core.specs.declared.Log.{Log}
use Rattle.log_core.specs.Enter.{answers_to, enter, feed}
use Rattle.log_core.specs.Follow.{awaited_of}
use Rattle.log_core.specs.Group.{running_set}
use Rattle.log_core.specs.Limit.{AllInside}
use Rattle.log_core.specs.Log.{empty_log, group_of, holder_of, involvement_of, latest_of, opened, outcome_of, turn_of, vote_at, with_limit}
use Rattle.log_core.specs.Replay.{replay_rows}
use Rattle.log_laws.specs.Reached.{reached}

-- the log that was opened with limit n and fed these entries, refused ones skipped
abbrev pub limited : ℕ → List Entry → Log
limited n es = feed (opened n) es

-- The log of limit n and the full one give equal answers to each of the entries, to each further
-- one within the limits, and to every query within them. A process is within every limit.
pub record AnswersAsFull (n : ℕ) (es : List Entry) : Type 0 where
  pub entries : answers_to (opened n) es ≡ answers_to empty_log es
  pub next : (e : Entry) → outside n e ≡ false → (enter (limited n es) e).answer ≡ (enter (reached es) e).answer
  pub outcome : (tx : ℕ) → tx < transactions_of n → outcome_of (limited n es) tx ≡ outcome_of (reached es) tx
  pub group : (tx : ℕ) → tx < transactions_of n → group_of (limited n es) tx ≡ group_of (reached es) tx
  pub involvement : (tx store : ℕ) → tx < transactions_of n → store < stores_of n
      → involvement_of (limited n es) tx store ≡ involvement_of (reached es) tx store
  pub vote : (tx store : ℕ) → tx < transactions_of n → store < stores_of n → vote_at (limited n es) tx store ≡ vote_at (reached es) tx store
  pub holder : (store : ℕ) → store < stores_of n → holder_of (limited n es) store ≡ holder_of (reached es) store
  pub turn : (store : ℕ) → store < stores_of n → turn_of (limited n es) store ≡ turn_of (reached es) store
  pub latest : (process : ℕ) → latest_of (limited n es) process ≡ latest_of (reached es) process
  pub replay : (store : ℕ) → store < stores_of n → replay_rows (limited n es) store ≡ replay_rows (reached es) store
  pub running : running_set (limited n es).rows ≡ running_set (reached es).rows
  pub awaited : (store : ℕ) → store < stores_of n → awaited_of (limited n es) store ≡ awaited_of (reached es) store

abbrev pub AsFull : ℕ → Type 0
AsFull n = (es : List Entry) → AllInside n es → AnswersAsFull n es

abbrev pub EveryLimitAsFull : Type 0
EveryLimitAsFull = (n : ℕ) → AsFull n

-- ---- whatever the entries

-- those within the limits of n
unfoldable pub inside : ℕ → List Entry → List Entry
inside n [] = []
inside n (e ∷ es) = cond (outside n e) (inside n es) (e ∷ inside n es)

-- The log of limit n is the full log fed the entries within the limits of n, but for the limit. So
-- what is proved of every reachable log holds of it too.
abbrev pub LimitedIsFull : Type 0
LimitedIsFull = (n : ℕ) (es : List Entry) → limited n es ≡ with_limit n (reached (inside n es))

-- ---- an entry outside

-- It is refused 2 and changes nothing, and no other entry is refused 2. Any other gets the answer
-- of the full log.
pub record OutsideRefused (n : ℕ) (es : List Entry) (e : Entry) : Type 0 where
  pub is_2 : ((enter (limited n es) e).answer ≡ outside_limits) ↔ (outside n e ≡ true)
  pub unchanged : outside n e ≡ true → (enter (limited n es) e).log ≡ limited n es
  pub other : outside n e ≡ false → (enter (limited n es) e).answer ≡ (enter (reached (inside n es)) e).answer

abbrev pub OutsideIsRefused : Type 0
OutsideIsRefused = (n : ℕ) (es : List Entry) (e : Entry) → OutsideRefused n es e
