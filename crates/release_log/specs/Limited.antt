-- Document 02, "A one-saw workshop", of the calls: "In C each call carries the limit, 8 or 3
-- stores, else 2, tried first", and "Fed the same entries from empty, all within the small limits,
-- both give equal answers, to queries within them too".
use Rattle.std.specs.Prelude.{ℕ, ◌<◌, ◌≤◌, false, List, ◌≢◌, ◌≡◌}
use Rattle.log_entry.specs.Entry.{outside}
use Rattle.log_entry.specs.Refusal.{accepted}
use Rattle.log_core.specs.Limit.{AllInside}
use Rattle.host_records.specs.declared.Numbers.{Numbers}
use Rattle.host_records.specs.Numbers.{entry_of}
use Rattle.host_lent.specs.Lent.{lent_log}
use Rattle.release_log.specs.Add.{add_answer, add_bytes}
use Rattle.release_log.specs.Filled.{entries_in}
use Rattle.release_log.specs.Query.{Query, answer_to, bytes_after, involvement_query, outcome_query, replay_query}

-- ---- the limit of a call

-- a query is answered 2, and its buffer stays as it was
pub record Refused (q : Query) : Type 0 where
  pub answers : (out : List ℕ) → answer_to q out ≡ 2
  pub unchanged : (out : List ℕ) → bytes_after q out ≡ out

-- every call is answered 2, whatever is lent and asked, and no buffer changes
pub record EveryCallRefused (limit : ℕ) : Type 0 where
  pub add_answer : (bytes : List ℕ) (count : ℕ) (n : Numbers) → add_answer limit bytes count n ≡ 2
  pub add_bytes : (bytes : List ℕ) (count : ℕ) (n : Numbers) → add_bytes limit bytes count n ≡ bytes
  pub outcome : (bytes : List ℕ) (count tx : ℕ) → Refused (outcome_query limit bytes count tx)
  pub involvement : (bytes : List ℕ) (count tx store : ℕ) → Refused (involvement_query limit bytes count tx store)
  pub replay : (bytes : List ℕ) (count store : ℕ) → Refused (replay_query limit bytes count store)

abbrev pub OtherLimitIsRefused : Type 0
OtherLimitIsRefused = (limit : ℕ) → limit ≢ 8 → limit ≢ 3 → EveryCallRefused limit

-- neither of the two limits is refused for itself: without records the log is there
abbrev pub TwoLimitsAreTaken : Type 0
TwoLimitsAreTaken = (bytes : List ℕ) → ((lent_log 8 bytes 0).answer ≡ accepted) × ((lent_log 3 bytes 0).answer ≡ accepted)

-- ---- a query's own numbers

-- with accepted records, a tx or a store outside the log's own limits is 2: of a log of so many
-- stores and transactions
pub record OutsideQueries (limit stores transactions : ℕ) : Type 0 where
  pub outcome : (bytes : List ℕ) (count tx : ℕ) → (lent_log limit bytes count).answer ≡ accepted → transactions ≤ tx
      → Refused (outcome_query limit bytes count tx)
  pub involvement_tx : (bytes : List ℕ) (count tx store : ℕ) → (lent_log limit bytes count).answer ≡ accepted → transactions ≤ tx
      → Refused (involvement_query limit bytes count tx store)
  pub involvement_store : (bytes : List ℕ) (count tx store : ℕ) → (lent_log limit bytes count).answer ≡ accepted → stores ≤ store
      → Refused (involvement_query limit bytes count tx store)
  pub replay : (bytes : List ℕ) (count store : ℕ) → (lent_log limit bytes count).answer ≡ accepted → stores ≤ store
      → Refused (replay_query limit bytes count store)

abbrev pub QueriesByOwnLimits : Type 0
QueriesByOwnLimits = OutsideQueries 8 8 32 × OutsideQueries 3 3 8

-- ---- the same records with both limits

-- two queries have the same answer and write the same
pub record SameQuery (q r : Query) : Type 0 where
  pub answers : (out : List ℕ) → answer_to q out ≡ answer_to r out
  pub writes : (out : List ℕ) → bytes_after q out ≡ bytes_after r out

-- these records are answered alike with 3 and with 8, and so is each call within the small limits
pub record CallsAsFull (bytes : List ℕ) (count : ℕ) : Type 0 where
  pub records : (lent_log 3 bytes count).answer ≡ (lent_log 8 bytes count).answer
  pub add_answer : (n : Numbers) → outside 3 (entry_of n) ≡ false → add_answer 3 bytes count n ≡ add_answer 8 bytes count n
  pub add_bytes : (n : Numbers) → outside 3 (entry_of n) ≡ false → add_bytes 3 bytes count n ≡ add_bytes 8 bytes count n
  pub outcome : (tx : ℕ) → tx < 8 → SameQuery (outcome_query 3 bytes count tx) (outcome_query 8 bytes count tx)
  pub involvement : (tx store : ℕ) → tx < 8 → store < 3 → SameQuery (involvement_query 3 bytes count tx store) (involvement_query 8 bytes count tx store)
  pub replay : (store : ℕ) → store < 3 → SameQuery (replay_query 3 bytes count store) (replay_query 8 bytes count store)

-- where all their entries are within the small limits
abbrev pub SmallCallsAsFull : Type 0
SmallCallsAsFull = (bytes : List ℕ) (count : ℕ) → AllInside 3 (entries_in bytes count) → CallsAsFull bytes count

-- Records that are accepted with 3 are such. So a workshop that grows lends them with 8 from then
-- on.
abbrev pub AcceptedWithThree : Type 0
AcceptedWithThree = (bytes : List ℕ) (count : ℕ) → (lent_log 3 bytes count).answer ≡ accepted → AllInside 3 (entries_in bytes count)
