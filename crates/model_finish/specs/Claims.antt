-- What is claimed of the list and of the choice.
use Rattle.std.specs.Prelude.{ℕ, ◌+◌, ◌*◌, ◌≤◌, ◌<◌, false, List, [], ◌∷◌, ◌++◌, ◌↔◌, ◌⊎◌, ◌≢◌, ◌≡◌, length, take}
use Rattle.log_entry.specs.Refusal.{accepted}
use Rattle.model_steps.specs.declared.Role.TheVariants.{Acceptor}
use Rattle.model_steps.specs.declared.Step.{Step}
use Rattle.model_steps.specs.Limits.{instances}
use Rattle.model_protocol.specs.Batch.{Batch}
use Rattle.model_protocol.specs.declared.World.{World}
use Rattle.model_protocol.specs.Step.{run, step_of}
use Rattle.model_protocol.specs.World.{coordinator_of, fresh_world, is_down, log_of, message_of, slot_of}
use Rattle.model_agreement.specs.Claim.{IsSequence, batch_at}
use Rattle.model_agreement.specs.History.{Applied, Event, acceptors, history}
use Rattle.model_agreement.specs.Plain.{plain_log}
use Rattle.model_finish.specs.Choice.{choice_of}
use Rattle.model_finish.specs.Closing.{closing, finishing}
use Rattle.model_finish.specs.Delivered.{Proposed, after_acceptances}
use Rattle.model_finish.specs.Such.{OwnBallot, Such, current_of, numbers_needed, quorum, up_acceptor}

-- each step, one after the other, is answered 0
abbrev pub AllAccepted : World → List Step → Type 0
AllAccepted w [] = Unit {0}
AllAccepted w (s ∷ steps) = ((step_of w s).answer ≡ accepted) × AllAccepted (step_of w s).world steps

-- From w to v coordinator c and its log may change, and what the acceptors hold of instance i, and
-- messages may be sent. All else stays: nobody else applies anything, no process hears or takes
-- anything, and what was sent before is as it was.
pub record OnlyAt (c i : ℕ) (w v : World) : Type 0 where
  pub acceptors : v.acceptors ≡ w.acceptors
  pub down : v.down ≡ w.down
  pub coordinators : (k : ℕ) → k ≢ c → coordinator_of v k ≡ coordinator_of w k
  pub logs : (k : ℕ) → k ≢ c → log_of v k ≡ log_of w k
  pub slots : (a j : ℕ) → j < instances → j ≢ i → slot_of v a j ≡ slot_of w a j
  pub processes : v.processes ≡ w.processes
  pub restored : v.restored ≡ w.restored
  pub follows : v.follows ≡ w.follows
  pub sends : w.sent ≤ v.sent
  pub messages : (j : ℕ) → j < w.sent → message_of v j ≡ message_of w j
  pub replays : v.replays ≡ w.replays

-- "a list of 2 + 4m steps, run without others between, applies one more instance", and exactly one
pub record Closes (w : World) (c : ℕ) (steps : List Step) : Type 0 where
  pub size : length steps ≡ 2 + 4 * quorum w.acceptors
  pub answered : AllAccepted w steps
  pub applied : current_of (run w steps) c ≡ current_of w c + 1
  pub only : OnlyAt c (current_of w c) w (run w steps)
  -- "2 times acceptors plus 2 times m message numbers" are used, all of them
  pub sent : (run w steps).sent ≡ w.sent + numbers_needed w.acceptors

-- It is so in every reachable world, for every such coordinator, with every such ballot.
abbrev pub SuchCloses : Type 0
SuchCloses =
    (steps : List Step) (c b : ℕ) → let w = run fresh_world steps in Such w c → OwnBallot w c b → Closes w c (closing w c b)

-- "open, deliver m prepares, then their promises, propose, deliver m accepts, then their
-- acceptances, each by acceptor", by the history: it was h before the list, and is g after it
pub record Told (w : World) (c b : ℕ) (h g : List Event) : Type 0 where
  pub batch : Batch
  pub by_rule : Proposed w c batch
  pub told : g ≡ after_acceptances w c b batch h

abbrev pub ListIsTold : Type 0
ListIsTold =
    (steps : List Step) (c b : ℕ) → let w = run fresh_world steps in Such w c → OwnBallot w c b
    → Told w c b (history steps) (history (steps ++ closing w c b))

-- ---- the choice: "the lowest such coordinator, then ballot, then acceptors"

-- what was chosen, where its ballot is not 0
pub record Lowest (w : World) (c b : ℕ) : Type 0 where
  pub such : Such w c
  pub ballot : OwnBallot w c b
  pub lowest_coordinator : (k : ℕ) → Such w k → c ≤ k
  pub lowest_ballot : (d : ℕ) → OwnBallot w c d → b ≤ d

pub record ChoiceIs (w : World) : Type 0 where
  pub none : (choice_of w).ballot ≡ 0 → (c : ℕ) → Such w c → ⊥
  pub lowest : 0 < (choice_of w).ballot → Lowest w (choice_of w).coord (choice_of w).ballot

abbrev pub ChoiceExactly : Type 0
ChoiceExactly = (w : World) → ChoiceIs w

-- the m acceptors that are asked
pub record LowestUp (w : World) : Type 0 where
  pub is_acceptor : (k : ℕ) → k < quorum w.acceptors → up_acceptor w k < w.acceptors
  pub is_up : (k : ℕ) → k < quorum w.acceptors → is_down w.down Acceptor (up_acceptor w k) ≡ false
  pub ascending : (j k : ℕ) → j < k → k < quorum w.acceptors → up_acceptor w j < up_acceptor w k
  -- any other that is up is above them
  pub lowest : (a : ℕ) → a < w.acceptors → is_down w.down Acceptor a ≡ false
      → ((k : ℕ) × (k < quorum w.acceptors) × (up_acceptor w k ≡ a))
      ⊎ ((k : ℕ) → k < quorum w.acceptors → up_acceptor w k < a)

abbrev pub AskedAreLowest : Type 0
AskedAreLowest = (w : World) (c : ℕ) → Such w c → LowestUp w

-- "and nothing exactly where no coordinator is such"
abbrev pub NothingExactly : Type 0
NothingExactly = (w : World) → (finishing w ≡ []) ↔ ((c : ℕ) → Such w c → ⊥)

-- ---- with demand 3

-- The coordinator was behind, and learns what was decided already: the sequence s stays.
pub record CatchesUp (s t : List Batch) (i : ℕ) : Type 0 where
  pub behind : i < length s
  pub stays : t ≡ s

-- It had applied all that was decided, and the sequence grows by one batch.
pub record Decides (s t : List Batch) (i : ℕ) : Type 0 where
  pub at_end : i ≡ length s
  pub batch : Batch
  pub grows : t ≡ s ++ batch ∷ []

-- After these steps coordinator c has applied i instances, and after the list one more. Both are
-- said by the history. s is the sequence before the list, and t after it.
pub record Finished (steps list : List Step) (c i : ℕ) (s t : List Batch) : Type 0 where
  pub before : Applied (acceptors (history steps)) c i (history steps)
  pub after : Applied (acceptors (history (steps ++ list))) c (i + 1) (history (steps ++ list))
  pub which : CatchesUp s t i ⊎ Decides s t i
  -- the instance holds the batch that was proposed
  pub holds : Proposed (run fresh_world steps) c (batch_at t i)
  -- its log is the plain log fed one batch more
  pub log : log_of (run fresh_world (steps ++ list)) c ≡ plain_log (take (i + 1) t)

abbrev pub ClosesInSequence : Type 0
ClosesInSequence =
    (steps : List Step) (c b : ℕ) → let w = run fresh_world steps in Such w c → OwnBallot w c b
    → (s t : List Batch) → IsSequence (history steps) s → IsSequence (history (steps ++ closing w c b)) t
    → Finished steps (closing w c b) c (current_of w c) s t
