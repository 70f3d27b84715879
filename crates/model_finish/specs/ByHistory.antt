-- "above all that any acceptor promised there or it opened there", by what was opened and
-- delivered.
use Rattle.std.specs.Prelude.{ℕ, ◌≤◌, ◌<◌, List, ◌↔◌, ◌≡◌}
use Rattle.model_steps.specs.declared.Step.{Step}
use Rattle.model_steps.specs.Limits.{ballots, instances}
use Rattle.model_owners.specs.Owners.{owner}
use Rattle.model_paxos.specs.Messages.{accept, prepare}
use Rattle.model_protocol.specs.Batch.{Batch}
use Rattle.model_protocol.specs.Step.{run}
use Rattle.model_protocol.specs.World.{fresh_world}
use Rattle.model_agreement.specs.Content.{paxos}
use Rattle.model_agreement.specs.History.{Event, Got, Happened, acceptors, history, opened}
use Rattle.model_finish.specs.Such.{OwnBallot, current_of}

-- An acceptor promises the ballots of prepares and accepts that are delivered to it, but for those
-- below what it promised before. So b is above all that it promised if it is above all of these.
-- All that the coordinator opened in i counts, not the last one alone.
pub record AboveAll (h : List Event) (c i b : ℕ) : Type 0 where
  pub prepares : (a d : ℕ) → a < acceptors h → Got (paxos (prepare i d a)) h → d < b
  pub accepts : (a d : ℕ) (v : Batch) → a < acceptors h → Got (paxos (accept i d a v)) h → d < b
  pub openings : (d : ℕ) → Happened (opened c i d) h → d < b

-- the ballots of a coordinator with which it can close its current instance, by the history
abbrev pub BallotByHistory : Type 0
BallotByHistory =
    (steps : List Step) (c b : ℕ) → let w = run fresh_world steps in current_of w c < instances
    → OwnBallot w c b ↔ ((0 < b) × (b ≤ ballots) × (owner b ≡ c) × AboveAll (history steps) c (current_of w c) b)
