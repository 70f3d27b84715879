-- Document 02, "A way to finish": which coordinator can close its current instance. "Let a
-- coordinator and m acceptors be up, m being the majority (2 of 3, 3 of 5). Let its queue hold an
-- entry. Let its current instance be at most 15, and let it have an own ballot above all that any
-- acceptor promised there or it opened there, and 2 times acceptors plus 2 times m message numbers
-- left."
use Rattle.std.specs.Prelude.{ℕ, suc, ◌+◌, ◌*◌, ◌/◌, ◌≤◌, ◌<◌, false, cond, List, [], ◌∷◌, ◌++◌, ◌⊎◌, ◌≡◌, get_or, length}
use Rattle.model_steps.specs.declared.Role.TheVariants.{Acceptor, Coord}
use Rattle.model_steps.specs.Limits.{ballots, coordinators, fewest_acceptors, instances, messages, most_acceptors}
use Rattle.model_owners.specs.Owners.{owner}
use Rattle.model_protocol.specs.declared.Down.{Down}
use Rattle.model_protocol.specs.declared.World.{World}
use Rattle.model_protocol.specs.World.{coordinator_of, is_down, slot_of}

-- m of n acceptors, "2 of 3, 3 of 5"
abbrev pub quorum : ℕ → ℕ
quorum n = n / 2 + 1

-- the acceptors below n that are up, the lowest first
unfoldable pub up_below : Down → ℕ → List ℕ
up_below d ℕ.zero = []
up_below d (suc a) = up_below d a ++ cond (is_down d Acceptor a) [] (a ∷ [])

abbrev pub up_acceptors : World → List ℕ
up_acceptors w = up_below w.down w.acceptors

-- the acceptor that is up with so many up below it
abbrev pub up_acceptor : World → ℕ → ℕ
up_acceptor w k = get_or (up_acceptors w) k 0

-- the instance that the coordinator is to close
abbrev pub current_of : World → ℕ → ℕ
current_of w c = (coordinator_of w c).applied

-- "2 times acceptors plus 2 times m", of n acceptors
abbrev pub numbers_needed : ℕ → ℕ
numbers_needed n = 2 * n + 2 * quorum n

-- "an own ballot above all that any acceptor promised there or it opened there": any acceptor, up
-- or down. Of those that the coordinator opened there, the last is the highest
pub record OwnBallot (w : World) (c b : ℕ) : Type 0 where
  pub positive : 0 < b
  pub within : b ≤ ballots
  pub own : owner b ≡ c
  pub above_promised : (a : ℕ) → a < w.acceptors → (slot_of w a (current_of w c)).promised < b
  pub above_opened : (coordinator_of w c).round.ballot < b

-- such a coordinator
pub record Such (w : World) (c : ℕ) : Type 0 where
  pub coordinator : c < coordinators
  pub up : is_down w.down Coord c ≡ false
  pub set_up : (w.acceptors ≡ fewest_acceptors) ⊎ (w.acceptors ≡ most_acceptors)
  pub quorum_up : quorum w.acceptors ≤ length (up_acceptors w)
  pub queued : 0 < (coordinator_of w c).queue.count
  pub current : current_of w c < instances
  pub ballot : (b : ℕ) × OwnBallot w c b
  pub numbers : w.sent + numbers_needed w.acceptors ≤ messages
