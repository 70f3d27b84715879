-- The program's choice: "the lowest such coordinator, then ballot". `ChoiceExactly` says that it
-- is.
use Rattle.std.specs.Prelude.{ℕ, suc, ◌-◌, max, Bool, ◌&&◌, not, cond, eqb, leb, ltb, length}
use Rattle.model_steps.specs.declared.Role.TheVariants.{Coord}
use Rattle.model_steps.specs.Limits.{ballots, can_set_up, coordinators, instances}
use Rattle.model_owners.specs.Owners.{owner}
use Rattle.model_protocol.specs.declared.Coordinator.{Coordinator}
use Rattle.model_protocol.specs.declared.World.{World}
use Rattle.model_protocol.specs.Send.{lacks_numbers}
use Rattle.model_protocol.specs.World.{coordinator_of, is_down, slot_of}
use Rattle.model_finish.specs.declared.Choice.{Choice}
use Rattle.model_finish.specs.Such.{current_of, numbers_needed, quorum, up_acceptors}

-- what is asked for whichever the coordinator: the acceptors, and the message numbers
unfoldable pub allows : World → Bool
allows w =
    can_set_up w.acceptors
    && leb (quorum w.acceptors) (length (up_acceptors w))
    && not (lacks_numbers w.sent (numbers_needed w.acceptors))

-- what is asked of the coordinator itself, but for its ballot
abbrev pub has_work : Coordinator → Bool
has_work k = ltb 0 k.queue.count && ltb k.applied instances

-- the highest ballot that an acceptor below n promised in instance i, up or down
unfoldable pub highest_promised : World → ℕ → ℕ → ℕ
highest_promised w i ℕ.zero = 0
highest_promised w i (suc a) = max (highest_promised w i a) (slot_of w a i).promised

-- the ballot must be above this one
abbrev pub above : World → ℕ → ℕ
above w c = max (coordinator_of w c).round.ballot (highest_promised w (current_of w c) w.acceptors)

-- the first ballot of coordinator c among the k ballots from b on; 0 if there is none
unfoldable pub own_from : ℕ → ℕ → ℕ → ℕ
own_from c b ℕ.zero = 0
own_from c b (suc k) = cond (eqb (owner b) c) b (own_from c (suc b) k)

-- the lowest ballot of coordinator c above this one; 0 if there is none
abbrev pub lowest_own : ℕ → ℕ → ℕ
lowest_own c low = own_from c (suc low) (ballots - low)

-- the lowest ballot with which coordinator c can close its current instance; 0 if it cannot
unfoldable pub ballot_of : World → ℕ → ℕ
ballot_of w c = cond (not (is_down w.down Coord c) && has_work (coordinator_of w c)) (lowest_own c (above w c)) 0

abbrev pub chosen : ℕ → ℕ → Choice
chosen c b = record { coord = c; ballot = b }

-- the first of the k coordinators from c on that can
unfoldable pub first_from : World → ℕ → ℕ → Choice
first_from w c ℕ.zero = chosen 0 0
first_from w c (suc k) = cond (eqb (ballot_of w c) 0) (first_from w (suc c) k) (chosen c (ballot_of w c))

-- the lowest such coordinator and its lowest ballot; ballot 0 if no coordinator is such
unfoldable pub choice_of : World → Choice
choice_of w = cond (allows w) (first_from w 0 coordinators) (chosen 0 0)
