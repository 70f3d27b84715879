-- The tables of steps and their lists, by computation.
use mathlib.Core.List.{List}
use mathlib.Core.Path.{refl}
use Rattle.model_steps.specs.declared.Step.{Step}
use Rattle.model_protocol.proofs.Compute.{computed}
use Rattle.model_protocol.specs.Step.{run}
use Rattle.model_protocol.specs.World.{fresh_world}
use Rattle.model_finish.specs.Cases.{Holds, as_defined, its_ballot, later_instances, numbers_left, who_is_such}
use Rattle.model_finish.specs.Choice.{allows, ballot_of, choice_of, first_from, highest_promised, own_from}
use Rattle.model_finish.specs.Closing.{closing, deliveries, finishing}
use Rattle.model_finish.specs.Such.{up_below}

-- `unfolding listed` opens every definition that a list goes through
unfoldable pub listed : List Step → List Step
unfolding computed as_defined choice_of allows first_from ballot_of highest_promised own_from closing deliveries up_below
listed steps = finishing (run fresh_world steps)

pub who_is_such_lem : Holds who_is_such
unfolding listed who_is_such
who_is_such_lem = refl

pub its_ballot_lem : Holds its_ballot
unfolding listed its_ballot
its_ballot_lem = refl

pub later_instances_lem : Holds later_instances
unfolding listed later_instances
later_instances_lem = refl

pub numbers_left_lem : Holds numbers_left
unfolding listed numbers_left
numbers_left_lem = refl
