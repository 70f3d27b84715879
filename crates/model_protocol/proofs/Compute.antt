-- Runs that compute: `unfolding computed` opens every definition that a step goes through.
use mathlib.Core.List.{List}
use lib.Count.{ones, ones_in}
use Rattle.log_entry.specs.Entry.{ill_formed, outside, same_entry}
use Rattle.log_entry.specs.Refusal.{first_refusal}
use Rattle.log_core.specs.Decide.{effect_of, refusal}
use Rattle.log_core.specs.Enter.{enter, entered, feed, stored}
use Rattle.log_core.specs.Follow.{awaited_of}
use Rattle.log_core.specs.Group.{remembered}
use Rattle.log_core.specs.Log.{opened}
use Rattle.log_votes.specs.Outcome.{outcome_of_votes, running}
use Rattle.log_core.specs.Refusal.{wrong_turn}
use Rattle.log_core.specs.Replay.{group_replay, no_replay, replay_from, replay_of}
use Rattle.log_votes.specs.Scan.{all_from, any_from, set_of}
use Rattle.model_steps.specs.declared.Step.{Step}
use Rattle.model_steps.specs.Limits.{outside_step}
use Rattle.model_owners.specs.Owners.{owner, owners}
use Rattle.model_protocol.specs.declared.World.{World}
use Rattle.model_protocol.specs.Batch.{batch_of, no_batch}
use Rattle.model_protocol.specs.Coordinator.{batch_to_propose, learning, promise_heard}
use Rattle.model_protocol.specs.Deliver.{delivery_change}
use Rattle.model_protocol.specs.Places.{places_of}
use Rattle.model_protocol.specs.Queue.{first_batch, is_in, joining, left_by, queue_of, without}
use Rattle.model_protocol.specs.Send.{copy_of, send_to_all}
use Rattle.model_protocol.specs.Step.{change_of, held_from, message_for, run, step_checks, step_of, step_refusal}
use Rattle.model_protocol.specs.World.{all_up, fresh_coordinator, fresh_world, no_follows, started_in}

-- the world after a list of steps from the fresh world
unfoldable pub computed : List Step → World
unfolding run step_of places_of step_refusal step_checks change_of message_for held_from delivery_change first_refusal outside_step outside ill_formed send_to_all copy_of promise_heard learning joining batch_to_propose first_batch batch_of is_in same_entry left_by queue_of without fresh_world fresh_coordinator started_in all_up no_batch no_replay no_follows awaited_of opened feed enter entered stored effect_of refusal wrong_turn remembered set_of outcome_of_votes running replay_of replay_from group_replay any_from all_from ones ones_in owner owners
computed steps = run fresh_world steps
