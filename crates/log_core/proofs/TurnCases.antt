-- The table of takes and votes in turns, by computation.
use mathlib.Core.Path.{refl}
use Rattle.log_entry.specs.Entry.{ill_formed, outside}
use Rattle.log_entry.specs.Refusal.{first_refusal}
use Rattle.log_votes.specs.Outcome.{outcome_of_votes, running}
use Rattle.log_votes.specs.Scan.{all_from, any_from, set_of}
use Rattle.log_core.specs.Decide.{effect_of, refusal}
use Rattle.log_core.specs.Enter.{answers_to, enter, entered, feed, stored}
use Rattle.log_core.specs.Group.{remembered}
use Rattle.log_core.specs.Log.{opened}
use Rattle.log_core.specs.Refusal.{wrong_turn}
use Rattle.log_core.specs.TurnCases.{TurnCasesHold, turn_cases}

pub turn_cases_hold : TurnCasesHold
unfolding turn_cases answers_to feed enter entered stored effect_of refusal first_refusal wrong_turn outside ill_formed remembered set_of running outcome_of_votes any_from all_from opened
turn_cases_hold = refl
