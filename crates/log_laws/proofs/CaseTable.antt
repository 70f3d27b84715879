-- The tables of cases, by computation.
use mathlib.Core.Path.{refl}
use Rattle.log_entry.specs.Entry.{ill_formed, outside}
use Rattle.log_entry.specs.Refusal.{first_refusal}
use Rattle.log_core.specs.Decide.{effect_of, refusal}
use Rattle.log_core.specs.Enter.{answers_to, enter, entered, feed, stored}
use Rattle.log_core.specs.Group.{remembered}
use Rattle.log_votes.specs.Involvement.{involvement_of_votes}
use Rattle.log_core.specs.Log.{opened}
use Rattle.log_core.specs.Refusal.{wrong_turn}
use Rattle.log_votes.specs.Outcome.{outcome_of_votes, running}
use Rattle.log_votes.specs.Scan.{all_from, any_from, first_of, set_of}
use Rattle.log_laws.specs.Base.{BaseCasesHold, base_answers_to, base_enter, base_feed, base_involvement_of, base_outside, base_refusal}
use Rattle.log_laws.specs.Cases.{CasesHold, cases_with}

pub table_holds : CasesHold
unfolding cases_with answers_to feed enter entered stored effect_of refusal first_refusal wrong_turn outside ill_formed remembered set_of running outcome_of_votes involvement_of_votes any_from all_from first_of opened
table_holds = refl

pub base_table_holds : BaseCasesHold
unfolding cases_with base_answers_to base_feed base_enter entered stored base_refusal first_refusal base_outside ill_formed remembered set_of running outcome_of_votes base_involvement_of any_from all_from opened
base_table_holds = refl
