-- The theorems about the definitions of the commit log; specs/ has what each claims.
use Rattle.log_laws.specs.Answers.{RefusedEntryChangesNothing, TakeAnswerExactly, VoteAnswerExactly}
use Rattle.log_laws.specs.Base.{BaseCasesHold, BaseReadsNoTurn, OnlyRefusalsDiffer}
use Rattle.log_laws.specs.Cases.{CasesHold}
use Rattle.log_laws.specs.Changes.{TakeChangesOnly, VoteChangesOnly}
use Rattle.log_laws.specs.Conditions.{ClashExactly, HeldBeforeExactly, HoldsAnotherExactly, HoldsNotExactly, IllFormedExactly, LatestExactly, OtherTurnExactly, StaleExactly}
use Rattle.log_laws.specs.Groups.{BegunByCommit, FirstCommitBegins, GroupAtCommit, GroupIffCommitted, GroupNeverChanges, GroupsWithoutGaps, JoinsIfRunningWhenBegun, LastGroupWasBegun, RememberedNeverChanges, GroupRemembersRunning}
use Rattle.log_laws.specs.Holders.{AcceptedTakeHolds, HoldsAtMostOneStore, HoldsInLastTurn, LastTurnNeverFalls, LostStoreNeverAgain, NoEarlierTurnKept}
use Rattle.log_laws.specs.Involvement.{ChangedAreAborted, GuessedBefore, InvolvementChangesExactly, InvolvementExactly, InvolvementStays}
use Rattle.log_laws.specs.Limited.{AsFull, EveryLimitAsFull, LimitedIsFull, OutsideIsRefused}
use Rattle.log_laws.specs.Replays.{ReplayListsExactly, ReplayListsOnce, ReplayOrdered}
use Rattle.log_laws.specs.TakenOver.{AwaitedExactly, LostStoreVotesNoMore, ReplayedOrAwaited, RowStaysCommitted}
use Rattle.log_laws.specs.Votes.{AcceptedVoteIsKept, CommitVotesNameOneList, CommittedKeepsNoVote, CommittedRowStays, KeptVoteStays, OutcomeAbortIff, OutcomeCommitIff, OutcomeNeverChanges, RunningExactly}
use Rattle.log_laws.specs.WithoutTurns.{TakesWithoutTurns, VotesWithoutTurns, WithoutTurns}
use Rattle.log_laws.proofs.AcceptedClaims.{take_holds, vote_is_kept}
use Rattle.log_laws.proofs.AnswerClaims.{refused_same, take_exactly, vote_exactly}
use Rattle.log_laws.proofs.CaseTable.{base_table_holds, table_holds}
use Rattle.log_laws.proofs.ChangeClaims.{only_holder, only_vote}
use Rattle.log_laws.proofs.CommitIff.{commit_iff}
use Rattle.log_laws.proofs.ConditionClaims.{another_by_holders, clash_by_lists, holds_not_by_holder, ill_formed_by_values, other_turn_by_turn, stale_by_takes}
use Rattle.log_laws.proofs.GroupClaims.{at_commit, by_commit, first_begins, iff_committed, joins_if_running, never_changes, without_gaps}
use Rattle.log_laws.proofs.InvolvementChanges.{changed_aborted, changes_exactly, guessed_earlier}
use Rattle.log_laws.proofs.InvolvementClaims.{answer_stays, involvement_by_votes}
use Rattle.log_laws.proofs.LastGroup.{was_begun}
use Rattle.log_laws.proofs.LastTakes
use Rattle.log_laws.proofs.Limited
use Rattle.log_laws.proofs.Lost.{last_turn, never_again, never_falls, no_earlier, one_store}
use Rattle.log_laws.proofs.OutcomeClaims.{abort_iff, running_by_votes}
use Rattle.log_laws.proofs.Remembered.{remembered_stays, remembers_running}
use Rattle.log_laws.proofs.ReplayClaims.{lists_exactly, lists_once, ordered}
use Rattle.log_laws.proofs.Stays.{no_vote_kept, one_list_named, outcome_stays, row_stays, vote_stays}
use Rattle.log_laws.proofs.TakenBefore.{held_exactly}
use Rattle.log_laws.proofs.TakenOver
use Rattle.log_laws.proofs.WithoutTurns

pub outcome_commit_iff : OutcomeCommitIff
outcome_commit_iff = commit_iff

pub outcome_abort_iff : OutcomeAbortIff
outcome_abort_iff = abort_iff

pub running_exactly : RunningExactly
running_exactly = running_by_votes

pub accepted_vote_is_kept : AcceptedVoteIsKept
accepted_vote_is_kept = vote_is_kept

pub kept_vote_stays : KeptVoteStays
kept_vote_stays = vote_stays

pub outcome_never_changes : OutcomeNeverChanges
outcome_never_changes = outcome_stays

pub committed_keeps_no_vote : CommittedKeepsNoVote
committed_keeps_no_vote = no_vote_kept

pub committed_row_stays : CommittedRowStays
committed_row_stays = row_stays

pub commit_votes_name_one_list : CommitVotesNameOneList
commit_votes_name_one_list = one_list_named

pub involvement_exactly : InvolvementExactly
involvement_exactly = involvement_by_votes

pub involvement_stays : InvolvementStays
involvement_stays = answer_stays

pub involvement_changes_exactly : InvolvementChangesExactly
involvement_changes_exactly = changes_exactly

pub changed_are_aborted : ChangedAreAborted
changed_are_aborted = changed_aborted

pub guessed_before : GuessedBefore
guessed_before = guessed_earlier

pub accepted_take_holds : AcceptedTakeHolds
accepted_take_holds = take_holds

pub holds_at_most_one_store : HoldsAtMostOneStore
holds_at_most_one_store = one_store

pub holds_in_last_turn : HoldsInLastTurn
holds_in_last_turn = last_turn

pub last_turn_never_falls : LastTurnNeverFalls
last_turn_never_falls = never_falls

pub no_earlier_turn_kept : NoEarlierTurnKept
no_earlier_turn_kept = no_earlier

pub lost_store_never_again : LostStoreNeverAgain
lost_store_never_again = never_again

pub group_iff_committed : GroupIffCommitted
group_iff_committed = iff_committed

pub groups_without_gaps : GroupsWithoutGaps
groups_without_gaps = without_gaps

pub group_at_commit : GroupAtCommit
group_at_commit = at_commit

pub joins_if_running_when_begun : JoinsIfRunningWhenBegun
joins_if_running_when_begun = joins_if_running

pub last_group_was_begun : LastGroupWasBegun
last_group_was_begun = was_begun

pub first_commit_begins : FirstCommitBegins
first_commit_begins = first_begins

pub begun_by_commit : BegunByCommit
begun_by_commit = by_commit

pub group_remembers_running : GroupRemembersRunning
group_remembers_running = remembers_running

pub remembered_never_changes : RememberedNeverChanges
remembered_never_changes = remembered_stays

pub group_never_changes : GroupNeverChanges
group_never_changes = never_changes

pub replay_lists_exactly : ReplayListsExactly
replay_lists_exactly = lists_exactly

pub replay_ordered : ReplayOrdered
replay_ordered = ordered

pub replay_lists_once : ReplayListsOnce
replay_lists_once = lists_once

pub vote_answer_exactly : VoteAnswerExactly
vote_answer_exactly = vote_exactly

pub take_answer_exactly : TakeAnswerExactly
take_answer_exactly = take_exactly

pub awaited_exactly : AwaitedExactly
awaited_exactly = TakenOver.awaited_exactly

pub lost_store_votes_no_more : LostStoreVotesNoMore
lost_store_votes_no_more = TakenOver.votes_no_more

pub replayed_or_awaited : ReplayedOrAwaited
replayed_or_awaited = TakenOver.replayed_or_awaited

pub row_stays_committed : RowStaysCommitted
row_stays_committed = TakenOver.row_stays_committed

pub refused_entry_changes_nothing : RefusedEntryChangesNothing
refused_entry_changes_nothing = refused_same

pub ill_formed_exactly : IllFormedExactly
ill_formed_exactly = ill_formed_by_values

pub holds_not_exactly : HoldsNotExactly
holds_not_exactly = holds_not_by_holder

pub clash_exactly : ClashExactly
clash_exactly = clash_by_lists

pub held_before_exactly : HeldBeforeExactly
held_before_exactly = held_exactly

pub holds_another_exactly : HoldsAnotherExactly
holds_another_exactly = another_by_holders

pub latest_exactly : LatestExactly
latest_exactly = LastTakes.latest_exactly

pub stale_exactly : StaleExactly
stale_exactly = stale_by_takes

pub other_turn_exactly : OtherTurnExactly
other_turn_exactly = other_turn_by_turn

pub take_changes_only : TakeChangesOnly
take_changes_only = only_holder

pub vote_changes_only : VoteChangesOnly
vote_changes_only = only_vote

pub cases_hold : CasesHold
cases_hold = table_holds

pub base_cases_hold : BaseCasesHold
base_cases_hold = base_table_holds

pub base_reads_no_turn : BaseReadsNoTurn
base_reads_no_turn = WithoutTurns.base_reads_no_turn

pub only_refusals_differ : OnlyRefusalsDiffer
only_refusals_differ = WithoutTurns.only_refusals_differ

pub without_turns_lem : WithoutTurns
without_turns_lem = WithoutTurns.without_turns_lem

pub takes_without_turns : TakesWithoutTurns
takes_without_turns = WithoutTurns.takes_without_turns

pub votes_without_turns : VotesWithoutTurns
votes_without_turns = WithoutTurns.votes_without_turns

pub limited_is_full : LimitedIsFull
limited_is_full = Limited.limited_is_full

pub outside_is_refused : OutsideIsRefused
outside_is_refused = Limited.outside_is_refused

pub every_limit_as_full : EveryLimitAsFull
every_limit_as_full = Limited.every_limit_as_full

-- of the two limits that a log may be opened with
pub full_as_full : AsFull 8
full_as_full = every_limit_as_full 8

pub small_as_full : AsFull 3
small_as_full = every_limit_as_full 3
