-- What an accepted entry leaves in the log.
use Prim.Native.Nat.{◌<◌}
use mathlib.Core.Bool.{false}
use mathlib.Core.List.{List}
use mathlib.Core.Path.{◌≡◌, ap, subst, sym, ◌∙◌}
use native.Mathlib.Omega.{arith}
use lib.ListN.{get_or, length}
use lib.Seq.{get_or-set_same}
use Rattle.log_entry.proofs.InsideLaws.{inside_store, inside_vote}
use Rattle.log_entry.specs.declared.Entry.{Entry}
use Rattle.log_entry.specs.Entry.{is_take, tx_of}
use Rattle.log_entry.specs.Refusal.{accepted}
use Rattle.log_core.proofs.EnterLaws.{accepted_inside, answer_is, refusal_of}
use Rattle.log_core.specs.declared.Log.{Log}
use Rattle.log_votes.specs.declared.Row.{Row}
use Rattle.log_votes.specs.declared.Vote.{Vote}
use Rattle.log_core.specs.Enter.{enter}
use Rattle.log_core.specs.Log.{row_of, vote_at}
use Rattle.log_votes.specs.Row.{in_group, no_row, no_vote, vote_of_entry}
use Rattle.log_laws.specs.Holders.{AcceptedTakeHolds}
use Rattle.log_laws.specs.Reached.{reached}
use Rattle.log_laws.specs.Votes.{AcceptedVoteIsKept, KeptAs}
use Rattle.log_laws.proofs.Feed.{wf_reached}
use Rattle.log_laws.proofs.Holding.{held_by}
use Rattle.log_laws.proofs.KeptVotes.{kept_as}
use Rattle.log_laws.proofs.Replicated.{rows_length, votes_length}
use Rattle.log_laws.proofs.Steps.{group_after, row_with, vote_entered, voted_rows}

stands_there : (es : List Entry) (e : Entry) → is_take e ≡ false → (enter (reached es) e).answer ≡ accepted
    → vote_at (enter (reached es) e).log (tx_of e) e.store ≡ vote_of_entry e
stands_there es e vote ok =
    let l = reached es in
    let is : refusal_of l e ≡ accepted = sym (answer_is l e) ∙ ok in
    let inside = accepted_inside l e is in
    let r = row_with l e in
    let tx : tx_of e < length l.rows = omega (arith, rows_length es, (inside_vote l.stores e inside vote).tx) in
    ap (λ (m : Log). vote_at m (tx_of e) e.store) (vote_entered l e is vote)
    ∙ ap (λ (rows : List Row). get_or (get_or rows (tx_of e) no_row).votes e.store no_vote) (voted_rows l (tx_of e) r)
    ∙ ap (λ (x : Row). get_or x.votes e.store no_vote) (get_or-set_same l.rows (tx_of e) (in_group r (group_after l (tx_of e) r)) no_row tx)
    ∙ get_or-set_same (row_of l (tx_of e)).votes e.store (vote_of_entry e) no_vote (omega (arith, votes_length es (tx_of e) (omega (arith, (inside_vote l.stores e inside vote).tx)), inside_store l.stores e inside))

pub vote_is_kept : AcceptedVoteIsKept
vote_is_kept es e vote ok = subst (λ (v : Vote). KeptAs v e) (sym (stands_there es e vote ok)) (kept_as e)

pub take_holds : AcceptedTakeHolds
take_holds es e take ok = held_by (reached es) e (wf_reached es).sized take (sym (answer_is (reached es) e) ∙ ok)
