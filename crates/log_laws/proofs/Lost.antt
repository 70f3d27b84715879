-- A process holds one store at most, in its last turn. A store that it lost in a turn it never
-- holds in that turn again. No vote from an earlier turn of it is kept.
use Prim.Native.Nat.{ℕ, ◌≤◌}
use mathlib.Core.Path.{◌≡◌, sym, ap, subst, ◌∙◌}
use mathlib.Core.List.{◌∷◌, ◌++◌}
use mathlib.Core.Logic.{◌≢◌}
use native.Mathlib.Omega.{arith}
use Rattle.log_entry.specs.Entry.{by_of}
use Rattle.log_core.proofs.EnterLaws.{answer_is}
use Rattle.log_core.specs.declared.Log.{Log}
use Rattle.log_core.specs.Enter.{enter, feed}
use Rattle.log_core.specs.Log.{empty_log, latest_of}
use Rattle.log_laws.specs.Holders.{HoldsAtMostOneStore, HoldsInLastTurn, LastTurnNeverFalls, LostStoreNeverAgain, NoEarlierTurnKept}
use Rattle.log_laws.specs.Reached.{reached}
use Rattle.log_laws.proofs.Accepted.{process_from_1, vote_ok, voter_holds, voter_turn}
use Rattle.log_laws.proofs.Feed.{feed_append, later, wf_reached}
use Rattle.log_laws.proofs.Holding.{HadIn, LostIn, had_enter, held_by, latest_enter, lost_enter}
use Rattle.log_laws.proofs.WellFormed.{feed_keeps, wf_enter}

from_1 : (p : ℕ) → 1 ≤ p → p ≢ 0
from_1 p h = omega arith

pub one_store : HoldsAtMostOneStore
one_store es p s t n h k = (wf_reached es).holding.one_store p s t (from_1 p n) h k

pub last_turn : HoldsInLastTurn
last_turn es p s n h = (wf_reached es).holding.last_turn p s (from_1 p n) h

pub never_falls : LastTurnNeverFalls
never_falls es more p =
    later (λ (l : Log). latest_of (reached es) p ≤ latest_of l p) (λ l e w k. omega (arith, k, latest_enter l e p w.sized)) es more (omega arith)

pub never_again : LostStoreNeverAgain
never_again es more after p t s n h lost =
    (later (LostIn p t s) (λ l e w k. lost_enter l e p t s w.sized k) (es ++ more) after (had, lost)).1
  where
    had : HadIn p t s (reached (es ++ more))
    had =
        later (HadIn p t s) (λ l e w k. had_enter l e p t s w.sized k) es more
        ((wf_reached es).holding.in_past p s (from_1 p n) h.0, omega (arith, sym h.1 ∙ last_turn es p s n h.0))

pub no_earlier : NoEarlierTurnKept
unfolding feed
no_earlier es more t v take ok vote same below answer =
    let l = reached (es ++ t ∷ more) in
    let fine = vote_ok l v vote (sym (answer_is l v) ∙ answer) in
    let turn : v.turn ≡ latest_of l v.process =
    sym (voter_turn _ l v fine) ∙ (wf_reached (es ++ t ∷ more)).holding.last_turn v.process (by_of v) (process_from_1 l.stores v fine.in_limits) (voter_holds _ l v fine) in
    omega (arith, below, turn, ap (latest_of l) same, since)
  where
    before : Log
    before = reached es

    -- the process's last turn is that of the take or above
    since : t.turn ≤ latest_of (reached (es ++ t ∷ more)) t.process
    since =
        subst (λ (l : Log). t.turn ≤ latest_of l t.process) (sym (feed_append empty_log es (t ∷ more)))
        (feed_keeps (λ (l : Log). t.turn ≤ latest_of l t.process) (λ l e w k. omega (arith, k, latest_enter l e t.process w.sized))
        (enter before t).log more (wf_enter before t (wf_reached es))
        (omega (arith, (held_by before t (wf_reached es).sized take (sym (answer_is before t) ∙ ok)).latest)))
