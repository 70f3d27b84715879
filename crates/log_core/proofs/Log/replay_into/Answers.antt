use Prim.Native.Nat.{ℕ, ◌+◌, ◌-◌, ◌<◌}
use mathlib.Core.Bool.{Bool, true}
use mathlib.Core.Path.{◌≡◌, ap, sym, ◌∙◌}
use mathlib.Core.List.{◌∷◌}
use native.Mathlib.Omega.{arith}
use lib.ListN.{get_or, length}
use Rattle.log_votes.specs.Row.{no_row, replays, vote_of_store}
use Rattle.log_votes.specs.Vote.{vote_update}
use Rattle.log_core.specs.declared.Log.{Log}
use Rattle.log_core.specs.declared.Replay.{Replay}
use Rattle.log_core.proofs.Lengths.{rows_length}
use Rattle.log_core.proofs.ReplayLaws.{Filled, filled_end, filled_more, filled_same, filled_start, left, left_all, left_end, left_hit, left_miss, left_none, left_start, other_group}
use Rattle.log_core.proofs.ReplayLength.{replay_length}
use Rattle.log_core.proofs.Log.replay_into.Goals.{After-update_of-update}
use Rattle.log_core.proofs.Log.replay_into.Goals as goal

-- at a hit the row is the next that is left
hit : (l : Log) (store : ℕ) (out : Replay) (g n t : ℕ) → t < length l.rows → {b : Bool} → b ≡ replays store g (get_or l.rows t no_row) → b ≡ true
    → {u : ℕ} → u ≡ vote_update (vote_of_store store (get_or l.rows t no_row)) → Filled l store out (left store l.rows g n t)
    → Filled l store out (record { group = g; tx = t; update = u } ∷ left store l.rows g n (t + 1))
hit l store out g n t h is so {u} update f =
    filled_same l store out _ _
    (left_hit store l.rows g n t h (sym is ∙ so) ∙ ap (λ (u : ℕ). record { group = g; tx = t; update = u } ∷ left store l.rows g n (t + 1)) (sym update))
    f

abbrev Next : After-update_of-update → Type 0
Next c =
    let g = c.loop-before.before + 1 in
    Filled c.args.self c.args.store c.loop-tx.out
    (record { group = g; tx = c.loop-tx.tx; update = c.update_of-update.result } ∷ left c.args.store c.args.self.rows g (c.args.self.groups - g) (c.loop-tx.tx + 1))

next : (c : After-update_of-update) → Next c
next c =
    let n : length c.args.self.rows ≡ 32 = rows_length c.args.self _ c.well_formed.0 in
    let g = c.loop-before.before + 1 in
    hit c.args.self c.args.store c.loop-tx.out g (c.args.self.groups - g) c.loop-tx.tx (omega arith) c.replays.ensures c.if-not-replays.false
    c.update_of-update.ensures c.loop-tx.invariant

-- so there is room for it
room : (c : After-update_of-update) → c.loop-tx.out.count < 32
room c =
    let n : length c.args.self.rows ≡ 32 = rows_length c.args.self _ c.well_formed.0 in
    omega (arith, (next c).counted, replay_length c.args.self c.args.store)

pub loop-before-init : goal.loop-before-init
loop-before-init c =
    filled_same c.args.self c.args.store c.args.out _ _ (left_all c.args.store c.args.self.rows c.args.self.groups)
    (filled_start c.args.self c.args.store c.args.out c.requires)

pub loop-tx-init : goal.loop-tx-init
loop-tx-init c =
    filled_same c.args.self c.args.store c.loop-before.out _ _
    (left_start c.args.store c.args.self.rows c.loop-before.before c.args.self.groups c.loop-before-test.true)
    c.loop-before.invariant

pub loop-tx-preserved-then-self-tx : goal.loop-tx-preserved-then-self-tx
loop-tx-preserved-then-self-tx c =
    let n : length c.args.self.rows ≡ 32 = rows_length c.args.self _ c.well_formed.0 in
    let g = c.loop-before.before + 1 in
    filled_same c.args.self c.args.store c.loop-tx.out _ _
    (left_miss c.args.store c.args.self.rows g (c.args.self.groups - g) c.loop-tx.tx (omega arith)
    (other_group c.args.store g (get_or c.args.self.rows c.loop-tx.tx no_row) c.if-self-tx.true))
    c.loop-tx.invariant

pub loop-tx-preserved-then-not-replays : goal.loop-tx-preserved-then-not-replays
loop-tx-preserved-then-not-replays c =
    let n : length c.args.self.rows ≡ 32 = rows_length c.args.self _ c.well_formed.0 in
    let g = c.loop-before.before + 1 in
    filled_same c.args.self c.args.store c.loop-tx.out _ _
    (left_miss c.args.store c.args.self.rows g (c.args.self.groups - g) c.loop-tx.tx (omega arith) (sym c.replays.ensures ∙ c.if-not-replays.true))
    c.loop-tx.invariant

pub overflow_cast-at : goal.overflow_cast-at
overflow_cast-at c = omega (arith, room (goal.at.overflow_cast-at c).After-update_of-update)

pub bounds-out-at : goal.bounds-out-at
bounds-out-at c = room (goal.at.bounds-out-at c).After-update_of-update

pub bounds-out-at-in-loop-tx : goal.bounds-out-at-in-loop-tx
bounds-out-at-in-loop-tx c = room (goal.at.bounds-out-at-in-loop-tx c).After-update_of-update

pub bounds-out-at-in-loop-tx-2 : goal.bounds-out-at-in-loop-tx-2
bounds-out-at-in-loop-tx-2 c = room (goal.at.bounds-out-at-in-loop-tx-2 c).After-update_of-update

pub offset_bounds-out-at : goal.offset_bounds-out-at
offset_bounds-out-at c = omega (arith, room (goal.at.offset_bounds-out-at c).After-update_of-update)

pub overflow_add-out : goal.overflow_add-out
overflow_add-out c = omega (arith, room (goal.at.overflow_add-out c).After-update_of-update)

pub loop-tx-preserved : goal.loop-tx-preserved
loop-tx-preserved c =
    filled_more c.args.self c.args.store c.loop-tx.out _ _ (next (goal.at.loop-tx-preserved c).After-update_of-update)

pub loop-before-preserved : goal.loop-before-preserved
loop-before-preserved c =
    let n : length c.args.self.rows ≡ 32 = rows_length c.args.self _ c.well_formed.0 in
    let g = c.loop-before.before + 1 in
    filled_same c.args.self c.args.store c.loop-tx.out _ _
    (left_end c.args.store c.args.self.rows g (c.args.self.groups - g) c.loop-tx.tx (omega arith))
    c.loop-tx.invariant

pub returns : goal.returns
returns c =
    filled_end c.args.self c.args.store c.loop-before.out
    (filled_same c.args.self c.args.store c.loop-before.out _ _
    (left_none c.args.store c.args.self.rows c.loop-before.before c.args.self.groups c.loop-before-test.false)
    c.loop-before.invariant)
