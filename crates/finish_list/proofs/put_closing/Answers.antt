use mathlib.Core.Path.{ap}
use native.Mathlib.Omega.{arith}
use Rattle.std.proofs.Common.{take}
use Rattle.std.proofs.lemmas.List.{get_or_default}
use Rattle.model_protocol.specs.World.{fresh_coordinator}
use Rattle.finish_list.proofs.ClosingLaws.{asked_below, closing_text, four_within}
use Rattle.finish_list.proofs.put_closing.Goals as goal

pub put_exchange-requires-clause-by_index : goal.put_exchange-requires-clause-by_index
put_exchange-requires-clause-by_index c =
    asked_below _ c.requires _ c.up_below-up.ensures c.quorum-m.ensures _ (λ i. take (c.from-2.ensures i) (c.as_slice.ensures i))

pub put_exchange-requires-2-clause-by_index : goal.put_exchange-requires-2-clause-by_index
put_exchange-requires-2-clause-by_index c =
    asked_below _ c.requires _ c.up_below-up.ensures c.quorum-m.ensures _ (λ i. take (c.from-2.ensures i) (c.as_slice.ensures i))

pub returns : goal.returns
returns c =
    four_within
    c.round_line.ensures
    c.put_exchange.ensures
    c.round_line-2.ensures
    c.put_exchange-2.ensures
    (closing_text _ c.requires _ c.up_below-up.ensures c.quorum-m.ensures _ (λ i. take (c.from-2.ensures i) (c.as_slice.ensures i)) _
    (rw c.from.ensures (ap (λ k. k.applied) (get_or_default c.args.w.now.coordinators c.args.coord _ fresh_coordinator (omega arith)))))
    (omega arith)
