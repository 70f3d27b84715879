use mathlib.Core.List.{List, [], ◌∷◌, ◌++◌}
use mathlib.Core.Path.{ap, sym, ◌∙◌}
use native.Mathlib.Omega.{arith}
use Prim.Native.Nat.{ℕ}
use lib.ListN.{length, length-append}
use Rattle.model_finish.specs.Such.{up_below}
use Rattle.finish_list.proofs.UpLaws.{down_passed, none_below, up_found}
use Rattle.finish_list.proofs.acceptors.up_below.Goals as goal
use Rattle.finish_list.proofs.acceptors.up_below.Goals.{then-not-is_down, else-not-is_down}

pub loop-a-init : goal.loop-a-init
loop-a-init c = record { found = c.none-up.ensures ∙ none_below c.args.d; fewer = omega (arith, ap length c.none-up.ensures) }

pub loop-a-preserved : goal.loop-a-preserved
loop-a-preserved c =
    let d = c.args.d in
    let a = c.loop-a.a in
    elim c.if-not-is_down.branch [
      | then-not-is_down w ↦ record {
        found = w.up-is ∙ w.push.ensures ∙ ap (λ (l : List ℕ). l ++ a ∷ []) c.loop-a.invariant.found ∙ up_found d a (sym c.is_down.ensures ∙ w.if-not-is_down.true);
        fewer = omega (arith, ap length (w.up-is ∙ w.push.ensures), length-append c.loop-a.up (a ∷ []), c.loop-a.invariant.fewer);
      }
      | else-not-is_down w ↦ record {
        found = w.up-is ∙ c.loop-a.invariant.found ∙ down_passed d a (sym c.is_down.ensures ∙ w.if-not-is_down.false);
        fewer = omega (arith, ap length w.up-is, c.loop-a.invariant.fewer);
      }
    ]

pub returns : goal.returns
returns c = c.loop-a.invariant.found ∙ ap (up_below c.args.d) (omega arith)
