use Rattle.std.proofs.Common.{◌≤◌, ◌∙◌, ap, arith, length, sym}
use Rattle.std.proofs.lemmas.List.Edits.{sets}
use Rattle.world_engine.specs.Commands.{answers_to, world_after}
use Rattle.world_engine.proofs.CommandLaws.{stored_end, stored_turn, world_end, world_turn}
use Rattle.world_engine.proofs.advance.advance.Goals as goal

pub loop-k-preserved : goal.loop-k-preserved
loop-k-preserved c = record {
  done = c.loop-k.invariant.done ∙ world_turn _ _ _ c.loop-k-test.true _ _ c.carry_out.result c.carry_out.ensures.world;
  stored = c.loop-k.invariant.stored ∙ stored_turn _ _ _ c.loop-k-test.true _ _ c.carry_out.result c.carry_out.ensures.world c.carry_out.ensures.answer _ c.number.ensures _;
}

pub returns : goal.returns
returns c =
    let list = c.as_slice-o-items.result.now in
    let end : length list ≤ c.loop-k.k = omega arith in
    record {
      value = sym (world_end list c.loop-k.k end c.loop-k.w) ∙ sym c.loop-k.invariant.done ∙ ap (world_after c.args.w) c.as_slice-o-items.ensures;
      answers_after = sym (stored_end list c.loop-k.k end c.loop-k.w c.loop-k.answers) ∙ sym c.loop-k.invariant.stored
          ∙ ap (λ os. sets c.args.answers.now 0 (answers_to c.args.w os)) c.as_slice-o-items.ensures;
    }
