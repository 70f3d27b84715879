-- The first k commands are carried out, and their answers stored.
use Rattle.std.proofs.Common.{◌≡◌, drop}
use Rattle.std.proofs.lemmas.List.Edits.{sets}
use Rattle.world_engine.specs.Commands.{answers_to, world_after}
use Rattle.world_engine.proofs.advance.advance.Given as goal

abbrev pub invariant-loop-k : goal.invariant-loop-k
invariant-loop-k l = record {
  done : world_after l.initial.w l.o-items ≡ world_after l.w (drop l.k l.o-items);
  stored : sets l.initial.answers 0 (answers_to l.initial.w l.o-items) ≡ sets l.answers l.k (answers_to l.w (drop l.k l.o-items));
}
