-- The batch that the coordinator proposes is the one that the rule names.
use Prim.Native.Nat.{ℕ, ◌<◌}
use native.Mathlib.Omega.{arith}
use mathlib.Core.Bool.{Bool, true, false, cond}
use mathlib.Core.Logic.{◌⊎◌, inl, inr}
use mathlib.Core.Path.{◌≡◌, refl, subst, sym}
use borrow.Author.Tests.{eqb-false, eqb-true}
use lib.Dec.{eqb}
use Rattle.model_protocol.specs.declared.Coordinator.{Coordinator}
use Rattle.model_protocol.specs.declared.Round.{Round}
use Rattle.model_protocol.specs.declared.World.{World}
use Rattle.model_protocol.specs.Coordinator.{batch_to_propose}
use Rattle.model_protocol.specs.Queue.{Queue, first_batch}
use Rattle.model_protocol.specs.World.{coordinator_of}
use Rattle.model_finish.specs.Closing.{answering}
use Rattle.model_finish.specs.Delivered.{Proposed, adopted, held_by, own}
use Rattle.model_finish.proofs.Rounds.{Highest}

-- the round has the highest accepted pair of the first k acceptors that answer, as they hold it in
-- the world w
abbrev pub HighestHeld : World → ℕ → ℕ → Round → Type 0
HighestHeld w c k r = Highest (λ j. (held_by w c j).ballot) (λ j. (held_by w c j).batch) k r

-- x is the coordinator when all that answer have promised
pub by_rule : (w : World) (c : ℕ) (x : Coordinator) → x.queue ≡ (coordinator_of w c).queue → HighestHeld w c (answering w) x.round
    → Proposed w c (batch_to_propose x)
unfolding batch_to_propose
by_rule w c x same highest = go (eqb d 0) refl highest.from
  where
    d : ℕ
    d = x.round.accepted

    go : (t : Bool) → eqb d 0 ≡ t
        → (d ≡ 0) ⊎ ((j : ℕ) × (j < answering w) × (d ≡ (held_by w c j).ballot) × (x.round.batch ≡ (held_by w c j).batch))
        → Proposed w c (cond t (first_batch x.queue) x.round.batch)
    go true e from =
        subst (λ (q : Queue). Proposed w c (first_batch q)) (sym same) (own (λ j l. omega (arith, highest.most j l, eqb-true d 0 e)))
    go false e (inl z) = absurd (eqb-false d 0 e z)
    go false e (inr (j, l, is, batch)) =
        let some : (d ≡ 0 → ⊥) = eqb-false d 0 e in
        subst (Proposed w c) (sym batch) (adopted j l (omega (arith, is)) (λ k g. omega (arith, is, highest.most k g)))
