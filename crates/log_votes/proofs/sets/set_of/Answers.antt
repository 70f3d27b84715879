use mathlib.Core.Path.{◌≡◌, ap, refl, ◌∙◌}
use Prim.Native.Nat.{ℕ, ◌%◌, ◌*◌, ◌^◌}
use native.Mathlib.Omega.{arith}
use mathlib.Core.Bool.{Bool, cond, false, true}
use mir.Val.{bool_byte}
use Rattle.std.proofs.Common.{bit_or}
use Rattle.log_votes.specs.Scan.{set_of}
use Rattle.log_votes.proofs.SetLaws.{set_put}
use Rattle.log_votes.proofs.sets.set_of.Goals as goal

byte_is : (b : Bool) → bool_byte b ≡ cond b 1 0
byte_is true = refl
byte_is false = refl

pub loop-i-init : goal.loop-i-init
unfolding set_of
loop-i-init g c few = refl

pub loop-i-preserved : goal.loop-i-preserved
loop-i-preserved g c few =
    let i = c.loop-i.i in
    let place : i % 32 ≡ i = omega arith in
    let passing = g.S.Test.passing c.args.test.now in
    ap (λ (k : ℕ). bit_or c.loop-i.set (c.from.result * 2 ^ k % 2 ^ 32)) place
    ∙ ap (λ (b : ℕ). bit_or c.loop-i.set (b * 2 ^ i % 2 ^ 32)) (c.from.ensures ∙ byte_is c.passes.result)
    ∙ set_put passing c.args.items.now c.index-items-i.result i (omega arith) (omega arith) (c.passes.ensures ∙ ap passing c.index-items-i.is) (c.loop-i.invariant few)
