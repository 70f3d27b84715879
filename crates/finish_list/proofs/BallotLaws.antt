-- The ballots of a coordinator, tried one after the other, and the promises of an instance.
use Prim.Native.Nat.{ℕ, suc, ◌+◌, ◌*◌, ◌-◌, ◌<◌, ◌≤◌, max}
use mathlib.Core.Path.{◌≡◌, refl, ap, sym, ◌∙◌}
use native.Mathlib.Numerals.{add-one}
use native.Mathlib.Omega.{arith}
use borrow.Author.Tests.{eq-eqb, ne_eqb}
use lib.ListN.{get_or, length}
use Rattle.std.proofs.Math.Nat.{max-zero}
use Rattle.std.proofs.Common.{Some}
use Rattle.std.proofs.lemmas.List.{get_or_default, get_or_past}
use Rattle.model_steps.specs.Limits.{ballots, instances}
use Rattle.model_owners.specs.Owners.{owner}
use Rattle.model_protocol.specs.declared.AcceptorSlot.{AcceptorSlot}
use Rattle.model_protocol.specs.declared.World.{World}
use Rattle.finish_list.specs.Found.{BallotIs}
use Rattle.model_protocol.specs.World.{empty_slot, slot_of}
use Rattle.model_finish.specs.Choice.{highest_promised, lowest_own, own_from}

module _ (c b : ℕ) (h : b < ballots) where
  one_more : ballots - b ≡ suc (ballots - (b + 1))
  one_more = omega arith

  pub own_found : {o : ℕ} → o ≡ owner (b + 1) → o ≡ c → b + 1 ≡ lowest_own c b
  unfolding own_from
  own_found e k = let m : owner (suc b) ≡ c = ap owner (sym (add-one b)) ∙ sym e ∙ k in rw (one_more, eq-eqb (owner (suc b)) c m) (add-one b)

  pub own_next : {o : ℕ} → o ≡ owner (b + 1) → (o ≡ c → ⊥) → lowest_own c b ≡ lowest_own c (b + 1)
  unfolding own_from
  own_next e k =
      rw (one_more, ne_eqb (owner (suc b)) c (λ (m : owner (suc b) ≡ c). k (e ∙ ap owner (add-one b) ∙ m)))
      (ap (λ (x : ℕ). own_from c (suc x) (ballots - (b + 1))) (sym (add-one b)))

pub none_own : (c b : ℕ) → ballots ≤ b → 0 ≡ lowest_own c b
unfolding own_from
none_own c b h = let e : ballots - b ≡ 0 = omega arith in rw e

pub found_ballot : {x b : ℕ} → x ≡ b → 0 < x → BallotIs (Some x) b
found_ballot e h = (e, rw e at h)

-- ---- the promises of an instance

pub none_promised : (w : World) (i : ℕ) → 0 ≡ highest_promised w i 0
unfolding highest_promised
none_promised w i = refl

pub one_promised : (w : World) (i a : ℕ) {h r : ℕ} {s : AcceptorSlot} (d : AcceptorSlot) → s ≡ get_or w.slots (a * instances + i) d → h ≡ highest_promised w i a → r ≡ max h s.promised
    → a * instances + i < length w.slots → r ≡ highest_promised w i (a + 1)
unfolding highest_promised
one_promised w i a {h} {r} {s} d f e k m =
    k
    ∙ (λ n. max (e n) ((f ∙ get_or_default w.slots (a * instances + i) d empty_slot m) n).promised)
    ∙ ap (highest_promised w i) (sym (add-one a))

-- an acceptor without a slot promised nothing
pub no_slot : (w : World) (i a : ℕ) {h : ℕ} → h ≡ highest_promised w i a → length w.slots ≤ a * instances + i → h ≡ highest_promised w i (a + 1)
unfolding highest_promised
no_slot w i a {h} e m =
    let none : slot_of w a i ≡ empty_slot = get_or_past w.slots (a * instances + i) empty_slot m in
    sym (max-zero h)
    ∙ (λ n. max (e n) (sym none n).promised)
    ∙ ap (highest_promised w i) (sym (add-one a))
