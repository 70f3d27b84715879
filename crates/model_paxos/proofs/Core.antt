-- At most one value is chosen in an instance.
use Prim.Native.Nat.{ℕ, zero, suc, ◌≤◌, ◌<◌}
use mathlib.Core.Path.{◌≡◌, sym}
use mathlib.Core.Logic.{◌⊎◌, inl, inr}
use native.Mathlib.Decide.{dec_le, ℕ_discrete}
use native.Mathlib.Omega.{arith}
use Rattle.model_paxos.specs.Messages.{Paxos, accept}
use Rattle.model_paxos.specs.Rules.{Chosen, ChosenAgree, Core, Why}
use Rattle.model_paxos.proofs.Sets.{meet}

module _ {X : Type 0} {n : ℕ} {S : Paxos X → Type 0} (C : Core n S) where
  -- from a ballot above a chosen one down to one that is not below it, with the same value
  down : {i b c a : ℕ} {v w : X} → Chosen n S i b v → S (accept i c a w) → b < c → (d x : ℕ) × S (accept i d x w) × (b ≤ d) × (d < c)
  down {i} {b} {c} {a} {v} {w} ch s g = end y.same
    where
      y : Why n S i c w
      y = C.why s

      f : b ≤ y.from
      f =
          let m = meet n ch.set y.set ch.most y.most in
          let p = y.heard m.0 m.2 in
          omega (arith, C.last p.2 (ch.all m.0 m.1) g, p.3)

      end : (y.from ≡ 0) ⊎ ((x : ℕ) × S (accept i y.from x w)) → (d x : ℕ) × S (accept i d x w) × (b ≤ d) × (d < c)
      end (inl z) = absurd (omega (arith, C.positive ch.asked, f))
      end (inr t) = (y.from, t.0, t.1, f, y.below)

  -- what is proposed above a chosen ballot is the chosen value; by recursion on a bound of the
  -- ballot
  safe : (k : ℕ) {i b c a : ℕ} {v w : X} → c ≤ k → Chosen n S i b v → S (accept i c a w) → b ≤ c → v ≡ w
  safe zero h ch s g = absurd (omega (arith, C.positive s))
  safe (suc k) {i} {b} {c} {a} {v} {w} h ch s g = go (λ d x e s' g'. safe k e ch s' g') (ℕ_discrete b c)
    where
      go : ((d x : ℕ) → d ≤ k → S (accept i d x w) → b ≤ d → v ≡ w) → Dec (b ≡ c) → v ≡ w
      go f (yes e) = C.one (rw e at ch.asked) s
      go f (no e) = let t = down ch s (omega arith) in f t.0 t.1 (omega arith) t.2 t.3

pub chosen_agree : ChosenAgree
chosen_agree X n S C i b c v w x y = go (dec_le b c)
  where
    go : Dec (b ≤ c) → v ≡ w
    go (yes h) = safe C c (omega arith) x y.asked h
    go (no h) = sym (safe C b (omega arith) y x.asked (omega arith))
