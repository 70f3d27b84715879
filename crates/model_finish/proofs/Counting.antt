-- The sets of those acceptors that answered: u k is the one that answers as number k, of n.
use Prim.Native.Nat.{ℕ, suc, ◌/◌, ◌^◌, ◌<◌}
use native.Mathlib.Omega.{arith}
use mathlib.Core.Bool.{true, false}
use mathlib.Core.Logic.{◌⊎◌, inl, inr, ◌≢◌}
use mathlib.Core.Path.{◌≡◌, ap, refl, ◌∙◌}
use borrow.Author.Tests.{le-ltb, lt-ltb}
use lib.Count.{ones}
use Rattle.log_entry.specs.Bits.{with}
use Rattle.model_paxos.specs.Majority.{Majority, majority}
use Rattle.model_paxos.specs.Rules.{Has}
use Rattle.model_paxos.proofs.Sets.{has_with, has_zero, majority→, ones_with, with_lt}
use Rattle.model_finish.specs.Such.{quorum}

module _ (u : ℕ → ℕ) (n : ℕ) where
  -- the set has the first k acceptors that answer, and no others
  pub record Counted (q k : ℕ) : Type 0 where
    pub size : ones q ≡ k
    pub small : q < 2 ^ n
    pub only : (a : ℕ) → Has q a → (j : ℕ) × (j < k) × (u j ≡ a)

  pub none_yet : Counted 0 0
  unfolding ones
  none_yet = record { size = refl; small = none_small n; only = λ a h. absurd (has_zero a h) }
    where
      none_small : (n : ℕ) → 0 < 2 ^ n
      none_small ℕ.zero = omega arith
      none_small (suc n) = omega (arith, none_small n)

  pub one_more : (q k : ℕ) → u k < n → ((j : ℕ) → j < k → u j ≢ u k) → Counted q k → Counted (with q (u k)) (suc k)
  one_more q k l distinct p = record {
    size = ones_with n (u k) q l p.small new ∙ ap suc p.size;
    small = with_lt n (u k) q l p.small;
    only = λ a h. which a (has_with (u k) a q h);
  }
    where
      new : Has q (u k) → ⊥
      new h = let j = p.only (u k) h in distinct j.0 j.1 j.2

      which : (a : ℕ) → (u k ≡ a) ⊎ Has q a → (j : ℕ) × (j < suc k) × (u j ≡ a)
      which a (inl e) = (k, omega arith, e)
      which a (inr h) = let j = p.only a h in (j.0, omega (arith, j.1), j.2)

  -- fewer than m are no majority, and m are one
  pub too_few : (q k : ℕ) → Counted q k → k < quorum n → majority n q ≡ false
  too_few q k p h = le-ltb (n / 2) (ones q) (omega (arith, p.size))

  pub enough : (q : ℕ) → Counted q (quorum n) → majority n q ≡ true
  enough q p = lt-ltb (n / 2) (ones q) (omega (arith, p.size))

  pub is_majority : (q : ℕ) → Counted q (quorum n) → Majority n q
  is_majority q p = majority→ n q p.small (rw (enough q p) tt)
