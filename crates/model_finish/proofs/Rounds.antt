-- A round when a promise is heard: what it keeps, and the highest accepted pair so far. And the
-- instance after one was learned.
use Prim.Native.Nat.{ℕ, suc, ◌+◌, ◌≤◌, ◌<◌}
use native.Mathlib.Decide.{ℕ_discrete}
use native.Mathlib.Omega.{arith}
use mathlib.Core.Bool.{Bool, true, false, cond}
use mathlib.Core.Logic.{◌⊎◌, inl, inr}
use mathlib.Core.Path.{◌≡◌, refl, subst, sym}
use borrow.Author.Tests.{ltb-false, ltb-true}
use lib.Dec.{ltb}
use Rattle.log_entry.specs.Bits.{with}
use Rattle.model_steps.specs.Limits.{instances}
use Rattle.model_protocol.specs.Batch.{Batch}
use Rattle.model_protocol.specs.declared.Coordinator.{Coordinator}
use Rattle.model_protocol.specs.declared.Round.{Round}
use Rattle.model_protocol.specs.Coordinator.{hearing, is_proposed, learning, promise_heard}

-- what a round keeps when a promise of a is heard
pub record AfterPromise (r : Round) (a : ℕ) (q : Round) : Type 0 where
  pub ballot : q.ballot ≡ r.ballot
  pub promises : q.promises ≡ with r.promises a
  pub proposed : is_proposed q ≡ is_proposed r
  pub acceptances : q.acceptances ≡ r.acceptances

pub after_promise : (r : Round) (a d : ℕ) (v : Batch) → AfterPromise r a (promise_heard r a d v)
unfolding promise_heard
after_promise r a d v = go (ltb r.accepted d)
  where
    go : (t : Bool) → AfterPromise r a (cond t (hearing r a d v) (hearing r a r.accepted r.batch))
    go true = record { ballot = refl; promises = refl; proposed = refl; acceptances = refl }
    go false = record { ballot = refl; promises = refl; proposed = refl; acceptances = refl }

-- Of the first k promises, with these ballots and batches, the round has the highest accepted
-- ballot and its batch. The ballot is 0 if none carries one.
pub record Highest (ballots : ℕ → ℕ) (batches : ℕ → Batch) (k : ℕ) (r : Round) : Type 0 where
  pub most : (j : ℕ) → j < k → ballots j ≤ r.accepted
  pub from : (r.accepted ≡ 0) ⊎ ((j : ℕ) × (j < k) × (r.accepted ≡ ballots j) × (r.batch ≡ batches j))

module _ {ballots : ℕ → ℕ} {batches : ℕ → Batch} where
  pub highest_none : (r : Round) → r.accepted ≡ 0 → Highest ballots batches 0 r
  highest_none r e = record { most = λ j h. absurd (omega arith); from = inl e }

  pub highest_on : (k : ℕ) (r : Round) (a : ℕ) → Highest ballots batches k r
      → Highest ballots batches (suc k) (promise_heard r a (ballots k) (batches k))
  unfolding promise_heard
  highest_on k r a h = go (ltb r.accepted (ballots k)) refl
    where
      -- the promise of place k, or an earlier one
      each : (d : ℕ) → ballots k ≤ d → r.accepted ≤ d → (j : ℕ) → j < suc k → ballots j ≤ d
      each d here before j l = elim (ℕ_discrete j k) [
        | yes e ↦ subst (λ (x : ℕ). ballots x ≤ d) (sym e) here
        | no e ↦ omega (arith, h.most j (omega arith))
      ]

      go : (t : Bool) → ltb r.accepted (ballots k) ≡ t
          → Highest ballots batches (suc k) (cond t (hearing r a (ballots k) (batches k)) (hearing r a r.accepted r.batch))
      go true e = record {
        most = each (ballots k) (omega arith) (omega (arith, ltb-true r.accepted (ballots k) e));
        from = inr (k, omega arith, refl, refl);
      }
      go false e = record {
        most = each r.accepted (omega (arith, ltb-false r.accepted (ballots k) e)) (omega arith);
        from = elim h.from [
          | inl z ↦ inl z
          | inr z ↦ inr (z.0, omega (arith, z.1), z.2, z.3)
        ];
      }

pub learning_applies : (x : Coordinator) (i : ℕ) → x.applied ≡ i → i < instances → (learning x).applied ≡ i + 1
unfolding learning
learning_applies x i e h = omega arith
