-- The messages of the ballots among those sent, as a list.
use Prim.Native.Nat.{ℕ, zero, suc}
use mathlib.Core.Path.{◌≡◌, refl, sym, subst, ◌∙◌}
use mathlib.Core.Logic.{◌⊎◌, inl, inr}
use mathlib.Core.List.Memᴰ
use mathlib.Core.List.{List, [], ◌∷◌, Memᴰ}
use native.Mathlib.Decide.{ℕ_discrete}
use native.Mathlib.Omega.{arith}
use Rattle.model_paxos.specs.Messages.{Paxos}
use Rattle.model_protocol.specs.Batch.{Batch}
use Rattle.model_agreement.specs.Content.{Content, follow, paxos, request, restore, tell}
use Rattle.model_agreement.proofs.BallotInvariant.{Said, said_at}
use Rattle.model_agreement.proofs.SentMessages.{Outbox, content_in}

abbrev add : Content → List (Paxos Batch) → List (Paxos Batch)
add (paxos m) l = m ∷ l
add (request k e) l = l
add (tell p t o) l = l
add (restore p t s i r n) l = l
add (follow p s t o u) l = l

-- those among the first k
abbrev pub collected : Outbox → ℕ → List (Paxos Batch)
collected ms zero = []
collected ms (suc k) = add (content_in ms k) (collected ms k)

pub is_collected : (ms : Outbox) (k : ℕ) (m : Paxos Batch) → Said ms k m → Memᴰ m (collected ms k)
is_collected ms zero m s = absurd (omega (arith, s.sent.at.below))
is_collected ms (suc k) m s = go (is_collected ms k m) (ℕ_discrete s.sent.number k)
  where
    skip : (x : Content) → Memᴰ m (collected ms k) → Memᴰ m (add x (collected ms k))
    skip (paxos x) t = Memᴰ.tail t
    skip (request j e) t = t
    skip (tell p t o) t' = t'
    skip (restore p q z i r n) t = t
    skip (follow p z t o u) t' = t'

    go : (Said ms k m → Memᴰ m (collected ms k)) → Dec (s.sent.number ≡ k) → Memᴰ m (collected ms (suc k))
    go r (yes e) =
        let d : content_in ms k ≡ paxos m = rw e at s.sent.at.is in
        subst (λ x. Memᴰ m (add x (collected ms k))) (sym d) (Memᴰ.head refl)
    go r (no e) =
        skip (content_in ms k) (r (said_at (record { below = omega (arith, s.sent.at.below); is = s.sent.at.is })))

pub was_said : (ms : Outbox) (k : ℕ) (m : Paxos Batch) → Memᴰ m (collected ms k) → Said ms k m
was_said ms zero m t = absurd (Memᴰ.not-nil t)
was_said ms (suc k) m t = go (content_in ms k) refl (was_said ms k m) t
  where
    older : Said ms k m → Said ms (suc k) m
    older s = said_at (record { below = omega (arith, s.sent.at.below); is = s.sent.at.is })

    go : (x : Content) → content_in ms k ≡ x → (Memᴰ m (collected ms k) → Said ms k m)
        → Memᴰ m (add x (collected ms k)) → Said ms (suc k) m
    go (paxos x) e r t = two (Memᴰ.cases_cons t)
      where
        two : (m ≡ x) ⊎ Memᴰ m (collected ms k) → Said ms (suc k) m
        two (inl d) = said_at (record { below = omega arith; is = e ∙ (let z : paxos x ≡ paxos m = cc in z) })
        two (inr u) = older (r u)
    go (request j y) e r t = older (r t)
    go (tell p z o) e r t = older (r t)
    go (restore p q z i y n) e r t = older (r t)
    go (follow p z x o u) e r t = older (r t)
