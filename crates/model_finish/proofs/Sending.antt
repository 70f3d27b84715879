-- The messages of a world after one was sent to each acceptor.
use Prim.Native.Nat.{ℕ, suc, ◌+◌, ◌≤◌, ◌<◌}
use native.Mathlib.Decide.{ℕ_discrete}
use native.Mathlib.Omega.{arith}
use mathlib.Core.Path.{◌≡◌, refl, subst, sym, ◌∙◌}
use lib.ListN.{get_or, length, length-set}
use lib.Seq.{get_or-set_other, get_or-set_same}
use Rattle.model_protocol.specs.declared.Message.{Message}
use Rattle.model_protocol.specs.Message.{no_message}
use Rattle.model_agreement.proofs.SentMessages.{Outbox, filled}

abbrev message_in : Outbox → ℕ → Message
message_in ms j = get_or ms.messages j no_message

module _ (ms : Outbox) (k : ℕ) (f : ℕ → Message) where
  filled_length : (n : ℕ) → length (filled ms k n f).messages ≡ length ms.messages
  filled_length ℕ.zero = refl
  filled_length (suc n) = length-set (filled ms k n f).messages (k + n) (f n) ∙ filled_length n

  -- those to the acceptors stand behind what was sent before, by acceptor
  pub filled_new : (n a : ℕ) → k + n ≤ length ms.messages → a < n → message_in (filled ms k n f) (k + a) ≡ f a
  filled_new ℕ.zero a room h = absurd (omega arith)
  filled_new (suc n) a room h = go (ℕ_discrete a n) (filled_new n a (omega arith))
    where
      go : Dec (a ≡ n) → (a < n → message_in (filled ms k n f) (k + a) ≡ f a) → message_in (filled ms k (suc n) f) (k + a) ≡ f a
      go (yes e) older =
          subst (λ (x : ℕ). message_in (filled ms k (suc n) f) (k + x) ≡ f x) (sym e)
          (get_or-set_same (filled ms k n f).messages (k + n) (f n) no_message (omega (arith, filled_length n)))
      go (no e) older = get_or-set_other (filled ms k n f).messages (k + n) (k + a) (f n) no_message (omega arith) ∙ older (omega arith)

  -- and what was sent before stays
  pub filled_old : (n j : ℕ) → j < k → message_in (filled ms k n f) j ≡ message_in ms j
  filled_old ℕ.zero j h = refl
  filled_old (suc n) j h = get_or-set_other (filled ms k n f).messages (k + n) j (f n) no_message (omega arith) ∙ filled_old n j h

  pub filled_replays : (n : ℕ) → (filled ms k n f).replays ≡ ms.replays
  filled_replays ℕ.zero = refl
  filled_replays (suc n) = filled_replays n
