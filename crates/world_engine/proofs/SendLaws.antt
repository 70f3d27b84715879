-- Messages sent one after the other.
use Prim.Native.Nat.{ℕ, suc, ◌+◌}
use mathlib.Core.Path.{◌≡◌, refl}
use native.Mathlib.Numerals.{add-one}
use Rattle.model_protocol.specs.declared.Message.{Message}
use Rattle.model_protocol.specs.declared.World.{World}
use Rattle.model_protocol.specs.Send.{addressed, copy_of, send_to_all}
use Rattle.model_protocol.specs.World.{with_message}

pub first_copy : (m : Message) (i : ℕ) → i ≡ 0 → m ≡ copy_of m i
unfolding copy_of
first_copy m i h = rw h

pub later_copy : (m : Message) (i : ℕ) → (i ≡ 0 → ⊥) → addressed m i ≡ copy_of m i
unfolding copy_of
later_copy m ℕ.zero h = absurd (h refl)
later_copy m (suc i) h = refl

pub none_sent : (w : World) (f : ℕ → Message) → w ≡ send_to_all w 0 f
unfolding send_to_all
none_sent w f = refl

pub one_sent : (w : World) (f : ℕ → Message) (i : ℕ) → with_message (send_to_all w i f) (f i) ≡ send_to_all w (i + 1) f
unfolding send_to_all
one_sent w f i = rw (add-one i)
