-- The acceptors that are up, found one after the other.
use Prim.Native.Nat.{ℕ, ◌+◌}
use mathlib.Core.Bool.{true, false}
use mathlib.Core.List.{[], ◌∷◌, ◌++◌, append-nil}
use mathlib.Core.Path.{◌≡◌, refl}
use native.Mathlib.Numerals.{add-one}
use Rattle.model_steps.specs.declared.Role.TheVariants.{Acceptor}
use Rattle.model_protocol.specs.declared.Down.{Down}
use Rattle.model_protocol.specs.World.{is_down}
use Rattle.model_finish.specs.Such.{up_below}

pub none_below : (d : Down) → [] ≡ up_below d 0
unfolding up_below
none_below d = refl

module _ (d : Down) (a : ℕ) where
  pub down_passed : is_down d Acceptor a ≡ true → up_below d a ≡ up_below d (a + 1)
  unfolding up_below
  down_passed k = rw (add-one a, k, append-nil)

  pub up_found : is_down d Acceptor a ≡ false → up_below d a ++ a ∷ [] ≡ up_below d (a + 1)
  unfolding up_below
  up_found k = rw (add-one a, k)
