-- Majorities of small sets, by computation.
use mathlib.Core.Path.{◌≡◌, refl}
use mathlib.Core.Bool.{true, false}
use mathlib.Core.List.{[], ◌∷◌, map}
use lib.Count.{ones, ones_in}
use Rattle.model_paxos.specs.Majority.{majority}

-- two of three, and not one
pub of_three : map (majority 3) (0b000 ∷ 0b001 ∷ 0b100 ∷ 0b011 ∷ 0b101 ∷ 0b110 ∷ 0b111 ∷ [])
    ≡ false ∷ false ∷ false ∷ true ∷ true ∷ true ∷ true ∷ []
unfolding ones ones_in
of_three = refl

-- three of five, and not two
pub of_five_lem : map (majority 5) (0b00001 ∷ 0b10001 ∷ 0b11000 ∷ 0b00111 ∷ 0b10101 ∷ 0b11100 ∷ 0b11111 ∷ [])
    ≡ false ∷ false ∷ false ∷ true ∷ true ∷ true ∷ true ∷ []
unfolding ones ones_in
of_five_lem = refl
