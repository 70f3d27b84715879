-- "8 or 3 stores, else 2": a table of limits, and whether each is none.
use Rattle.std.specs.Prelude.{ℕ, ◌≡◌, true, false, List, [], ◌∷◌, map}
use Rattle.host_lent.specs.Lent.{no_limit}

-- both limits; their neighbours; numbers with the same low byte, and with the same low half
abbrev limits : List ℕ
limits = 3 ∷ 8 ∷ 0 ∷ 1 ∷ 2 ∷ 4 ∷ 7 ∷ 9 ∷ 11 ∷ 259 ∷ 264 ∷ 0x10003 ∷ 0x10008 ∷ 0xffffffff ∷ []

abbrev pub LimitCasesHold : Type 0
LimitCasesHold =
    map no_limit limits
    ≡ false ∷ false ∷ true ∷ true ∷ true ∷ true ∷ true ∷ true ∷ true ∷ true ∷ true ∷ true ∷ true ∷ true ∷ []
