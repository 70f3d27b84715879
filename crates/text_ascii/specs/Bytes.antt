-- Texts as bytes.
use Rattle.std.specs.Prelude.{ℕ, Bool, true, false, ◌&&◌, List, [], ◌∷◌, eqb}
use Prim.Native.Char.{code}
use Prim.Native.String.{String}

-- the bytes of a text of ASCII characters
abbrev pub ascii : String → List ℕ
ascii String.[] = []
ascii (String.◌∷◌ c s) = code c ∷ ascii s

-- the bytes begin with the word
unfoldable pub begins : List ℕ → List ℕ → Bool
begins s [] = true
begins [] (w ∷ ws) = false
begins (c ∷ s) (w ∷ ws) = eqb c w && begins s ws
