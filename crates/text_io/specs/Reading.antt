-- What is known of an input that was read piece by piece: the pieces in order, and why the reading
-- ended.
use Rattle.std.specs.Prelude.{ℕ, ◌+◌, ◌^◌, Bool, true, List, [], ◌∷◌, Option, ◌⊎◌, ◌≡◌, length}
use Rattle.std.specs.Io.KnownBytes.{Consumes}
use Rattle.text_lines.specs.declared.Line.{Line}
use Rattle.text_lines.specs.Feed.{Fed, fed as fed_piece, fed_all, fresh, joined, state_of}
use Rattle.text_io.specs.declared.Reading.{Reading}

-- the reading ends after this many pieces
abbrev pub max_pieces : ℕ
max_pieces = 2 ^ 63

-- the last piece; no bytes if there is none
unfoldable pub last_piece : List (List ℕ) → List ℕ
last_piece [] = []
last_piece (p ∷ []) = p
last_piece (p ∷ q ∷ ps) = last_piece (q ∷ ps)

-- The machine was fed `pieces` pieces in the order in which they were read, the last of `last`
-- bytes.
pub record Given {S : Type 0} (over : S → Bool) (step : S → Line → S) (first : S) (f : Fed S) (pieces last : ℕ) : Type 0 where
  pub given : List (List ℕ)
  pub fed : f ≡ fed_all over step (fresh first) given
  pub count : pieces ≡ length given
  pub bytes : last ≡ length (last_piece given)

-- Fed `before` pieces it was f; fed one more, of `last` bytes, it is g.
pub record OneMore {S : Type 0} (over : S → Bool) (step : S → Line → S) (f g : Fed S) (before pieces last : ℕ) : Type 0 where
  pub piece : List ℕ
  pub fed : g ≡ fed_piece over step f piece
  pub count : pieces ≡ before + 1
  pub bytes : last ≡ length piece

-- It was fed all that there was to read: the last piece is empty, line 1,001 has been read, or
-- `max_pieces` were read.
pub record ReadAll {S : Type 0} (over : S → Bool) (step : S → Line → S) (first : S) (f : Fed S) (pieces last : ℕ) : Type 0 where
  pub reading : Given over step first f pieces last
  pub ended : (last ≡ 0) ⊎ (over f.state ≡ true) ⊎ (pieces ≡ max_pieces)

-- all bytes that were read, in order
abbrev pub bytes_read : {S : Type 0} {over : S → Bool} {step : S → Line → S} {first : S} {f : Fed S} {pieces last : ℕ} → ReadAll over step first f pieces last → List ℕ
bytes_read r = joined r.reading.given

-- Of a reader whose bytes are known: the piece is what it gave. It has `left` before, and `rest`
-- after.
abbrev pub OneMoreOf : {S : Type 0} (over : S → Bool) (step : S → Line → S) (f g : Fed S) (before pieces last : ℕ) (left rest : Option (List ℕ)) → Type 0
OneMoreOf over step f g before pieces last left rest = (more : OneMore over step f g before pieces last) × Consumes left rest more.piece

-- and so is all that was read, byte by byte: none is lost, and none read twice
abbrev pub ReadAllOf : {S : Type 0} (over : S → Bool) (step : S → Line → S) (first : S) (f : Fed S) (pieces last : ℕ) (left rest : Option (List ℕ)) → Type 0
ReadAllOf over step first f pieces last left rest = (read : ReadAll over step first f pieces last) × Consumes left rest (bytes_read read)

-- The same of a reading whose sessions are S, where `state` is the state that a session stands for.
module _ {S T : Type 0} (state : S → T) (over : T → Bool) (step : T → Line → T) where
  -- the reading after one more piece
  abbrev pub More : Reading S → Reading S → Type 0
  More b a = OneMore over step (state_of state b.input) (state_of state a.input) b.pieces a.pieces a.last

  -- and the piece is what a reader gave that has `left` before, and `rest` after
  abbrev pub MoreOf : Option (List ℕ) → Option (List ℕ) → Reading S → Reading S → Type 0
  MoreOf left rest b a = OneMoreOf over step (state_of state b.input) (state_of state a.input) b.pieces a.pieces a.last left rest

  module _ (first : T) where
    -- pieces were read in order, up to the end of the input or to line 1,001
    abbrev pub WasRead : Reading S → Type 0
    WasRead r = ReadAll over step first (state_of state r.input) r.pieces r.last

    -- and their bytes are what a reader gave that has `left` before, and `rest` after
    abbrev pub WasReadOf : Option (List ℕ) → Option (List ℕ) → Reading S → Type 0
    WasReadOf left rest r = ReadAllOf over step first (state_of state r.input) r.pieces r.last left rest
