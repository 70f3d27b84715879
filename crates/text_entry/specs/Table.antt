-- Lines of several kinds, and what the reader answers to a line.
use Rattle.std.specs.Prelude.{ℕ, Bool, false, ◌||◌, cond, List, [], ◌∷◌, leb, get_or}
use Rattle.std.proofs.Math.Option.{Option, none, some}
use Rattle.text_ascii.specs.Decimal.{byte_numbers}
use Rattle.text_entry.specs.Fields.{Kind}
use Rattle.text_entry.specs.Read.{read_kind}

abbrev pub at : List ℕ → ℕ → ℕ
at vs i = get_or vs i 0

-- a kind of line, and what a line of the kind with these values stands for
pub record Reader (A : Type 0) : Type 0 where
  pub kind : Kind
  pub build : List ℕ → A

abbrev pub reader : {A : Type 0} → Kind → (List ℕ → A) → Reader A
reader k f = record { kind = k; build = f }

abbrev pub made : {A : Type 0} → (List ℕ → A) → Option (List ℕ) → Option A
made f none = none
made f (some vs) = some (f vs)

abbrev pub or_else : {A : Type 0} → Option A → Option A → Option A
or_else none other = other
or_else (some a) other = some a

-- what a line reads as, taken for one of the reader's kind
abbrev pub read_as : {A : Type 0} → Reader A → List ℕ → Option A
read_as r s = made r.build (read_kind r.kind s)

-- the kinds are tried in turn
unfoldable pub read_first : {A : Type 0} → List (Reader A) → List ℕ → Option A
read_first [] s = none
read_first (r ∷ rs) s = or_else (read_as r s) (read_first rs s)

-- a number that no byte holds; it is outside every limit of a decimal
abbrev pub no_byte : ℕ → Bool
no_byte n = leb byte_numbers n

abbrev pub any_beyond : List ℕ → Bool
any_beyond [] = false
any_beyond (n ∷ ns) = no_byte n || any_beyond ns

-- the answer to what a line reads as: that it is outside its limits where a number is beyond a byte
abbrev pub answer_of : {A R : Type 0} → (A → Bool) → (A → R) → R → R → Option A → R
answer_of beyond read outside unreadable none = unreadable
answer_of beyond read outside unreadable (some a) = cond (beyond a) outside (read a)
