-- The number of a store that may be none, as the definitions of the model have it.
use Rattle.std.specs.Prelude.{ℕ, Option, None, Some}
use Rattle.log_entry.specs.Limits.{stores}

-- one past the last store if none
abbrev pub store_number : Option ℕ → ℕ
store_number None = stores
store_number (Some s) = s
