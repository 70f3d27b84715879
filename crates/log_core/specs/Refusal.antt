-- The refusals of a take, 11 and 12, in the order in which they are tried.
use Rattle.std.specs.Prelude.{ℕ, Bool, ◌&&◌, ◌||◌, not, List, [], ◌∷◌, eqb, ltb}
use Rattle.log_entry.specs.declared.Entry.{Entry}
use Rattle.log_entry.specs.Bits.{has}
use Rattle.log_entry.specs.Refusal as refusal
use Rattle.log_entry.specs.Refusal.{Check, check}
use Rattle.log_votes.specs.Scan.{any_from}

-- the holder of store s is the process, and it is another store
abbrev pub is_other : ℕ → ℕ → ℕ → ℕ → Bool
is_other process store s holder = eqb holder process && not (eqb s store)

-- 11: "it holds another store now"
abbrev pub holds_another : List ℕ → ℕ → ℕ → Bool
holds_another holders process store = any_from (is_other process store) 0 holders

-- 12: "a take whose turn is below the last accepted one of that process, or equal to it where the
-- process holds or held that store". The set has those that took the store, the present holder too
unfoldable pub wrong_turn : ℕ → ℕ → Entry → Bool
wrong_turn takers latest e = ltb e.turn latest || eqb e.turn latest && has takers e.process

-- of a take, by the holders, the set of those that took its store, and the turn of its process's
-- last accepted take
abbrev pub take_checks : List ℕ → ℕ → ℕ → Entry → List Check
take_checks holders takers latest e =
    check refusal.holds_another (holds_another holders e.process e.store)
    ∷ check refusal.wrong_turn (wrong_turn takers latest e)
    ∷ []
