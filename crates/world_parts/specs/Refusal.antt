-- The refusals of a step in the order in which they are tried, its numbers being within their
-- limits.
use Rattle.std.specs.Prelude.{Bool, [], ◌∷◌}
use Rattle.log_entry.specs.Number.{Answer}
use Rattle.log_entry.specs.Refusal.{check, first_refusal, ill_formed_vote, no_place, not_met, not_sent_yet, party_down}
use Rattle.world_parts.specs.declared.refusal.Tests.{Tests}

abbrev pub tests : Bool → Bool → Bool → Bool → Bool → Tests
tests unsent down unmet full ill = record { unsent = unsent; down = down; unmet = unmet; full = full; ill = ill }

-- the first of refusals 4, 3, 5, 6 and 7 whose condition holds
abbrev pub first_of : Tests → Answer
first_of t =
    first_refusal
    (check not_sent_yet t.unsent
    ∷ check party_down t.down
    ∷ check not_met t.unmet
    ∷ check no_place t.full
    ∷ check ill_formed_vote t.ill
    ∷ [])
