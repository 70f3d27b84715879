-- What the code has as an option, where the definitions say ballot 0 for none.
use Rattle.std.specs.Prelude.{ℕ, ◌<◌, ◌≡◌, Option, None, Some}
use Rattle.model_finish.specs.declared.Choice.{Choice}
use Rattle.model_finish.specs.Choice.{chosen}

-- the ballot, if it is one
abbrev pub BallotIs : Option ℕ → ℕ → Type 0
BallotIs None b = b ≡ 0
BallotIs (Some x) b = (x ≡ b) × (0 < b)

-- the choice, if it has a ballot
abbrev pub ChoiceIs : Option Choice → Choice → Type 0
ChoiceIs None c = c ≡ chosen 0 0
ChoiceIs (Some x) c = (x ≡ c) × (0 < c.ballot)
