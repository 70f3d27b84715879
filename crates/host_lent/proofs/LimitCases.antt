-- The table of limits, by computation.
use mathlib.Core.Path.{refl}
use Rattle.host_lent.specs.LimitCases.{LimitCasesHold}

pub limit_cases_hold : LimitCasesHold
limit_cases_hold = refl
