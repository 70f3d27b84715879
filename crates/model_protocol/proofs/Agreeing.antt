-- Lists of steps at whose end two coordinators have applied one instance: their logs say the same,
-- each time for another reason.
use Prim.Native.Nat.{ℕ}
use mathlib.Core.Path.{◌≡◌, refl}
use mathlib.Core.List.{List, [], ◌∷◌}
use Rattle.log_entry.specs.Entry.{take_entry}
use Rattle.model_steps.specs.declared.Step.{Step}
use Rattle.model_steps.specs.declared.Step.TheVariants.{Setup, Request, Open, Propose, Deliver}
use Rattle.model_protocol.specs.declared.World.{World}
use Rattle.model_protocol.specs.World.{coordinator_of, log_of}
use Rattle.model_protocol.proofs.Compute.{computed}

abbrev holders_by : ℕ → List ℕ
holders_by p = p ∷ 0 ∷ 0 ∷ 0 ∷ 0 ∷ 0 ∷ 0 ∷ 0 ∷ []

-- j and k have applied one instance, and by the logs of both process p holds store 0, and nobody
-- another one
abbrev Agree : World → ℕ → ℕ → ℕ → Type 0
Agree w j k p =
    ((coordinator_of w j).applied ≡ 1)
    × ((coordinator_of w k).applied ≡ 1)
    × ((log_of w j).holders ≡ holders_by p)
    × ((log_of w k).holders ≡ holders_by p)

-- ---- an accepted batch is proposed again

abbrev pub adopts : List Step
adopts =
    Setup 3
    -- coordinators 0 and 1 are sent different takes
    ∷ Request (take_entry 1 1 0) 0 ∷ Deliver 0 ∷ Request (take_entry 2 1 0) 1 ∷ Deliver 1
    -- 0 decides its own under ballot 3, by acceptors 0 and 1
    ∷ Open 0 0 3 ∷ Deliver 2 ∷ Deliver 3 ∷ Deliver 5 ∷ Deliver 6 ∷ Propose 0 0 3 ∷ Deliver 7 ∷ Deliver 8 ∷ Deliver 10 ∷ Deliver 11
    -- 1 opens ballot 4 with acceptors 1 and 2, hears of that batch and proposes it
    ∷ Open 1 0 4 ∷ Deliver 13 ∷ Deliver 14 ∷ Deliver 15 ∷ Deliver 16 ∷ Propose 1 0 4 ∷ Deliver 18 ∷ Deliver 19 ∷ Deliver 20 ∷ Deliver 21
    ∷ []

pub adopts_agree : Agree (computed adopts) 0 1 1
unfolding computed
adopts_agree = (refl, refl, refl, refl)

-- ---- the highest ballot counts, not the batch that most promises carry

abbrev pub highest : List Step
highest =
    Setup 5
    -- coordinators 0 and 1 are sent different takes
    ∷ Request (take_entry 1 1 0) 0 ∷ Deliver 0 ∷ Request (take_entry 2 1 0) 1 ∷ Deliver 1
    -- acceptors 0 and 1 accept that of 0 under ballot 3: no majority of five
    ∷ Open 0 0 3 ∷ Deliver 2 ∷ Deliver 3 ∷ Deliver 4 ∷ Deliver 7 ∷ Deliver 8 ∷ Deliver 9 ∷ Propose 0 0 3 ∷ Deliver 10 ∷ Deliver 11
    ∷ Deliver 15 ∷ Deliver 16
    -- acceptors 2, 3 and 4 accept that of 1 under ballot 4
    ∷ Open 1 0 4 ∷ Deliver 19 ∷ Deliver 20 ∷ Deliver 21 ∷ Deliver 22 ∷ Deliver 23 ∷ Deliver 24 ∷ Propose 1 0 4 ∷ Deliver 27 ∷ Deliver 28
    ∷ Deliver 29 ∷ Deliver 30 ∷ Deliver 31 ∷ Deliver 32
    -- 2 hears the promises of 0, 2 and 1 under ballot 5: the first and the last carry the batch of
    -- ballot 3
    ∷ Open 2 0 5 ∷ Deliver 33 ∷ Deliver 34 ∷ Deliver 35 ∷ Deliver 38 ∷ Deliver 40 ∷ Deliver 39 ∷ Propose 2 0 5 ∷ Deliver 41 ∷ Deliver 42
    ∷ Deliver 43 ∷ Deliver 46 ∷ Deliver 47 ∷ Deliver 48
    ∷ []

pub highest_agree : Agree (computed highest) 1 2 2
unfolding computed
highest_agree = (refl, refl, refl, refl)

-- ---- an acceptor that promised a ballot accepts none below it

abbrev pub below : List Step
below =
    Setup 3
    -- coordinators 0 and 1 are sent different takes
    ∷ Request (take_entry 1 1 0) 0 ∷ Deliver 0 ∷ Request (take_entry 2 1 0) 1 ∷ Deliver 1
    -- acceptors 0 and 1 promise ballot 3 to 0, and then ballot 4 to 1
    ∷ Open 0 0 3 ∷ Deliver 2 ∷ Deliver 3 ∷ Deliver 5 ∷ Deliver 6 ∷ Open 1 0 4 ∷ Deliver 7 ∷ Deliver 8 ∷ Deliver 10 ∷ Deliver 11
    -- 0 proposes under ballot 3, which nobody accepts any more
    ∷ Propose 0 0 3 ∷ Deliver 12 ∷ Deliver 13 ∷ Deliver 15 ∷ Deliver 16
    -- 1 decides its own under ballot 4
    ∷ Propose 1 0 4 ∷ Deliver 15 ∷ Deliver 16 ∷ Deliver 18 ∷ Deliver 19
    -- 0 opens ballot 6 and learns it
    ∷ Open 0 0 6 ∷ Deliver 20 ∷ Deliver 21 ∷ Deliver 23 ∷ Deliver 24 ∷ Propose 0 0 6 ∷ Deliver 25 ∷ Deliver 26 ∷ Deliver 28 ∷ Deliver 29
    ∷ []

pub below_agree : Agree (computed below) 0 1 2
unfolding computed
below_agree = (refl, refl, refl, refl)

-- ---- an acceptor is counted once

abbrev pub repeated : List Step
repeated =
    Setup 3
    -- coordinators 0 and 1 are sent different takes
    ∷ Request (take_entry 1 1 0) 0 ∷ Deliver 0 ∷ Request (take_entry 2 1 0) 1 ∷ Deliver 1
    -- acceptor 0 accepts the batch of 0 twice, and both acceptances are delivered
    ∷ Open 0 0 3 ∷ Deliver 2 ∷ Deliver 3 ∷ Deliver 5 ∷ Deliver 6 ∷ Propose 0 0 3 ∷ Deliver 7 ∷ Deliver 7 ∷ Deliver 10 ∷ Deliver 11
    -- 1 decides its own under ballot 4, by acceptors 1 and 2
    ∷ Open 1 0 4 ∷ Deliver 13 ∷ Deliver 14 ∷ Deliver 15 ∷ Deliver 16 ∷ Propose 1 0 4 ∷ Deliver 18 ∷ Deliver 19 ∷ Deliver 20 ∷ Deliver 21
    -- 0 opens ballot 6 and learns it
    ∷ Open 0 0 6 ∷ Deliver 23 ∷ Deliver 24 ∷ Deliver 25 ∷ Deliver 26 ∷ Propose 0 0 6 ∷ Deliver 28 ∷ Deliver 29 ∷ Deliver 30 ∷ Deliver 31
    ∷ []

pub repeated_agree : Agree (computed repeated) 0 1 2
unfolding computed
repeated_agree = (refl, refl, refl, refl)

-- ---- acceptances of an earlier ballot are passed over

abbrev pub late : List Step
late =
    Setup 3
    -- coordinators 0 and 1 are sent different takes
    ∷ Request (take_entry 1 1 0) 0 ∷ Deliver 0 ∷ Request (take_entry 2 1 0) 1 ∷ Deliver 1
    -- 0 decides its own under ballot 3, by acceptors 0 and 1
    ∷ Open 0 0 3 ∷ Deliver 2 ∷ Deliver 3 ∷ Deliver 5 ∷ Deliver 6 ∷ Propose 0 0 3 ∷ Deliver 7 ∷ Deliver 8
    -- it hears the acceptances of ballot 3 after it opened ballot 6
    ∷ Open 0 0 6 ∷ Deliver 10 ∷ Deliver 11
    -- it goes on with ballot 6, and 1 with ballot 7
    ∷ Deliver 12 ∷ Deliver 13 ∷ Deliver 15 ∷ Deliver 16 ∷ Propose 0 0 6 ∷ Deliver 17 ∷ Deliver 18 ∷ Deliver 20 ∷ Deliver 21 ∷ Open 1 0 7
    ∷ Deliver 23 ∷ Deliver 24 ∷ Deliver 25 ∷ Deliver 26 ∷ Propose 1 0 7 ∷ Deliver 28 ∷ Deliver 29 ∷ Deliver 30 ∷ Deliver 31
    ∷ []

pub late_agree : Agree (computed late) 0 1 1
unfolding computed
late_agree = (refl, refl, refl, refl)

-- ---- a ballot is opened once, and proposed under once

abbrev pub reopened : List Step
reopened =
    Setup 3
    -- 0 proposes a take under ballot 6, which acceptors 0 and 1 accept
    ∷ Request (take_entry 1 1 0) 0 ∷ Deliver 0 ∷ Open 0 0 6 ∷ Deliver 1 ∷ Deliver 2 ∷ Deliver 4 ∷ Deliver 5 ∷ Propose 0 0 6 ∷ Deliver 6
    ∷ Deliver 7
    -- it is sent another take, and may not open ballot 6 again to propose both
    ∷ Request (take_entry 2 1 1) 0 ∷ Deliver 11 ∷ Open 0 0 6 ∷ Deliver 4 ∷ Deliver 5 ∷ Propose 0 0 6 ∷ Deliver 16 ∷ Deliver 17 ∷ Deliver 18
    ∷ Deliver 19
    -- it hears that the first is accepted, and 1 learns it under ballot 7
    ∷ Deliver 9 ∷ Deliver 10 ∷ Open 1 0 7 ∷ Deliver 12 ∷ Deliver 13 ∷ Deliver 15 ∷ Deliver 16 ∷ Propose 1 0 7 ∷ Deliver 17 ∷ Deliver 18
    ∷ Deliver 20 ∷ Deliver 21
    ∷ []

pub reopened_agree : Agree (computed reopened) 0 1 1
unfolding computed
reopened_agree = (refl, refl, refl, refl)
