-- Lists of steps from the fresh world, and the list that closes one instance more, in the
-- documents' own numbers. Where it is empty, no coordinator is such.
use Rattle.std.specs.Prelude.{ℕ, suc, ◌+◌, ◌≡◌, List, [], ◌∷◌, ◌++◌}
use Rattle.log_entry.specs.Entry.{take_entry}
use Rattle.model_steps.specs.declared.Role.TheVariants.{Acceptor, Coord}
use Rattle.model_steps.specs.declared.Step.{Step}
use Rattle.model_steps.specs.declared.Step.TheVariants.{Crash, Deliver, Open, Propose, Request, Setup}
use Rattle.model_protocol.specs.Step.{run}
use Rattle.model_protocol.specs.World.{fresh_world}
use Rattle.model_finish.specs.Closing.{finishing}

pub record Case : Type 0 where
  pub steps : List Step
  pub list : List Step

infix 4 ◌finished_by◌
abbrev pub ◌finished_by◌ : List Step → List Step → Case
steps finished_by list = record { steps = steps; list = list }

-- the same steps with the lists that the definitions give
unfoldable pub as_defined : List Case → List Case
as_defined [] = []
as_defined (x ∷ xs) = (x.steps finished_by finishing (run fresh_world x.steps)) ∷ as_defined xs

abbrev pub Holds : List Case → Type 0
Holds table = as_defined table ≡ table

-- coordinator c opens k of its ballots in instance 0, from b on
abbrev openings : ℕ → ℕ → ℕ → List Step
openings c b ℕ.zero = []
openings c b (suc k) = Open c 0 b ∷ openings c (b + 3) k

-- A take of store 0 by process 1 is in the queue of coordinator c, message 0.
abbrev pub queued_at : ℕ → ℕ → List Step
queued_at acceptors c = Setup acceptors ∷ Request (take_entry 1 1 0) c ∷ Deliver 0 ∷ []

-- ---- who is such

unfoldable pub who_is_such : List Case
who_is_such =
    -- no setup; an empty queue
    ([] finished_by [])
    ∷ (Setup 3 ∷ [] finished_by [])
    -- "open, deliver m prepares, then their promises, propose, deliver m accepts, then their
    -- acceptances, each by acceptor": m is 2 of 3, 3 of 5
    ∷ (queued_at 3 0
    finished_by Open 0 0 3 ∷ Deliver 1 ∷ Deliver 2 ∷ Deliver 4 ∷ Deliver 5
    ∷ Propose 0 0 3 ∷ Deliver 6 ∷ Deliver 7 ∷ Deliver 9 ∷ Deliver 10 ∷ [])
    ∷ (queued_at 5 1
    finished_by Open 1 0 1 ∷ Deliver 1 ∷ Deliver 2 ∷ Deliver 3 ∷ Deliver 6 ∷ Deliver 7 ∷ Deliver 8
    ∷ Propose 1 0 1 ∷ Deliver 9 ∷ Deliver 10 ∷ Deliver 11 ∷ Deliver 14 ∷ Deliver 15 ∷ Deliver 16 ∷ [])
    -- "the lowest such coordinator": coordinator 0 has an entry too, and is down in the second
    ∷ (queued_at 3 1 ++ Request (take_entry 1 1 0) 0 ∷ Deliver 1 ∷ []
    finished_by Open 0 0 3 ∷ Deliver 2 ∷ Deliver 3 ∷ Deliver 5 ∷ Deliver 6
    ∷ Propose 0 0 3 ∷ Deliver 7 ∷ Deliver 8 ∷ Deliver 10 ∷ Deliver 11 ∷ [])
    ∷ (queued_at 3 1 ++ Request (take_entry 1 1 0) 0 ∷ Deliver 1 ∷ Crash Coord 0 ∷ []
    finished_by Open 1 0 1 ∷ Deliver 2 ∷ Deliver 3 ∷ Deliver 5 ∷ Deliver 6
    ∷ Propose 1 0 1 ∷ Deliver 7 ∷ Deliver 8 ∷ Deliver 10 ∷ Deliver 11 ∷ [])
    -- "then acceptors": the lowest that are up; with one of three there are too few
    ∷ (queued_at 3 0 ++ Crash Acceptor 0 ∷ []
    finished_by Open 0 0 3 ∷ Deliver 2 ∷ Deliver 3 ∷ Deliver 4 ∷ Deliver 5
    ∷ Propose 0 0 3 ∷ Deliver 7 ∷ Deliver 8 ∷ Deliver 9 ∷ Deliver 10 ∷ [])
    ∷ (queued_at 3 0 ++ Crash Acceptor 0 ∷ Crash Acceptor 2 ∷ [] finished_by [])
    ∷ []

-- ---- its ballot

unfoldable pub its_ballot : List Case
its_ballot =
    -- above what it opened there, even if nobody heard of it
    (queued_at 3 0 ++ Open 0 0 9 ∷ []
    finished_by Open 0 0 12 ∷ Deliver 4 ∷ Deliver 5 ∷ Deliver 7 ∷ Deliver 8
    ∷ Propose 0 0 12 ∷ Deliver 9 ∷ Deliver 10 ∷ Deliver 12 ∷ Deliver 13 ∷ [])
    -- what another opened counts once an acceptor promised it, and "any acceptor": up or down
    ∷ (queued_at 3 0 ++ Open 2 0 8 ∷ []
    finished_by Open 0 0 3 ∷ Deliver 4 ∷ Deliver 5 ∷ Deliver 7 ∷ Deliver 8
    ∷ Propose 0 0 3 ∷ Deliver 9 ∷ Deliver 10 ∷ Deliver 12 ∷ Deliver 13 ∷ [])
    ∷ (queued_at 3 0 ++ Open 2 0 8 ∷ Deliver 3 ∷ Crash Acceptor 2 ∷ []
    finished_by Open 0 0 9 ∷ Deliver 5 ∷ Deliver 6 ∷ Deliver 8 ∷ Deliver 9
    ∷ Propose 0 0 9 ∷ Deliver 10 ∷ Deliver 11 ∷ Deliver 13 ∷ Deliver 14 ∷ [])
    -- the highest ballot of each coordinator is used: 255, 253, 254
    ∷ (queued_at 3 0 ++ Open 0 0 252 ∷ []
    finished_by Open 0 0 255 ∷ Deliver 4 ∷ Deliver 5 ∷ Deliver 7 ∷ Deliver 8
    ∷ Propose 0 0 255 ∷ Deliver 9 ∷ Deliver 10 ∷ Deliver 12 ∷ Deliver 13 ∷ [])
    ∷ (queued_at 3 0 ++ Open 0 0 255 ∷ [] finished_by [])
    ∷ (queued_at 3 1 ++ Open 1 0 253 ∷ [] finished_by [])
    ∷ (queued_at 3 2 ++ Open 2 0 254 ∷ [] finished_by [])
    ∷ []

-- ---- an empty queue, and the next instance

-- coordinator 0 decides the take in instance 0, by acceptors 0 and 1: messages 0 to 10
abbrev pub decided_by0 : List Step
decided_by0 =
    queued_at 3 0
    ++ Open 0 0 3 ∷ Deliver 1 ∷ Deliver 2 ∷ Deliver 4 ∷ Deliver 5 ∷ Propose 0 0 3 ∷ Deliver 6 ∷ Deliver 7 ∷ Deliver 9 ∷ Deliver 10 ∷ []

unfoldable pub later_instances : List Case
later_instances =
    -- coordinators 1 and 2 could learn instance 0, but have no entry: none is such
    (decided_by0 finished_by [])
    -- coordinator 0 goes on in instance 1, where its ballots start anew
    ∷ (decided_by0 ++ Request (take_entry 2 1 1) 0 ∷ Deliver 11 ∷ []
    finished_by Open 0 1 3 ∷ Deliver 12 ∷ Deliver 13 ∷ Deliver 15 ∷ Deliver 16
    ∷ Propose 0 1 3 ∷ Deliver 17 ∷ Deliver 18 ∷ Deliver 20 ∷ Deliver 21 ∷ [])
    -- coordinator 1 is behind, and closes instance 0 again, above ballot 3
    ∷ (decided_by0 ++ Request (take_entry 2 1 1) 1 ∷ Deliver 11 ∷ []
    finished_by Open 1 0 4 ∷ Deliver 12 ∷ Deliver 13 ∷ Deliver 15 ∷ Deliver 16
    ∷ Propose 1 0 4 ∷ Deliver 17 ∷ Deliver 18 ∷ Deliver 20 ∷ Deliver 21 ∷ [])
    ∷ []

-- ---- "2 times acceptors plus 2 times m message numbers left": 10 with three acceptors, 16 with
-- five

unfoldable pub numbers_left : List Case
numbers_left =
    -- 118 numbers are used, and 119
    (queued_at 3 0 ++ openings 1 1 39
    finished_by Open 0 0 3 ∷ Deliver 118 ∷ Deliver 119 ∷ Deliver 121 ∷ Deliver 122
    ∷ Propose 0 0 3 ∷ Deliver 123 ∷ Deliver 124 ∷ Deliver 126 ∷ Deliver 127 ∷ [])
    ∷ (queued_at 3 0 ++ openings 1 1 39 ++ Request (take_entry 1 1 0) 0 ∷ [] finished_by [])
    -- 112 numbers are used, and 113
    ∷ (queued_at 5 0 ++ openings 1 1 22 ++ Request (take_entry 1 1 0) 0 ∷ []
    finished_by Open 0 0 3 ∷ Deliver 112 ∷ Deliver 113 ∷ Deliver 114 ∷ Deliver 117 ∷ Deliver 118 ∷ Deliver 119
    ∷ Propose 0 0 3 ∷ Deliver 120 ∷ Deliver 121 ∷ Deliver 122 ∷ Deliver 125 ∷ Deliver 126 ∷ Deliver 127 ∷ [])
    ∷ (queued_at 5 0 ++ openings 1 1 22 ++ Request (take_entry 1 1 0) 0 ∷ Request (take_entry 1 1 0) 0 ∷ [] finished_by [])
    ∷ []
