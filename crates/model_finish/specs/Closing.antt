-- "Then a list of 2 + 4m steps, run without others between, applies one more instance: open,
-- deliver m prepares, then their promises, propose, deliver m accepts, then their acceptances, each
-- by acceptor."
use Rattle.std.specs.Prelude.{ℕ, suc, ◌+◌, cond, List, [], ◌∷◌, ◌++◌, eqb}
use Rattle.model_steps.specs.declared.Step.{Step}
use Rattle.model_steps.specs.declared.Step.TheVariants.{Deliver, Open, Propose}
use Rattle.model_protocol.specs.declared.World.{World}
use Rattle.model_finish.specs.declared.Choice.{Choice}
use Rattle.model_finish.specs.Choice.{choice_of}
use Rattle.model_finish.specs.Such.{current_of, quorum, up_acceptor}

-- k messages are delivered, by their numbers
unfoldable pub deliveries : (ℕ → ℕ) → ℕ → List Step
deliveries number ℕ.zero = []
deliveries number (suc k) = deliveries number k ++ Deliver (number k) ∷ []

-- The four runs of messages, by their numbers. "Messages [..] numbered as sent": `open` and
-- `propose` send one to each acceptor, acceptor 0 first, and each delivery to an acceptor sends
-- one. m acceptors answer, the lowest that are up
module _ (w : World) where
  abbrev acceptors : ℕ
  acceptors = w.acceptors

  abbrev pub answering : ℕ
  answering = quorum acceptors

  abbrev pub prepare_number : ℕ → ℕ
  prepare_number k = w.sent + up_acceptor w k

  abbrev pub promise_number : ℕ → ℕ
  promise_number k = w.sent + acceptors + k

  abbrev pub accept_number : ℕ → ℕ
  accept_number k = w.sent + acceptors + answering + up_acceptor w k

  abbrev pub accepted_number : ℕ → ℕ
  accepted_number k = w.sent + acceptors + answering + acceptors + k

-- the list with which coordinator c closes its current instance under ballot b
unfoldable pub closing : World → ℕ → ℕ → List Step
closing w c b =
    Open c (current_of w c) b
    ∷ deliveries (prepare_number w) (answering w)
    ++ deliveries (promise_number w) (answering w)
    ++ Propose c (current_of w c) b
    ∷ deliveries (accept_number w) (answering w)
    ++ deliveries (accepted_number w) (answering w)

-- the list of a choice; none where no coordinator is such
abbrev pub closing_by : World → Choice → List Step
closing_by w x = cond (eqb x.ballot 0) [] (closing w x.coord x.ballot)

-- what the program prints, as steps
abbrev pub finishing : World → List Step
finishing w = closing_by w (choice_of w)
