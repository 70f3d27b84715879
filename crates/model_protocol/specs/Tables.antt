-- Lists of steps from the fresh world with the answers that document 01 gives them, in its own
-- numbers. Most steps in them are refused, and a refused step changes nothing, so each shows which
-- refusal is given where several apply.
use Rattle.std.specs.Prelude.{ℕ, ◌≡◌, true, false, List, [], ◌∷◌, map}
use Rattle.log_entry.specs.Entry.{take_entry, vote_entry}
use Rattle.log_entry.specs.Number.{answer_number}
use Rattle.model_steps.specs.declared.Role.TheVariants.{Acceptor, Coord, Proc}
use Rattle.model_steps.specs.declared.Step.{Step}
use Rattle.model_steps.specs.declared.Step.TheVariants.{Back, Crash, Deliver, Follow, Open, Propose, Request, Restore, Setup, Tell}
use Rattle.model_protocol.specs.declared.World.{World}
use Rattle.model_protocol.specs.Step.{step_of}
use Rattle.model_protocol.specs.World.{fresh_world}

-- a step, and its answer
pub record Tried : Type 0 where
  pub step : Step
  pub answer : ℕ

infixl 20 ◌gives◌
abbrev pub ◌gives◌ : Step → ℕ → Tried
s gives n = record { step = s; answer = n }

-- the same steps with the answers that the definitions give, one after the other
unfoldable pub as_defined : World → List Tried → List Tried
as_defined w [] = []
as_defined w (t ∷ ts) = (t.step gives answer_number (step_of w t.step).answer) ∷ as_defined (step_of w t.step).world ts

abbrev pub Holds : List Tried → Type 0
Holds table = as_defined fresh_world table ≡ table

abbrev pub steps_of : List Tried → List Step
steps_of table = map (λ (t : Tried). t.step) table

-- two updates; no part of either is 0 or repeats
abbrev pub update_a : ℕ
update_a = 0x0123456789abcdef

abbrev pub update_b : ℕ
update_b = 0xfedcba9876543210

-- ---- before setup: 2 goes before 4 and 5, and 4 before 5; "before setup five acceptors count"

unfoldable pub before_setup : List Tried
before_setup =
    (Crash Acceptor 4 gives 5) ∷ (Crash Acceptor 5 gives 2) ∷ (Crash Coord 2 gives 5) ∷ (Crash Coord 3 gives 2)
    ∷ (Crash Proc 0 gives 2) ∷ (Crash Proc 1 gives 5) ∷ (Crash Proc 15 gives 5) ∷ (Crash Proc 16 gives 2)
    ∷ (Deliver 0 gives 4) ∷ (Deliver 127 gives 4) ∷ (Deliver 128 gives 2)
    ∷ (Open 0 0 3 gives 5) ∷ (Open 3 0 3 gives 2) ∷ (Open 0 15 255 gives 5) ∷ (Open 0 16 3 gives 2) ∷ (Open 0 0 0 gives 2) ∷ (Open 0 0 256 gives 2)
    ∷ (Propose 0 0 3 gives 5) ∷ (Propose 3 0 3 gives 2) ∷ (Propose 0 15 255 gives 5) ∷ (Propose 0 16 3 gives 2) ∷ (Propose 0 0 0 gives 2)
    ∷ (Propose 0 0 256 gives 2)
    ∷ (Tell 2 15 31 gives 5) ∷ (Tell 3 1 0 gives 2) ∷ (Tell 0 0 0 gives 2) ∷ (Tell 0 16 0 gives 2) ∷ (Tell 0 1 32 gives 2)
    ∷ (Restore 2 15 gives 5) ∷ (Restore 3 1 gives 2) ∷ (Restore 0 0 gives 2) ∷ (Restore 0 16 gives 2)
    ∷ (Follow 2 15 31 gives 5) ∷ (Follow 3 1 0 gives 2) ∷ (Follow 0 0 0 gives 2) ∷ (Follow 0 16 0 gives 2) ∷ (Follow 0 1 32 gives 2)
    ∷ (Request (take_entry 15 1 7) 2 gives 5) ∷ (Request (take_entry 1 1 0) 3 gives 2) ∷ (Request (take_entry 0 1 0) 0 gives 2)
    ∷ (Request (take_entry 16 1 0) 0 gives 2) ∷ (Request (take_entry 1 1 8) 0 gives 2)
    ∷ (Request (vote_entry 15 1 7 7 31 0xff true 0xffffffff) 0 gives 5) ∷ (Request (vote_entry 1 1 8 0 0 0x01 true 0) 0 gives 2)
    ∷ (Request (vote_entry 1 1 0 0 32 0x01 true 0) 0 gives 2)
    ∷ (Request (take_entry 1 0 0) 0 gives 2) ∷ (Request (take_entry 1 256 0) 0 gives 2) ∷ (Request (take_entry 1 255 0) 0 gives 5)
    ∷ (Back 15 255 gives 5) ∷ (Back 0 2 gives 2) ∷ (Back 16 2 gives 2) ∷ (Back 1 0 gives 2) ∷ (Back 1 256 gives 2) ∷ (Back 1 1 gives 5)
    ∷ (Setup 0 gives 2) ∷ (Setup 2 gives 2) ∷ (Setup 4 gives 2) ∷ (Setup 6 gives 2) ∷ (Setup 5 gives 0)
    ∷ (Setup 3 gives 5) ∷ (Setup 4 gives 2) ∷ (Crash Acceptor 4 gives 0) ∷ (Crash Acceptor 5 gives 2)
    ∷ []

-- ---- opening and proposing

unfoldable pub ballots_of_one : List Tried
ballots_of_one =
    (Setup 3 gives 0) ∷ (Crash Acceptor 3 gives 2)
    -- not its own, not the current instance; a ballot opened once, and none below it
    ∷ (Open 0 0 1 gives 5) ∷ (Open 0 0 2 gives 5) ∷ (Open 1 0 3 gives 5) ∷ (Open 2 0 4 gives 5) ∷ (Open 0 1 6 gives 5)
    ∷ (Open 0 0 6 gives 0) ∷ (Open 0 0 3 gives 5) ∷ (Open 0 0 6 gives 5) ∷ (Propose 0 0 6 gives 5)
    -- one promise is no majority of three, and nothing is there to propose
    ∷ (Deliver 0 gives 0) ∷ (Deliver 3 gives 0) ∷ (Deliver 3 gives 0) ∷ (Propose 0 0 6 gives 5)
    ∷ (Deliver 1 gives 0) ∷ (Deliver 4 gives 0) ∷ (Propose 0 0 6 gives 5)
    -- another ballot, another instance; and it proposes once
    ∷ (Request (take_entry 1 1 0) 0 gives 0) ∷ (Deliver 5 gives 0)
    ∷ (Propose 0 0 3 gives 5) ∷ (Propose 0 0 9 gives 5) ∷ (Propose 0 1 6 gives 5) ∷ (Propose 1 0 6 gives 5)
    ∷ (Propose 0 0 6 gives 0) ∷ (Propose 0 0 6 gives 5)
    -- acceptor 0 accepts ballot 6; a higher one is opened, and the promises of ballot 6 count for
    -- nothing
    ∷ (Deliver 6 gives 0) ∷ (Open 0 0 9 gives 0) ∷ (Deliver 3 gives 0) ∷ (Deliver 4 gives 0) ∷ (Propose 0 0 9 gives 5)
    -- coordinator 1 has nothing queued, and may propose what acceptor 0 accepted
    ∷ (Open 1 0 10 gives 0) ∷ (Deliver 13 gives 0) ∷ (Deliver 14 gives 0) ∷ (Deliver 16 gives 0) ∷ (Propose 1 0 10 gives 5)
    ∷ (Deliver 17 gives 0) ∷ (Propose 1 0 10 gives 0)
    ∷ []

-- ---- a majority of five is three

unfoldable pub of_five : List Tried
of_five =
    (Setup 5 gives 0) ∷ (Request (take_entry 1 1 0) 0 gives 0) ∷ (Deliver 0 gives 0) ∷ (Open 0 0 3 gives 0)
    ∷ (Deliver 1 gives 0) ∷ (Deliver 2 gives 0) ∷ (Deliver 5 gives 0) ∷ (Deliver 6 gives 0) ∷ (Deliver 7 gives 0)
    ∷ (Propose 0 0 3 gives 5) ∷ (Deliver 8 gives 0) ∷ (Propose 0 0 3 gives 0)
    -- acceptances of 9 to 13: a third one, and the instance is the next
    ∷ (Deliver 9 gives 0) ∷ (Deliver 10 gives 0) ∷ (Deliver 11 gives 0) ∷ (Deliver 14 gives 0) ∷ (Deliver 15 gives 0) ∷ (Open 0 1 3 gives 5)
    ∷ (Deliver 16 gives 0) ∷ (Open 0 0 6 gives 5) ∷ (Open 0 1 3 gives 0)
    ∷ []

-- ---- process 1 takes store 0 and is restored: twelve messages

unfoldable pub restored_once : List Tried
restored_once =
    (Setup 3 gives 0) ∷ (Request (take_entry 1 1 0) 0 gives 0)
    -- nobody believes anything yet
    ∷ (Request (vote_entry 1 1 0 0 4 0x01 true update_a) 0 gives 5)
    ∷ (Deliver 0 gives 0) ∷ (Open 0 0 3 gives 0) ∷ (Deliver 1 gives 0) ∷ (Deliver 2 gives 0) ∷ (Deliver 4 gives 0) ∷ (Deliver 5 gives 0)
    ∷ (Propose 0 0 3 gives 0) ∷ (Deliver 6 gives 0) ∷ (Deliver 7 gives 0) ∷ (Restore 0 1 gives 5) ∷ (Deliver 9 gives 0) ∷ (Restore 0 1 gives 5)
    ∷ (Deliver 10 gives 0)
    -- by this coordinator's log: coordinator 1 has applied nothing, and process 2 holds nothing
    ∷ (Restore 1 1 gives 5) ∷ (Restore 0 2 gives 5) ∷ (Restore 0 1 gives 0) ∷ (Request (vote_entry 1 1 0 0 4 0x01 true update_a) 0 gives 5)
    ∷ (Deliver 12 gives 4) ∷ (Deliver 11 gives 0)
    ∷ []

-- ---- 3 before 5, 6 and 7; 5 before 7

unfoldable pub down_and_belief : List Tried
down_and_belief =
    -- 7: list without `store`, list without `by`, commit on behalf, abort with an update
    (Request (vote_entry 1 1 0 0 4 0x02 true update_a) 0 gives 7) ∷ (Request (vote_entry 1 1 0 1 4 0x02 false 0) 0 gives 7)
    ∷ (Request (vote_entry 1 1 0 1 4 0x03 true 0) 0 gives 7) ∷ (Request (vote_entry 1 1 0 0 4 0x01 false 1) 0 gives 7)
    ∷ (Request (vote_entry 1 1 0 0 4 0x01 false 0x100000000) 0 gives 7)
    -- 5: it does not believe that it holds `by`
    ∷ (Request (vote_entry 1 1 1 1 4 0x01 true update_a) 0 gives 5) ∷ (Request (vote_entry 2 1 0 0 4 0x02 true update_a) 0 gives 5)
    ∷ (Tell 0 1 4 gives 5)
    -- who is down stays down
    ∷ (Crash Proc 1 gives 0) ∷ (Crash Coord 1 gives 0) ∷ (Crash Acceptor 2 gives 0)
    ∷ (Crash Proc 1 gives 3) ∷ (Crash Coord 1 gives 3) ∷ (Crash Acceptor 2 gives 3) ∷ (Crash Proc 16 gives 2)
    -- the acting party, or the one in `to`, `proc` or `id`
    ∷ (Request (vote_entry 1 1 1 0 4 0x02 true update_a) 0 gives 3) ∷ (Request (take_entry 1 1 1) 0 gives 3) ∷ (Request (take_entry 2 1 1) 1 gives 3)
    ∷ (Request (take_entry 2 1 8) 1 gives 2)
    ∷ (Open 1 1 4 gives 3) ∷ (Propose 1 1 4 gives 3) ∷ (Tell 1 2 4 gives 3) ∷ (Tell 0 1 4 gives 3) ∷ (Tell 1 1 32 gives 2)
    ∷ (Restore 0 1 gives 3) ∷ (Restore 1 2 gives 3) ∷ (Follow 0 1 4 gives 3) ∷ (Follow 1 2 4 gives 3) ∷ (Follow 1 1 32 gives 2)
    -- the receiver: acceptor 2 of a prepare and an accept, process 1 of a restore
    ∷ (Deliver 3 gives 3) ∷ (Deliver 8 gives 3) ∷ (Deliver 11 gives 3) ∷ (Deliver 12 gives 4)
    -- the others go on
    ∷ (Crash Proc 2 gives 0) ∷ (Open 0 1 3 gives 0) ∷ (Deliver 12 gives 0) ∷ (Deliver 14 gives 3)
    ∷ []

-- ---- 6: fewer message numbers left than the step sends; 5 before 6 before 7

-- after that a take is queued, acceptor 2 promises ballot 4 of instance 0, and coordinator 0 opens
-- 35 ballots of instance 1. Acceptors 0 and 1 promise the last one. Of 128 numbers 125 are used
unfoldable pub three_left : List Tried
three_left =
    (Request (take_entry 2 1 1) 0 gives 0) ∷ (Deliver 12 gives 0) ∷ (Open 1 0 4 gives 0) ∷ (Deliver 15 gives 0)
    ∷ (Open 0 1 3 gives 0) ∷ (Open 0 1 6 gives 0) ∷ (Open 0 1 9 gives 0) ∷ (Open 0 1 12 gives 0) ∷ (Open 0 1 15 gives 0) ∷ (Open 0 1 18 gives 0)
    ∷ (Open 0 1 21 gives 0) ∷ (Open 0 1 24 gives 0) ∷ (Open 0 1 27 gives 0) ∷ (Open 0 1 30 gives 0) ∷ (Open 0 1 33 gives 0) ∷ (Open 0 1 36 gives 0)
    ∷ (Open 0 1 39 gives 0) ∷ (Open 0 1 42 gives 0) ∷ (Open 0 1 45 gives 0) ∷ (Open 0 1 48 gives 0) ∷ (Open 0 1 51 gives 0) ∷ (Open 0 1 54 gives 0)
    ∷ (Open 0 1 57 gives 0) ∷ (Open 0 1 60 gives 0) ∷ (Open 0 1 63 gives 0) ∷ (Open 0 1 66 gives 0) ∷ (Open 0 1 69 gives 0) ∷ (Open 0 1 72 gives 0)
    ∷ (Open 0 1 75 gives 0) ∷ (Open 0 1 78 gives 0) ∷ (Open 0 1 81 gives 0) ∷ (Open 0 1 84 gives 0) ∷ (Open 0 1 87 gives 0) ∷ (Open 0 1 90 gives 0)
    ∷ (Open 0 1 93 gives 0) ∷ (Open 0 1 96 gives 0) ∷ (Open 0 1 99 gives 0) ∷ (Open 0 1 102 gives 0) ∷ (Open 0 1 105 gives 0)
    ∷ (Deliver 119 gives 0) ∷ (Deliver 120 gives 0) ∷ (Deliver 122 gives 0) ∷ (Deliver 123 gives 0) ∷ (Request (take_entry 3 1 2) 0 gives 0)
    ∷ []

-- three are enough to propose
unfoldable pub proposes_with_three : List Tried
proposes_with_three = (Propose 0 1 105 gives 0) ∷ (Request (take_entry 5 1 4) 0 gives 6) ∷ []

-- and to open
unfoldable pub opens_with_three : List Tried
opens_with_three = (Open 0 1 108 gives 0) ∷ (Request (take_entry 5 1 4) 0 gives 6) ∷ []

unfoldable pub numbers_used : List Tried
numbers_used =
    -- two are left
    (Request (take_entry 5 1 4) 0 gives 0)
    ∷ (Open 0 1 108 gives 6) ∷ (Propose 0 1 105 gives 6) ∷ (Open 0 1 109 gives 5) ∷ (Propose 0 1 108 gives 5)
    ∷ (Request (take_entry 6 1 5) 0 gives 0) ∷ (Request (take_entry 7 1 6) 0 gives 0)
    -- none is left
    ∷ (Request (take_entry 8 1 7) 0 gives 6) ∷ (Request (vote_entry 1 1 0 0 4 0x02 true update_a) 0 gives 6) ∷ (Request (vote_entry 1 1 1 0 4 0x02 true update_a) 0 gives 5)
    ∷ (Restore 0 1 gives 6) ∷ (Restore 0 2 gives 5) ∷ (Tell 0 1 4 gives 5)
    -- a promise and an acceptance need one; a prepare or an accept that does nothing and the other
    -- messages need none
    ∷ (Deliver 121 gives 6) ∷ (Deliver 6 gives 6) ∷ (Deliver 1 gives 0) ∷ (Deliver 8 gives 0) ∷ (Deliver 9 gives 0) ∷ (Deliver 4 gives 0)
    ∷ (Deliver 11 gives 0) ∷ (Deliver 124 gives 0) ∷ (Crash Acceptor 2 gives 0) ∷ (Deliver 121 gives 3) ∷ (Crash Proc 1 gives 0)
    ∷ (Restore 0 1 gives 3)
    ∷ []

-- ---- 6: a full queue for a new entry

unfoldable pub full_queue : List Tried
full_queue =
    (Setup 3 gives 0)
    ∷ (Request (take_entry 1 1 0) 0 gives 0) ∷ (Request (take_entry 2 1 1) 0 gives 0) ∷ (Request (take_entry 3 1 2) 0 gives 0)
    ∷ (Request (take_entry 4 1 3) 0 gives 0) ∷ (Request (take_entry 5 1 4) 0 gives 0) ∷ (Request (take_entry 6 1 5) 0 gives 0)
    ∷ (Request (take_entry 7 1 6) 0 gives 0) ∷ (Request (take_entry 8 1 7) 0 gives 0) ∷ (Request (take_entry 9 1 7) 0 gives 0)
    ∷ (Request (take_entry 3 1 2) 0 gives 0)
    ∷ (Deliver 0 gives 0) ∷ (Deliver 1 gives 0) ∷ (Deliver 2 gives 0) ∷ (Deliver 3 gives 0) ∷ (Deliver 0 gives 0) ∷ (Deliver 4 gives 0)
    ∷ (Deliver 5 gives 0) ∷ (Deliver 6 gives 0) ∷ (Deliver 7 gives 0)
    -- eight are queued: a ninth is refused, an equal one is not
    ∷ (Deliver 8 gives 6) ∷ (Deliver 9 gives 0) ∷ (Deliver 7 gives 0) ∷ (Deliver 8 gives 6)
    -- the first four are proposed and learned, and then there is place
    ∷ (Open 0 0 3 gives 0) ∷ (Deliver 10 gives 0) ∷ (Deliver 11 gives 0) ∷ (Deliver 13 gives 0) ∷ (Deliver 14 gives 0) ∷ (Propose 0 0 3 gives 0)
    ∷ (Deliver 15 gives 0) ∷ (Deliver 16 gives 0) ∷ (Deliver 18 gives 0) ∷ (Deliver 8 gives 6) ∷ (Deliver 19 gives 0) ∷ (Deliver 8 gives 0)
    ∷ []

-- ---- promises and acceptances for another instance, under the same ballot, are passed over

unfoldable pub other_instance : List Tried
other_instance =
    (Request (take_entry 2 1 1) 0 gives 0) ∷ (Deliver 12 gives 0) ∷ (Open 0 1 3 gives 0) ∷ (Deliver 4 gives 0) ∷ (Deliver 5 gives 0)
    ∷ (Propose 0 1 3 gives 5) ∷ (Deliver 13 gives 0) ∷ (Deliver 14 gives 0) ∷ (Deliver 16 gives 0) ∷ (Deliver 17 gives 0)
    ∷ (Propose 0 1 3 gives 0) ∷ (Deliver 9 gives 0) ∷ (Deliver 10 gives 0) ∷ (Open 0 2 3 gives 5) ∷ (Open 0 1 6 gives 0)
    ∷ []

-- ---- a batch that another coordinator proposed is learned: its entries leave the queue of
-- coordinator 1

unfoldable pub learns_anothers : List Tried
learns_anothers =
    (Setup 3 gives 0)
    ∷ (Request (take_entry 9 1 0) 1 gives 0) ∷ (Request (take_entry 2 1 1) 1 gives 0) ∷ (Request (take_entry 1 1 0) 1 gives 0) ∷ (Request (take_entry 8 1 7) 1 gives 0)
    ∷ (Deliver 0 gives 0) ∷ (Deliver 1 gives 0) ∷ (Deliver 2 gives 0) ∷ (Deliver 3 gives 0)
    ∷ (Request (take_entry 1 1 0) 0 gives 0) ∷ (Request (take_entry 2 1 1) 0 gives 0) ∷ (Deliver 4 gives 0) ∷ (Deliver 5 gives 0)
    -- 0 decides its own under ballot 3, and is not told
    ∷ (Open 0 0 3 gives 0) ∷ (Deliver 6 gives 0) ∷ (Deliver 7 gives 0) ∷ (Deliver 9 gives 0) ∷ (Deliver 10 gives 0) ∷ (Propose 0 0 3 gives 0)
    ∷ (Deliver 11 gives 0) ∷ (Deliver 12 gives 0)
    -- 1 hears of it, proposes it under ballot 4 and learns it
    ∷ (Open 1 0 4 gives 0) ∷ (Deliver 17 gives 0) ∷ (Deliver 18 gives 0) ∷ (Deliver 19 gives 0) ∷ (Deliver 20 gives 0) ∷ (Propose 1 0 4 gives 0)
    ∷ (Deliver 22 gives 0) ∷ (Deliver 23 gives 0) ∷ (Deliver 24 gives 0) ∷ (Deliver 25 gives 0)
    ∷ []

-- ---- an accept promises too, and a promise carries the accepted pair; what does nothing sends
-- nothing

unfoldable pub accept_promises : List Tried
accept_promises =
    (Setup 3 gives 0) ∷ (Request (take_entry 1 1 0) 0 gives 0) ∷ (Deliver 0 gives 0) ∷ (Open 0 0 6 gives 0) ∷ (Deliver 1 gives 0) ∷ (Deliver 2 gives 0)
    ∷ (Deliver 4 gives 0) ∷ (Deliver 5 gives 0) ∷ (Propose 0 0 6 gives 0)
    -- acceptor 2 promised nothing, and accepts 6; then a prepare of 4 does nothing
    ∷ (Deliver 8 gives 0) ∷ (Open 1 0 4 gives 0) ∷ (Deliver 12 gives 0) ∷ (Deliver 13 gives 4)
    -- a prepare of 8 is promised, with 6; then the accept of 6 does nothing
    ∷ (Open 2 0 8 gives 0) ∷ (Deliver 15 gives 0) ∷ (Deliver 8 gives 0) ∷ (Deliver 15 gives 0) ∷ (Deliver 17 gives 4)
    ∷ []

-- ---- an acceptor's answer goes to a coordinator that is down, too

unfoldable pub answers_the_down : List Tried
answers_the_down =
    (Setup 3 gives 0) ∷ (Open 0 0 3 gives 0) ∷ (Crash Coord 0 gives 0) ∷ (Deliver 0 gives 0) ∷ (Deliver 3 gives 3) ∷ (Deliver 4 gives 4)
    ∷ (Crash Acceptor 1 gives 0) ∷ (Deliver 1 gives 3) ∷ (Open 1 0 4 gives 0)
    ∷ []

-- ---- after a restore: votes are decided, outcomes told, and the store is restored again

unfoldable pub told : List Tried
told =
    -- process 1 commits 4 and aborts 5 and, on behalf of store 1, 6; transaction 7 waits for store
    -- 1
    (Request (vote_entry 1 1 0 0 4 0x01 true update_a) 0 gives 0) ∷ (Request (vote_entry 1 1 0 0 5 0x01 false 0) 0 gives 0)
    ∷ (Request (vote_entry 1 1 0 1 6 0x03 false 0) 0 gives 0) ∷ (Request (vote_entry 1 1 0 0 7 0x03 true update_b) 0 gives 0)
    ∷ (Deliver 12 gives 0) ∷ (Deliver 13 gives 0) ∷ (Deliver 14 gives 0) ∷ (Deliver 15 gives 0) ∷ (Open 0 1 3 gives 0) ∷ (Deliver 16 gives 0)
    ∷ (Deliver 17 gives 0) ∷ (Deliver 19 gives 0) ∷ (Deliver 20 gives 0) ∷ (Propose 0 1 3 gives 0) ∷ (Deliver 21 gives 0) ∷ (Deliver 22 gives 0)
    ∷ (Deliver 24 gives 0) ∷ (Tell 0 1 4 gives 5) ∷ (Deliver 25 gives 0)
    -- each is told once it is decided, by the log of the coordinator that tells
    ∷ (Tell 1 1 4 gives 5) ∷ (Tell 0 1 7 gives 5) ∷ (Tell 0 1 8 gives 5)
    ∷ (Tell 0 1 4 gives 0) ∷ (Tell 0 2 5 gives 0) ∷ (Tell 0 1 6 gives 0) ∷ (Deliver 26 gives 0) ∷ (Deliver 27 gives 0) ∷ (Deliver 28 gives 0)
    -- the store is restored again, and the older restore comes once more
    ∷ (Restore 0 1 gives 0) ∷ (Deliver 29 gives 0) ∷ (Deliver 11 gives 0)
    ∷ []

-- ---- after that: 3 looks at the receiver alone, and not at the sender

unfoldable pub receivers_down : List Tried
receivers_down =
    -- acceptor 0: a prepare and an accept to it; its promise and its acceptance
    (Crash Acceptor 0 gives 0) ∷ (Deliver 16 gives 3) ∷ (Deliver 21 gives 3) ∷ (Deliver 19 gives 0) ∷ (Deliver 24 gives 0)
    -- process 1: a tell and a restore to it, a tell to another; its request
    ∷ (Deliver 26 gives 0) ∷ (Crash Proc 1 gives 0) ∷ (Deliver 26 gives 3) ∷ (Deliver 29 gives 3) ∷ (Deliver 27 gives 0) ∷ (Deliver 12 gives 0)
    -- coordinator 0: a request, a promise and an acceptance to it; its tell
    ∷ (Crash Coord 0 gives 0) ∷ (Deliver 12 gives 3) ∷ (Deliver 19 gives 3) ∷ (Deliver 24 gives 3) ∷ (Deliver 27 gives 0)
    ∷ []

-- ---- after a restore: process 2 takes the store over, and process 1 takes another

unfoldable pub taken_over : List Tried
taken_over =
    (Request (take_entry 2 1 0) 0 gives 0) ∷ (Deliver 12 gives 0) ∷ (Open 0 1 3 gives 0) ∷ (Deliver 13 gives 0) ∷ (Deliver 14 gives 0) ∷ (Deliver 16 gives 0)
    ∷ (Deliver 17 gives 0) ∷ (Propose 0 1 3 gives 0) ∷ (Deliver 18 gives 0) ∷ (Deliver 19 gives 0) ∷ (Deliver 21 gives 0) ∷ (Deliver 22 gives 0)
    -- the old holder is not restored; it still believes, and what it sends is refused when it is
    -- applied
    ∷ (Restore 0 1 gives 5) ∷ (Request (take_entry 1 1 1) 0 gives 0) ∷ (Deliver 23 gives 0) ∷ (Request (vote_entry 1 1 0 0 4 0x01 true update_a) 0 gives 0)
    ∷ (Deliver 24 gives 0) ∷ (Open 0 2 3 gives 0) ∷ (Deliver 25 gives 0) ∷ (Deliver 26 gives 0) ∷ (Deliver 28 gives 0) ∷ (Deliver 29 gives 0)
    ∷ (Propose 0 2 3 gives 0) ∷ (Deliver 30 gives 0) ∷ (Deliver 31 gives 0) ∷ (Deliver 33 gives 0) ∷ (Deliver 34 gives 0) ∷ (Tell 0 1 4 gives 5)
    -- with the restore of store 1 it believes it holds that and no other
    ∷ (Restore 0 1 gives 0) ∷ (Request (vote_entry 1 1 1 1 5 0x02 true 1) 0 gives 5) ∷ (Deliver 35 gives 0)
    ∷ (Request (vote_entry 1 1 0 0 4 0x01 true update_a) 0 gives 5) ∷ (Request (vote_entry 1 1 1 1 5 0x02 true 1) 0 gives 0)
    ∷ []

-- ---- after a restore: process 1 votes, and its store is taken over while two transactions run

unfoldable pub left_running : List Tried
left_running =
    -- process 1 commits 5 alone, and 4 and 6 with store 1; process 3 takes store 1
    (Request (vote_entry 1 1 0 0 4 0x03 true update_a) 0 gives 0) ∷ (Request (vote_entry 1 1 0 0 5 0x01 true update_b) 0 gives 0)
    ∷ (Request (vote_entry 1 1 0 0 6 0x03 true 12) 0 gives 0) ∷ (Request (take_entry 3 1 1) 0 gives 0)
    ∷ (Deliver 12 gives 0) ∷ (Deliver 13 gives 0) ∷ (Deliver 14 gives 0) ∷ (Deliver 15 gives 0) ∷ (Open 0 1 3 gives 0) ∷ (Deliver 16 gives 0)
    ∷ (Deliver 17 gives 0) ∷ (Deliver 19 gives 0) ∷ (Deliver 20 gives 0) ∷ (Propose 0 1 3 gives 0) ∷ (Deliver 21 gives 0) ∷ (Deliver 22 gives 0)
    ∷ (Deliver 24 gives 0) ∷ (Deliver 25 gives 0)
    -- "refused 5 while the transaction runs, where the process is not the holder, or where the store
    -- has no kept commit vote on it", by the log of the coordinator that sends
    ∷ (Follow 0 1 4 gives 5) ∷ (Follow 0 2 5 gives 5) ∷ (Follow 0 3 5 gives 5) ∷ (Follow 0 1 7 gives 5) ∷ (Follow 1 1 5 gives 5)
    -- one that no restore listed is sent all the same, and not taken
    ∷ (Follow 0 1 5 gives 0) ∷ (Deliver 26 gives 0)
    -- process 2 takes store 0 over
    ∷ (Request (take_entry 2 1 0) 0 gives 0) ∷ (Deliver 27 gives 0) ∷ (Open 0 2 3 gives 0) ∷ (Deliver 28 gives 0) ∷ (Deliver 29 gives 0) ∷ (Deliver 31 gives 0)
    ∷ (Deliver 32 gives 0) ∷ (Propose 0 2 3 gives 0) ∷ (Deliver 33 gives 0) ∷ (Deliver 34 gives 0) ∷ (Deliver 36 gives 0) ∷ (Deliver 37 gives 0)
    ∷ (Follow 0 1 5 gives 5)
    -- 3 is restored, and so is 2, whose restore is on the way
    ∷ (Restore 0 3 gives 0) ∷ (Deliver 38 gives 0) ∷ (Restore 0 2 gives 0)
    -- 3 commits 4 and aborts 6
    ∷ (Request (vote_entry 3 1 1 1 4 0x03 true 20) 0 gives 0) ∷ (Request (vote_entry 3 1 1 1 6 0x03 false 0) 0 gives 0) ∷ (Deliver 40 gives 0)
    ∷ (Deliver 41 gives 0) ∷ (Open 0 3 3 gives 0) ∷ (Deliver 42 gives 0) ∷ (Deliver 43 gives 0) ∷ (Deliver 45 gives 0) ∷ (Deliver 46 gives 0)
    ∷ (Propose 0 3 3 gives 0) ∷ (Deliver 47 gives 0) ∷ (Deliver 48 gives 0) ∷ (Deliver 50 gives 0) ∷ (Follow 0 2 4 gives 5) ∷ (Deliver 51 gives 0)
    -- all are decided now: follows for 2; one for 3, and none of an abort vote
    ∷ (Follow 0 2 4 gives 0) ∷ (Follow 0 2 6 gives 0) ∷ (Follow 0 2 5 gives 0) ∷ (Follow 0 3 4 gives 0) ∷ (Follow 0 3 6 gives 5)
    -- a follow before the restore is not taken; then the restore
    ∷ (Deliver 52 gives 0) ∷ (Deliver 39 gives 0)
    ∷ []

-- each follow once; none of a transaction that is not listed
unfoldable pub follows_taken : List Tried
follows_taken =
    (Deliver 54 gives 0) ∷ (Deliver 55 gives 0) ∷ (Deliver 52 gives 0) ∷ (Deliver 52 gives 0) ∷ (Deliver 53 gives 0)
    ∷ []

-- a later restore begins anew
unfoldable pub restored_anew : List Tried
restored_anew = (Restore 0 2 gives 0) ∷ (Deliver 56 gives 0) ∷ (Deliver 52 gives 0) ∷ []

-- 3, and 5 before 6: with coordinator 1's ballots and two takes all 128 numbers are used
unfoldable pub none_to_follow : List Tried
none_to_follow =
    (Open 1 0 1 gives 0) ∷ (Open 1 0 4 gives 0) ∷ (Open 1 0 7 gives 0) ∷ (Open 1 0 10 gives 0) ∷ (Open 1 0 13 gives 0) ∷ (Open 1 0 16 gives 0)
    ∷ (Open 1 0 19 gives 0) ∷ (Open 1 0 22 gives 0) ∷ (Open 1 0 25 gives 0) ∷ (Open 1 0 28 gives 0) ∷ (Open 1 0 31 gives 0) ∷ (Open 1 0 34 gives 0)
    ∷ (Open 1 0 37 gives 0) ∷ (Open 1 0 40 gives 0) ∷ (Open 1 0 43 gives 0) ∷ (Open 1 0 46 gives 0) ∷ (Open 1 0 49 gives 0) ∷ (Open 1 0 52 gives 0)
    ∷ (Open 1 0 55 gives 0) ∷ (Open 1 0 58 gives 0) ∷ (Open 1 0 61 gives 0) ∷ (Open 1 0 64 gives 0) ∷ (Open 1 0 67 gives 0)
    ∷ (Request (take_entry 9 1 7) 0 gives 0) ∷ (Request (take_entry 9 1 7) 0 gives 0)
    ∷ (Follow 0 2 4 gives 0) ∷ (Follow 0 2 4 gives 6) ∷ (Follow 0 2 7 gives 5) ∷ (Deliver 52 gives 0)
    ∷ (Crash Proc 2 gives 0) ∷ (Follow 0 2 4 gives 3) ∷ (Deliver 52 gives 3)
    ∷ []

-- ---- after a restore: process 1 crashes, comes back, and takes its own store again

unfoldable pub comes_back : List Tried
comes_back =
    -- a vote of turn 1 is on the way
    (Request (vote_entry 1 1 0 0 4 0x01 true update_a) 0 gives 0)
    -- "the turn must be above its present one"; "3 does not stop it"
    ∷ (Back 1 1 gives 5) ∷ (Crash Proc 1 gives 0) ∷ (Back 1 1 gives 5) ∷ (Restore 0 1 gives 3) ∷ (Request (take_entry 1 1 0) 0 gives 3)
    ∷ (Back 1 2 gives 0) ∷ (Back 1 2 gives 5) ∷ (Back 1 1 gives 5)
    -- "with another turn than the process's present one"; and it holds nothing
    ∷ (Request (take_entry 1 1 0) 0 gives 5) ∷ (Request (take_entry 1 3 0) 0 gives 5) ∷ (Request (vote_entry 1 1 0 0 5 0x01 true update_b) 0 gives 5)
    ∷ (Request (vote_entry 1 2 0 0 5 0x01 true update_b) 0 gives 5)
    -- the log's holder is of turn 1: a restore is sent, and not taken; nor is the one from before
    ∷ (Restore 0 1 gives 0) ∷ (Deliver 13 gives 0) ∷ (Deliver 11 gives 0) ∷ (Request (vote_entry 1 2 0 0 5 0x01 true update_b) 0 gives 5)
    -- it takes its own store again
    ∷ (Request (take_entry 1 2 0) 0 gives 0) ∷ (Deliver 14 gives 0) ∷ (Open 0 1 3 gives 0) ∷ (Deliver 15 gives 0) ∷ (Deliver 16 gives 0)
    ∷ (Deliver 18 gives 0) ∷ (Deliver 19 gives 0) ∷ (Propose 0 1 3 gives 0) ∷ (Deliver 20 gives 0) ∷ (Deliver 21 gives 0) ∷ (Deliver 23 gives 0)
    ∷ (Deliver 24 gives 0)
    -- and is restored in its turn
    ∷ (Restore 0 1 gives 0) ∷ (Deliver 13 gives 0) ∷ (Request (vote_entry 1 2 0 0 5 0x01 true update_b) 0 gives 5) ∷ (Deliver 25 gives 0)
    -- its vote is kept; the late one of turn 1 is applied after it, and refused
    ∷ (Request (vote_entry 1 2 0 0 5 0x01 true update_b) 0 gives 0) ∷ (Deliver 26 gives 0) ∷ (Deliver 12 gives 0) ∷ (Open 0 2 3 gives 0)
    ∷ (Deliver 27 gives 0) ∷ (Deliver 28 gives 0) ∷ (Deliver 30 gives 0) ∷ (Deliver 31 gives 0) ∷ (Propose 0 2 3 gives 0) ∷ (Deliver 32 gives 0)
    ∷ (Deliver 33 gives 0) ∷ (Deliver 35 gives 0) ∷ (Deliver 36 gives 0) ∷ (Tell 0 1 4 gives 5) ∷ (Tell 0 1 5 gives 0) ∷ (Deliver 37 gives 0)
    ∷ []

-- it comes back once more, without a crash, and knows nothing; what was sent to it comes all the
-- same
unfoldable pub comes_back_again : List Tried
comes_back_again = (Back 1 3 gives 0) ∷ (Request (vote_entry 1 3 0 0 6 0x01 true 1) 0 gives 5) ∷ (Deliver 25 gives 0) ∷ []

unfoldable pub hears_again : List Tried
hears_again = (Deliver 37 gives 0) ∷ (Crash Proc 1 gives 0) ∷ (Crash Proc 1 gives 3) ∷ (Back 1 255 gives 0) ∷ (Back 1 255 gives 5) ∷ []

-- ---- after a restore: process 1 votes, comes back while the transaction runs, and takes its own
-- store again. The restore lists what it left running itself

unfoldable pub own_left_running : List Tried
own_left_running =
    (Request (vote_entry 1 1 0 0 4 0x03 true update_a) 0 gives 0) ∷ (Deliver 12 gives 0) ∷ (Open 0 1 3 gives 0) ∷ (Deliver 13 gives 0)
    ∷ (Deliver 14 gives 0) ∷ (Deliver 16 gives 0) ∷ (Deliver 17 gives 0) ∷ (Propose 0 1 3 gives 0) ∷ (Deliver 18 gives 0) ∷ (Deliver 19 gives 0)
    ∷ (Deliver 21 gives 0) ∷ (Deliver 22 gives 0)
    ∷ (Back 1 2 gives 0) ∷ (Request (take_entry 1 2 0) 0 gives 0) ∷ (Deliver 23 gives 0) ∷ (Open 0 2 3 gives 0) ∷ (Deliver 24 gives 0)
    ∷ (Deliver 25 gives 0) ∷ (Deliver 27 gives 0) ∷ (Deliver 28 gives 0) ∷ (Propose 0 2 3 gives 0) ∷ (Deliver 29 gives 0) ∷ (Deliver 30 gives 0)
    ∷ (Deliver 32 gives 0) ∷ (Deliver 33 gives 0) ∷ (Restore 0 1 gives 0) ∷ (Deliver 34 gives 0)
    ∷ []
