-- Both happen. A coordinator that is behind learns what was decided already, and the sequence
-- stays. One that has applied all that was decided adds a batch to it.
use Prim.Native.Nat.{ℕ, ◌≤◌, ◌<◌}
use native.Mathlib.Omega.{arith}
use mathlib.Core.List.{List, ◌∷◌, [], ◌++◌}
use mathlib.Core.Logic.{inl, inr}
use mathlib.Core.Path.{◌≡◌, refl, subst, subst₂}
use lib.ListN.{length}
use Rattle.log_entry.specs.declared.Entry.{Entry}
use Rattle.log_entry.specs.Entry.{take_entry}
use Rattle.model_steps.specs.declared.Step.{Step}
use Rattle.model_steps.specs.declared.Step.TheVariants.{Deliver, Request}
use Rattle.model_paxos.proofs.Sets.{has←, meet}
use Rattle.model_protocol.specs.Batch.{Batch}
use Rattle.model_protocol.specs.declared.World.{World}
use Rattle.model_protocol.specs.Step.{run}
use Rattle.model_protocol.specs.World.{fresh_world}
use Rattle.model_agreement.specs.Claim.{IsSequence}
use Rattle.model_agreement.specs.Content.{request}
use Rattle.model_agreement.specs.History.{Accepts, asked, delivered, history, history_from, later, noted, setup}
use Rattle.model_agreement.proofs.Theorem.{demand_3, one_sequence}
use Rattle.model_finish.specs.Cases.{decided_by0, queued_at}
use Rattle.model_finish.specs.Choice.{choice_of}
use Rattle.model_finish.specs.Claims.{CatchesUp, Decides, Finished, Lowest}
use Rattle.model_finish.specs.Closing.{closing}
use Rattle.model_finish.specs.Such.{current_of}
use Rattle.model_finish.proofs.Cases.{listed}
use Rattle.model_finish.proofs.ChoiceLaws.{choice_exactly}
use Rattle.model_finish.proofs.Theorem.{closes_in_sequence}

-- the list of the choice, where that is coordinator c with ballot b
chosen_finishes : (steps : List Step) (c b : ℕ) → let w = run fresh_world steps in ((choice_of w).coord ≡ c) × ((choice_of w).ballot ≡ b) → 0 < b
    → (s t : List Batch) → IsSequence (history steps) s → IsSequence (history (steps ++ closing w c b)) t
    → Finished steps (closing w c b) c (current_of w c) s t
chosen_finishes steps c b (is-coord, is-ballot) h =
    let w = run fresh_world steps in
    let lowest : Lowest w c b = subst₂ (Lowest w) is-coord is-ballot ((choice_exactly w).lowest (omega arith)) in
    closes_in_sequence steps c b lowest.such lowest.ballot

-- ---- coordinator 0 decided a take in instance 0, and coordinator 1 has an entry

abbrev behind : List Step
behind = decided_by0 ++ Request (take_entry 2 1 1) 1 ∷ Deliver 11 ∷ []

abbrev behind_world : World
behind_world = run fresh_world behind

one_is_chosen : ((choice_of behind_world).coord ≡ 1) × ((choice_of behind_world).ballot ≡ 4)
unfolding listed
one_is_chosen = (refl, refl)

applied_behind : (current_of behind_world 0 ≡ 1) × (current_of behind_world 1 ≡ 0)
unfolding listed
applied_behind = (refl, refl)

pub behind_catches_up : (s t : List Batch) → IsSequence (history behind) s → IsSequence (history (behind ++ closing behind_world 1 4)) t
    → CatchesUp s t (current_of behind_world 1)
behind_catches_up s t is it = elim (chosen_finishes behind 1 4 one_is_chosen (omega arith) s t is it).which [
  | inl x ↦ x
  | inr x ↦ absurd (omega (arith, x.at_end, applied_behind.1, one_decided))
]
  where
    one_decided : 1 ≤ length s
    one_decided =
        subst (λ (x : List Batch). 1 ≤ length x) (one_sequence (demand_3 behind).sequence s (demand_3 behind).is_sequence is)
        (subst (λ (n : ℕ). n ≤ length (demand_3 behind).sequence) applied_behind.0 ((demand_3 behind).applied_within 0))

-- ---- coordinator 0 has an entry, and nothing was decided

abbrev begun : List Step
begun = queued_at 3 0

abbrev begun_world : World
begun_world = run fresh_world begun

zero_is_chosen : ((choice_of begun_world).coord ≡ 0) × ((choice_of begun_world).ballot ≡ 3)
unfolding listed
zero_is_chosen = (refl, refl)

begun_history : history begun ≡ delivered 0 (request 0 (take_entry 1 1 0)) ∷ asked (take_entry 1 1 0) ∷ setup 3 ∷ []
unfolding listed history_from noted
begun_history = refl

none_accepted : {m n k i b a : ℕ} {e x : Entry} {v : Batch} → Accepts i b a v (delivered m (request k e) ∷ asked x ∷ setup n ∷ []) → ⊥
none_accepted (later (later (later y))) = elim y [ ]

pub begun_decides : (s t : List Batch) → IsSequence (history begun) s → IsSequence (history (begun ++ closing begun_world 0 3)) t
    → Decides s t (current_of begun_world 0)
begun_decides s t is it = elim (chosen_finishes begun 0 3 zero_is_chosen (omega arith) s t is it).which [
  | inl x ↦ absurd (nothing_decided (omega (arith, x.behind)))
  | inr x ↦ x
]
  where
    nothing_decided : 0 < length s → ⊥
    nothing_decided h =
        let x = (is.decided 0 h).1 in
        let a = meet _ x.set x.set x.most x.most in
        none_accepted (subst (Accepts _ _ _ _) begun_history (x.all a.0 (has← x.set a.0 a.1)))
