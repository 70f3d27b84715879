-- Such a coordinator closes its current instance by its list, and what that means for the sequence.
use Prim.Native.Nat.{ℕ, suc, ◌+◌, ◌*◌, ◌≤◌, ◌<◌}
use native.Mathlib.Decide.{ℕ_discrete, dec_lt}
use native.Mathlib.Omega.{arith}
use mathlib.Core.List.{List, [], ◌∷◌, ◌++◌}
use mathlib.Core.Logic.{◌⊎◌, inl, inr, ◌≢◌}
use mathlib.Core.Path.{◌≡◌, ap, refl, subst, sym, ◌∙◌}
use lib.ListN.{get_or, length, length-append, take}
use lib.Seq.{take_all, take-suc}
use Rattle.model_paxos.specs.Majority.{Majority}
use Rattle.model_paxos.proofs.Sets.{has→}
use Rattle.model_steps.specs.declared.Step.{Step}
use Rattle.model_steps.specs.declared.Step.TheVariants.{Deliver}
use Rattle.model_owners.specs.Owners.{owner}
use Rattle.model_protocol.specs.declared.World.{World}
use Rattle.model_protocol.specs.Batch.{Batch, no_batch}
use Rattle.model_protocol.specs.Step.{run, step_of}
use Rattle.model_protocol.specs.World.{fresh_world}
use Rattle.model_agreement.specs.Claim.{Claim, IsSequence, batch_at}
use Rattle.model_agreement.specs.History.{Accepts, Applied, Decided, acceptors, history, history_from}
use Rattle.model_agreement.specs.Plain.{plain_log}
use Rattle.model_agreement.proofs.AllInvariants.{good, history_append}
use Rattle.model_agreement.proofs.Theorem.{demand_3, one_sequence}
use Rattle.model_finish.specs.Claims.{CatchesUp, Closes, ClosesInSequence, Decides, Finished, ListIsTold, SuchCloses, Told}
use Rattle.model_finish.specs.Closing.{accept_number, accepted_number, closing, deliveries, prepare_number, promise_number}
use Rattle.model_finish.specs.Delivered.{Proposed, after_acceptances}
use Rattle.model_finish.specs.Such.{OwnBallot, Such, current_of, quorum, up_acceptor}
use Rattle.model_finish.proofs.Contents.{before_list}
use Rattle.model_finish.proofs.Counting.{is_majority}
use Rattle.model_finish.proofs.Phases.{Closed, closing_ends}
use Rattle.model_finish.proofs.Running.{Ends, ends_accepted, ends_hold}
use Rattle.model_finish.proofs.UpAcceptors.{asked_are_lowest}

deliveries_length : (number : ℕ → ℕ) (m : ℕ) → length (deliveries number m) ≡ m
unfolding deliveries
deliveries_length number ℕ.zero = refl
deliveries_length number (suc m) = length-append (deliveries number m) (Deliver (number m) ∷ []) ∙ omega (arith, deliveries_length number m)

pub closing_length : (w : World) (c b : ℕ) → length (closing w c b) ≡ 2 + 4 * quorum w.acceptors
unfolding closing
closing_length w c b =
    simp length-append
    (omega (arith, deliveries_length (prepare_number w) m, deliveries_length (promise_number w) m, deliveries_length (accept_number w) m, deliveries_length (accepted_number w) m))
  where
    m : ℕ
    m = quorum w.acceptors

-- the list is run to its end
closing_runs : (steps : List Step) (b : ℕ) → let w = run fresh_world steps in Such w (owner b) → OwnBallot w (owner b) b
    → Ends w (history steps) (closing w (owner b) b) (Closed w (history steps) b)
closing_runs steps b such ballot =
    let w = run fresh_world steps in
    closing_ends w (history steps) b such ballot (asked_are_lowest w (owner b) such) (good steps)

owner_closes : (steps : List Step) (b : ℕ) → let w = run fresh_world steps in Such w (owner b) → OwnBallot w (owner b) b
    → Closes w (owner b) (closing w (owner b) b)
owner_closes steps b such ballot =
    let w = run fresh_world steps in
    let ends = closing_runs steps b such ballot in
    let end = (ends_hold _ (closing w (owner b) b) w (history steps) ends).learned in
    record {
      size = closing_length w (owner b) b;
      answered = ends_accepted _ (closing w (owner b) b) w (history steps) ends;
      applied = (end.after refl).0;
      only = end.frame.only;
      sent = omega (arith, end.sent);
    }

pub such_closes : SuchCloses
such_closes steps c b such ballot =
    subst (λ (k : ℕ). Such w k → OwnBallot w k b → Closes w k (closing w k b)) ballot.own (owner_closes steps b) such ballot
  where
    w : World
    w = run fresh_world steps

-- ---- with demand 3

pub run_append : (steps next : List Step) (w : World) → run w (steps ++ next) ≡ run (run w steps) next
unfolding run
run_append [] next w = refl
run_append (s ∷ steps) next w = run_append steps next (step_of w s).world

-- a longer sequence than s, whose batches but for that of i are of s, is s or has one batch more
module _ (s t : List Batch) (i : ℕ) (begins : s ≡ take (length s) t) (within : i ≤ length s) (beyond : i + 1 ≤ length t)
    (others : (j : ℕ) → j < length t → j ≢ i → j < length s) where
  -- what stands behind s in t is the batch of i
  no_further : length t ≤ length s ⊎ (length t ≡ suc (length s)) × (i ≡ length s)
  no_further = elim (dec_lt (length s) (length t)) [
    | yes h ↦ inr (here h (ℕ_discrete (length s) i))
    | no h ↦ inl (omega arith)
  ]
    where
      last : i ≡ length s → length t ≤ suc (length s)
      last e = elim (dec_lt (suc (length s)) (length t)) [
        | yes g ↦ omega (arith, others (suc (length s)) g (omega arith))
        | no g ↦ omega arith
      ]

      here : length s < length t → Dec (length s ≡ i) → (length t ≡ suc (length s)) × (i ≡ length s)
      here h (yes e) = (omega (arith, last (sym e)), sym e)
      here h (no e) = absurd (omega (arith, others (length s) h e))

  which : CatchesUp s t i ⊎ Decides s t i
  which = go no_further
    where
      go : length t ≤ length s ⊎ (length t ≡ suc (length s)) × (i ≡ length s) → CatchesUp s t i ⊎ Decides s t i
      go (inl h) = inl (record { behind = omega arith; stays = sym (begins ∙ take_all (length s) t h) })
      go (inr (e, d)) =
          inr (record {
            at_end = d;
            batch = get_or t (length s) no_batch;
            grows =
                sym (take_all (suc (length s)) t (omega arith))
                ∙ take-suc t (length s) no_batch (omega arith)
                ∙ ap (λ (x : List Batch). x ++ get_or t (length s) no_batch ∷ []) (sym begins);
          })

module _ (steps : List Step) (b : ℕ) (such : Such (run fresh_world steps) (owner b)) (ballot : OwnBallot (run fresh_world steps) (owner b) b) where
  abbrev c : ℕ
  c = owner b

  abbrev w : World
  w = run fresh_world steps

  abbrev i : ℕ
  i = current_of w c

  abbrev list : List Step
  list = closing w c b

  abbrev all : List Step
  all = steps ++ list

  at_end : Closed w (history steps) b (run w list) (history_from w (history steps) list)
  at_end = ends_hold _ list w (history steps) (closing_runs steps b such ballot)

  -- both by the whole list of steps
  whole_run : run fresh_world all ≡ run w list
  whole_run = run_append steps list fresh_world

  whole_history : history all ≡ history_from w (history steps) list
  whole_history = history_append steps list fresh_world []

  whole_told : history all ≡ after_acceptances w c b at_end.batch (history steps)
  whole_told = whole_history ∙ at_end.learned.told

  owner_told : Told w c b (history steps) (history all)
  owner_told = record { batch = at_end.batch; by_rule = at_end.by_rule; told = whole_told }

  applied : current_of (run fresh_world all) c ≡ i + 1
  applied = ap (λ (v : World). current_of v c) whole_run ∙ (at_end.learned.after refl).0

  as_many : acceptors (history all) ≡ acceptors (history steps)
  as_many = (good all).number ∙ ap (λ (v : World). v.acceptors) whole_run ∙ at_end.learned.frame.only.acceptors ∙ sym (good steps).number

  -- an instance other than i was decided before
  decided_before : (j d : ℕ) (v : Batch) → j ≢ i → Decided (acceptors (history all)) j d v (history all)
      → Decided (acceptors (history steps)) j d v (history steps)
  decided_before j d v ne x = record {
    set = x.set;
    most = subst (λ (n : ℕ). Majority n x.set) as_many x.most;
    all = λ a h. before_list w c b at_end.batch (history steps) ne (subst (Accepts j d a v) whole_told (x.all a h));
  }

  -- and this one is decided now: the m acceptors accepted the batch that was proposed
  decided_now : Decided (acceptors (history all)) i b at_end.batch (history all)
  decided_now =
      let q = (at_end.learned.after refl).1.0 in
      let counted = (at_end.learned.after refl).1.1 in
      record {
        set = q;
        most = subst (λ (n : ℕ). Majority n q) (sym (as_many ∙ (good steps).number)) (is_majority (up_acceptor w) w.acceptors q counted);
        all =
            λ a h.
            let j = counted.only a (has→ q a h) in
            subst (λ (k : ℕ). Accepts i b k at_end.batch (history all)) j.2
            (subst (Accepts i b (up_acceptor w j.0) at_end.batch) (sym whole_history) (at_end.learned.voted j.0 j.1));
      }

  module _ (s t : List Batch) (is : IsSequence (history steps) s) (it : IsSequence (history all) t) where
    before : Claim steps (history steps) w
    before = demand_3 steps

    after : Claim all (history all) (run fresh_world all)
    after = demand_3 all

    same_before : before.sequence ≡ s
    same_before = one_sequence before.sequence s before.is_sequence is

    same_after : after.sequence ≡ t
    same_after = one_sequence after.sequence t after.is_sequence it

    others : (j : ℕ) → j < length t → j ≢ i → j < length s
    others j h ne = let x = it.decided j h in (is.all (decided_before j x.0 (batch_at t j) ne x.1)).0

    owner_finished : Finished steps list c i s t
    owner_finished = record {
      before = before.applied c;
      after = subst (λ (p : ℕ). Applied (acceptors (history all)) c p (history all)) applied (after.applied c);
      which =
          which s t i
          (subst (λ (x : List Batch). x ≡ take (length x) t) same_before (before.only_grows list t it))
          (subst (λ (x : List Batch). i ≤ length x) same_before (before.applied_within c))
          (subst (λ (p : ℕ). p ≤ length t) applied (subst (λ (x : List Batch). current_of (run fresh_world all) c ≤ length x) same_after (after.applied_within c)))
          others;
      holds = subst (Proposed w c) (sym (it.all decided_now).1) at_end.by_rule;
      log = after.logs c ∙ (λ k. plain_log (take (applied k) (same_after k)));
    }

pub list_is_told : ListIsTold
list_is_told steps c b such ballot =
    subst (λ (k : ℕ). Such w k → OwnBallot w k b → Told w k b (history steps) (history (steps ++ closing w k b))) ballot.own (owner_told steps b) such ballot
  where
    w : World
    w = run fresh_world steps

pub closes_in_sequence : ClosesInSequence
closes_in_sequence steps c b such ballot =
    subst
    (λ (k : ℕ).
    Such w k → OwnBallot w k b
    → (s t : List Batch) → IsSequence (history steps) s → IsSequence (history (steps ++ closing w k b)) t
    → Finished steps (closing w k b) k (current_of w k) s t)
    ballot.own
    (owner_finished steps b)
    such ballot
  where
    w : World
    w = run fresh_world steps
