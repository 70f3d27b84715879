-- The messages of the list accept nothing in another instance.
use Prim.Native.Nat.{ℕ, suc}
use native.Mathlib.Omega.{arith}
use mathlib.Core.List.{List, ◌∷◌}
use mathlib.Core.Logic.{◌≢◌}
use mathlib.Core.Path.{◌≡◌, refl, sym}
use Rattle.model_paxos.specs.Messages as message
use Rattle.model_paxos.specs.Messages.{accept, prepare, promise}
use Rattle.model_protocol.specs.Batch.{Batch}
use Rattle.model_protocol.specs.declared.World.{World}
use Rattle.model_agreement.specs.Content.{Content, paxos}
use Rattle.model_agreement.specs.History.{Accepts, Event, delivered, first, later, opened}
use Rattle.model_finish.specs.Closing.{accept_number, accepted_number, answering, prepare_number, promise_number}
use Rattle.model_finish.specs.Delivered.{accept_says, accepted_says, after_acceptances, after_accepts, after_prepares, after_promises, delivered_after, held_by, prepare_says, promise_says}
use Rattle.model_finish.specs.Such.{current_of, up_acceptor}

-- no accept of another instance than i
abbrev Elsewhere : ℕ → Content → Type 0
Elsewhere i x = (j d a : ℕ) (v : Batch) → j ≢ i → x ≡ paxos (accept j d a v) → ⊥

accepted_before : {i m j d a : ℕ} {v : Batch} {x : Content} {h : List Event} → Elsewhere i x → j ≢ i
    → Accepts j d a v (delivered m x ∷ h) → Accepts j d a v h
accepted_before other ne (first n) = absurd (other _ _ _ _ ne refl)
accepted_before other ne (later y) = y

no_prepare : (i b a : ℕ) → Elsewhere i (paxos (prepare i b a))
no_prepare i b a j d q v ne e = let z : ◌≡◌ {A = ℕ} 0 1 = cc in omega arith

no_promise : (i b a d : ℕ) (v : Batch) → Elsewhere i (paxos (promise i b a d v))
no_promise i b a d v j x q y ne e = let z : ◌≡◌ {A = ℕ} 0 1 = cc in omega arith

no_accepted : (i b a : ℕ) → Elsewhere i (paxos (message.accepted i b a))
no_accepted i b a j d q v ne e = let z : ◌≡◌ {A = ℕ} 0 1 = cc in omega arith

this_accept : (i b a : ℕ) (v : Batch) → Elsewhere i (paxos (accept i b a v))
this_accept i b a v j d q x ne e = let z : i ≡ j = cc in ne (sym z)

-- ---- what was accepted in another instance was accepted before the list

module _ {j d a : ℕ} {v : Batch} where
  -- before k deliveries
  before_run : {i : ℕ} (h : List Event) (number : ℕ → ℕ) (says : ℕ → Content) (k : ℕ) → ((q : ℕ) → Elsewhere i (says q)) → j ≢ i
      → Accepts j d a v (delivered_after h number says k) → Accepts j d a v h
  before_run h number says ℕ.zero other ne x = x
  before_run h number says (suc k) other ne x = before_run h number says k other ne (accepted_before (other k) ne x)

  before_opening : {c i b : ℕ} {h : List Event} → Accepts j d a v (opened c i b ∷ h) → Accepts j d a v h
  before_opening (later y) = y

  pub before_list : (w : World) (c b : ℕ) (x : Batch) (h : List Event) → j ≢ current_of w c
      → Accepts j d a v (after_acceptances w c b x h) → Accepts j d a v h
  before_list w c b x h ne y =
      let i = current_of w c in
      let m = answering w in
      let u = up_acceptor w in
      before_opening
      (before_run (opened c i b ∷ h) (prepare_number w) (prepare_says w c b) m (λ k. no_prepare i b (u k)) ne
      (before_run (after_prepares w c b h) (promise_number w) (promise_says w c b) m (λ k. no_promise i b (u k) (held_by w c k).ballot (held_by w c k).batch) ne
      (before_run (after_promises w c b h) (accept_number w) (accept_says w c b x) m (λ k. this_accept i b (u k) x) ne
      (before_run (after_accepts w c b x h) (accepted_number w) (accepted_says w c b) m (λ k. no_accepted i b (u k)) ne y))))
