-- Lists of steps that are all accepted, and what holds after them of the world and the history.
use Prim.Native.Nat.{ℕ, suc, ◌<◌}
use native.Mathlib.Omega.{arith}
use mathlib.Core.List.{List, [], ◌∷◌, ◌++◌}
use mathlib.Core.Path.{◌≡◌, ap, refl, subst, subst₂, sym}
use Rattle.log_entry.specs.Refusal.{accepted}
use Rattle.model_steps.specs.declared.Step.{Step}
use Rattle.model_steps.specs.declared.Step.TheVariants.{Deliver}
use Rattle.model_protocol.specs.declared.Stepped.{Stepped}
use Rattle.model_protocol.specs.declared.World.{World}
use Rattle.model_protocol.specs.Step.{answered, run, step_of}
use Rattle.model_agreement.specs.History.{Event, history_from, note, noted}
use Rattle.model_agreement.proofs.AllInvariants.{Good, good_step}
use Rattle.model_finish.specs.Claims.{AllAccepted}
use Rattle.model_finish.specs.Closing.{deliveries}

-- what holds of a world and a history
abbrev pub Holding : Type 1
Holding = World → List Event → Type 0

-- the step is accepted, and then Q holds
abbrev pub Goes : World → List Event → Step → Holding → Type 0
Goes w h s Q = ((step_of w s).answer ≡ accepted) × Q (step_of w s).world (noted w s h)

-- what holds of every reachable world holds after it, too
pub goes_to : (Q : Holding) (w : World) (h : List Event) (s : Step) (v : World) → Good w h → step_of w s ≡ answered v accepted
    → (Good v (note w s h) → Q v (note w s h)) → Goes w h s Q
unfolding noted
goes_to Q w h s v G e q =
    let a : (step_of w s).answer ≡ accepted = ap (λ (x : Stepped). x.answer) e in
    let v-is : (step_of w s).world ≡ v = ap (λ (x : Stepped). x.world) e in
    let g : Good v (note w s h) = subst (λ (x : World). Good x (note w s h)) v-is (rw a at (good_step s w h G)) in
    (a, rw a (subst₂ Q (sym v-is) refl (q g)))

-- all steps are accepted, and then Q holds
abbrev pub Ends : World → List Event → List Step → Holding → Type 0
Ends w h [] Q = Q w h
Ends w h (s ∷ steps) Q = Goes w h s (λ v g. Ends v g steps Q)

pub ends_append : (P Q : Holding) (xs ys : List Step) → ((w : World) (h : List Event) → P w h → Ends w h ys Q)
    → (w : World) (h : List Event) → Ends w h xs P → Ends w h (xs ++ ys) Q
ends_append P Q [] ys f w h p = f w h p
ends_append P Q (x ∷ xs) ys f w h p = (p.0, ends_append P Q xs ys f (step_of w x).world (noted w x h) p.1)

pub ends_as : (P Q : Holding) → ((w : World) (h : List Event) → P w h → Q w h) → (xs : List Step) (w : World) (h : List Event)
    → Ends w h xs P → Ends w h xs Q
ends_as P Q f [] w h p = f w h p
ends_as P Q f (x ∷ xs) w h p = (p.0, ends_as P Q f xs (step_of w x).world (noted w x h) p.1)

-- deliveries, one after the other: P k holds before the one of place k
pub ends_deliveries : (P : ℕ → Holding) (number : ℕ → ℕ) (m : ℕ)
    → ((k : ℕ) → k < m → (w : World) (h : List Event) → P k w h → Goes w h (Deliver (number k)) (P (suc k)))
    → (w : World) (h : List Event) → P 0 w h → Ends w h (deliveries number m) (P m)
unfolding deliveries
ends_deliveries P number ℕ.zero f w h p = p
ends_deliveries P number (suc m) f w h p =
    ends_append (P m) (P (suc m)) (deliveries number m) (Deliver (number m) ∷ []) (f m (omega arith)) w h
    (ends_deliveries P number m (λ k l. f k (omega arith)) w h p)

pub ends_accepted : (Q : Holding) (steps : List Step) (w : World) (h : List Event) → Ends w h steps Q → AllAccepted w steps
ends_accepted Q [] w h p = tt
ends_accepted Q (s ∷ steps) w h p = (p.0, ends_accepted Q steps (step_of w s).world (noted w s h) p.1)

pub ends_hold : (Q : Holding) (steps : List Step) (w : World) (h : List Event) → Ends w h steps Q → Q (run w steps) (history_from w h steps)
unfolding run history_from
ends_hold Q [] w h p = p
ends_hold Q (s ∷ steps) w h p = ends_hold Q steps (step_of w s).world (noted w s h) p.1
