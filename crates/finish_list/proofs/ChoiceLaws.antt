-- The choice, coordinator by coordinator.
use Prim.Native.Nat.{ℕ, suc, ◌+◌, ◌-◌, ◌<◌, ◌≤◌, max, min}
use mathlib.Core.Bool.{Bool, true, false, ◌&&◌, not}
use mathlib.Core.List.{List}
use mathlib.Core.Path.{◌≡◌, refl, ap, sym, ◌∙◌}
use native.Mathlib.Numerals.{add-one}
use native.Mathlib.Omega.{arith}
use borrow.Author.Tests.{eq-eqb, ne_eqb}
use lib.Dec.{leb}
use lib.ListN.{length}
use Rattle.std.proofs.Common.{Some}
use Rattle.finish_list.specs.Found.{ChoiceIs}
use Rattle.model_steps.specs.declared.Role.TheVariants.{Coord}
use Rattle.model_steps.specs.Limits.{can_set_up, coordinators, most_acceptors}
use Rattle.model_protocol.specs.declared.Coordinator.{Coordinator}
use Rattle.model_protocol.specs.declared.World.{World}
use Rattle.model_protocol.specs.Send.{lacks_numbers}
use Rattle.model_protocol.specs.World.{coordinator_of, is_down}
use Rattle.model_finish.specs.declared.Choice.{Choice}
use Rattle.model_finish.specs.Choice.{allows, ballot_of, choice_of, chosen, first_from, has_work, highest_promised, lowest_own}
use Rattle.model_finish.specs.Such.{numbers_needed, quorum, up_acceptors, up_below}
use Rattle.model_finish.proofs.SuchLaws.{few_acceptors, three_or_five}

-- ---- what is asked for whichever the coordinator

set_up_few : (n : ℕ) → can_set_up n ≡ true → n ≤ most_acceptors
set_up_few n h = (few_acceptors n (three_or_five n h)).1

-- where there are at most five acceptors, all count
pub allows_is : (w : World) (up : List ℕ) → up ≡ up_below w.down (min w.acceptors most_acceptors)
    → (can_set_up w.acceptors && leb (quorum w.acceptors) (length up) && not (lacks_numbers w.sent (numbers_needed w.acceptors))) ≡ allows w
unfolding allows
allows_is w up is = go (can_set_up w.acceptors) refl
  where
    go : (s : Bool) → can_set_up w.acceptors ≡ s
        → (s && leb (quorum w.acceptors) (length up) && not (lacks_numbers w.sent (numbers_needed w.acceptors)))
        ≡ (s && leb (quorum w.acceptors) (length (up_acceptors w)) && not (lacks_numbers w.sent (numbers_needed w.acceptors)))
    go true e =
        let h = set_up_few w.acceptors e in
        let k : min w.acceptors most_acceptors ≡ w.acceptors = omega (arith, h) in
        ap (λ (n : ℕ). leb (quorum w.acceptors) n && not (lacks_numbers w.sent (numbers_needed w.acceptors)))
        (ap length is ∙ ap (λ (n : ℕ). length (up_below w.down n)) k)
    go false e = refl

-- ---- the ballot of a coordinator

pub ballot_of_down : (w : World) (c : ℕ) → is_down w.down Coord c ≡ true → 0 ≡ ballot_of w c
unfolding ballot_of
ballot_of_down w c h = rw h

module _ (w : World) (c : ℕ) {k : Coordinator} (is : k ≡ coordinator_of w c) where
  pub ballot_without_work : is_down w.down Coord c ≡ false → has_work k ≡ false → 0 ≡ ballot_of w c
  unfolding ballot_of
  ballot_without_work h g = let e : has_work (coordinator_of w c) ≡ false = ap has_work (sym is) ∙ g in rw (h, e)

  pub ballot_is : {p q r : ℕ} → is_down w.down Coord c ≡ false → has_work k ≡ true → p ≡ highest_promised w k.applied w.acceptors
      → q ≡ max k.round.ballot p → r ≡ lowest_own c q → r ≡ ballot_of w c
  unfolding ballot_of
  ballot_is h g ep eq er =
      let e : has_work (coordinator_of w c) ≡ true = ap has_work (sym is) ∙ g in
      rw (h, e)
      (er
      ∙ ap (lowest_own c) eq
      ∙ ap (λ (x : ℕ). lowest_own c (max k.round.ballot x)) ep
      ∙ ap (λ (x : Coordinator). lowest_own c (max x.round.ballot (highest_promised w x.applied w.acceptors))) is)

-- ---- the first coordinator that can

module _ (w : World) (c : ℕ) where
  module _ (h : c < coordinators) where
    one_more : coordinators - c ≡ suc (coordinators - (c + 1))
    one_more = omega arith

    first_found : (ballot_of w c ≡ 0 → ⊥) → chosen c (ballot_of w c) ≡ first_from w c (coordinators - c)
    unfolding first_from
    first_found k = rw (one_more, ne_eqb (ballot_of w c) 0 k)

    pub first_next : 0 ≡ ballot_of w c → first_from w c (coordinators - c) ≡ first_from w (c + 1) (coordinators - (c + 1))
    unfolding first_from
    first_next k =
        rw (one_more, eq-eqb (ballot_of w c) 0 (sym k)) (ap (λ (x : ℕ). first_from w x (coordinators - (c + 1))) (sym (add-one c)))

    pub chosen_first : {b : ℕ} {x : Choice} → b ≡ ballot_of w c → 0 < ballot_of w c → x ≡ first_from w c (coordinators - c) → ChoiceIs (Some (chosen c b)) x
    chosen_first {b} {x} e k is =
        let f : chosen c b ≡ x = ap (chosen c) e ∙ first_found (λ z. omega (arith, z)) ∙ sym is in
        (f, let g : b ≡ x.ballot = ap (λ (y : Choice). y.ballot) f in omega (arith, e))

  pub none_first : coordinators ≤ c → chosen 0 0 ≡ first_from w c (coordinators - c)
  unfolding first_from
  none_first h = let e : coordinators - c ≡ 0 = omega arith in rw e

-- ---- the choice

module _ (w : World) where
  pub none_chosen : allows w ≡ false → chosen 0 0 ≡ choice_of w
  unfolding choice_of
  none_chosen h = rw h

  pub first_chosen : allows w ≡ true → first_from w 0 coordinators ≡ choice_of w
  unfolding choice_of
  first_chosen h = rw h
