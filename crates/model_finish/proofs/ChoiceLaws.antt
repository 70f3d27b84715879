-- The choice is the lowest such coordinator with its lowest ballot, and none where no coordinator
-- is such.
use Prim.Native.Nat.{ℕ, suc, ◌+◌, ◌-◌, ◌≤◌, ◌<◌}
use native.Mathlib.Decide.{ℕ_discrete}
use native.Mathlib.Omega.{arith}
use mathlib.Core.Bool.{Bool, true, false, ◌&&◌, not, cond}
use mathlib.Core.List.{[]}
use mathlib.Core.Logic.{◌⊎◌, inl, inr}
use mathlib.Core.Path.{◌≡◌, ap, refl, subst, sym, ◌∙◌}
use borrow.Author.Tests.{eq-eqb, eqb-false, eqb-true, le-leb, le-ltb, leb-true, lt-ltb, ltb-false, ltb-true, not-true}
use lib.Dec.{eqb, leb, ltb}
use lib.ListN.{length}
use Rattle.log_entry.proofs.Tests.{and_left, and_right, opposed, or_left, or_right}
use Rattle.model_steps.specs.declared.Role.TheVariants.{Coord}
use Rattle.model_steps.specs.Limits.{ballots, can_set_up, coordinators, fewest_acceptors, instances, messages, most_acceptors}
use Rattle.model_owners.specs.Owners.{owner}
use Rattle.model_protocol.specs.declared.Coordinator.{Coordinator}
use Rattle.model_protocol.specs.declared.World.{World}
use Rattle.model_protocol.specs.Send.{lacks_numbers}
use Rattle.model_protocol.specs.World.{coordinator_of, is_down, slot_of}
use Rattle.model_finish.specs.declared.Choice.{Choice}
use Rattle.model_finish.specs.Choice.{above, allows, ballot_of, choice_of, chosen, first_from, has_work, highest_promised, lowest_own, own_from}
use Rattle.model_finish.specs.Claims.{ChoiceExactly, Lowest, NothingExactly}
use Rattle.model_finish.specs.Closing.{closing, finishing}
use Rattle.model_finish.specs.Such.{OwnBallot, Such, current_of, numbers_needed, quorum, up_acceptors}
use Rattle.model_finish.proofs.SuchLaws.{three_or_five}
use Rattle.model_finish.proofs.Theorem.{closing_length}

-- ---- the first ballot of a coordinator from b on

-- of k ballots from b on, r is the first that is c's; 0 if none is
record FirstOwn (c b k r : ℕ) : Type 0 where
  none : r ≡ 0 → (d : ℕ) → b ≤ d → d < b + k → owner d ≡ c → ⊥
  from : 0 < r → b ≤ r
  below : 0 < r → r < b + k
  own : 0 < r → owner r ≡ c
  first : 0 < r → (d : ℕ) → b ≤ d → owner d ≡ c → r ≤ d

first_own : (c b k : ℕ) → 0 < b → FirstOwn c b k (own_from c b k)
unfolding own_from
first_own c b ℕ.zero h = record {
  none = λ e d g l o. omega arith;
  from = λ g. absurd (omega arith);
  below = λ g. absurd (omega arith);
  own = λ g. absurd (omega arith);
  first = λ g. absurd (omega arith);
}
first_own c b (suc k) h = go (eqb (owner b) c) refl (first_own c (suc b) k (omega arith))
  where
    go : (t : Bool) → eqb (owner b) c ≡ t → FirstOwn c (suc b) k (own_from c (suc b) k) → FirstOwn c b (suc k) (cond t b (own_from c (suc b) k))
    go true e f = record {
      none = λ z. absurd (omega arith);
      from = λ g. omega arith;
      below = λ g. omega arith;
      own = λ g. eqb-true (owner b) c e;
      first = λ g d l o. l;
    }
    go false e f = record {
      none = λ z d g l o. elim (ℕ_discrete d b) [
        | yes x ↦ eqb-false (owner b) c e (ap owner (sym x) ∙ o)
        | no x ↦ f.none z d (omega arith) (omega arith) o
      ];
      from = λ g. omega (arith, f.from g);
      below = λ g. omega (arith, f.below g);
      own = f.own;
      first = λ g d l o. elim (ℕ_discrete d b) [
        | yes x ↦ absurd (eqb-false (owner b) c e (ap owner (sym x) ∙ o))
        | no x ↦ f.first g d (omega arith) o
      ];
    }

-- ---- the ballot is above what was promised and opened

promised_within : (w : World) (i n a : ℕ) → a < n → (slot_of w a i).promised ≤ highest_promised w i n
unfolding highest_promised
promised_within w i ℕ.zero a h = absurd (omega arith)
promised_within w i (suc n) a h = go (ℕ_discrete a n) (promised_within w i n a)
  where
    go : Dec (a ≡ n) → (a < n → (slot_of w a i).promised ≤ highest_promised w i n) → (slot_of w a i).promised ≤ highest_promised w i (suc n)
    go (yes e) f = subst (λ (x : ℕ). (slot_of w x i).promised ≤ highest_promised w i (suc n)) (sym e) (omega arith)
    go (no e) f = omega (arith, f (omega arith))

promised_below : (w : World) (i n b : ℕ) → 0 < b → ((a : ℕ) → a < n → (slot_of w a i).promised < b) → highest_promised w i n < b
unfolding highest_promised
promised_below w i ℕ.zero b h f = h
promised_below w i (suc n) b h f = omega (arith, f n (omega arith), promised_below w i n b h (λ a g. f a (omega arith)))

module _ (w : World) (c : ℕ) where
  abbrev i : ℕ
  i = current_of w c

  above_is : {b : ℕ} → OwnBallot w c b → above w c < b
  above_is {b} o = omega (arith, o.above_opened, promised_below w i w.acceptors b o.positive o.above_promised)

  own_ballot : (b : ℕ) → 0 < b → b ≤ ballots → owner b ≡ c → above w c < b → OwnBallot w c b
  own_ballot b p h o a = record {
    positive = p;
    within = h;
    own = o;
    above_promised = λ x l. omega (arith, promised_within w i w.acceptors x l);
    above_opened = omega arith;
  }

  abbrev lowest : ℕ
  lowest = lowest_own c (above w c)

  lowest_first : FirstOwn c (suc (above w c)) (ballots - above w c) lowest
  lowest_first = first_own c (suc (above w c)) (ballots - above w c) (omega arith)

  lowest_is : 0 < lowest → OwnBallot w c lowest
  lowest_is h =
      let f = lowest_first in
      own_ballot lowest h (omega (arith, f.below h, f.from h)) (f.own h) (omega (arith, f.from h))

  lowest_least : 0 < lowest → (d : ℕ) → OwnBallot w c d → lowest ≤ d
  lowest_least h d o = lowest_first.first h d (above_is o) o.own

  lowest_there : {d : ℕ} → OwnBallot w c d → 0 < lowest
  lowest_there {d} o = elim (ℕ_discrete lowest 0) [
    | yes e ↦ absurd (lowest_first.none e d (above_is o) (omega (arith, above_is o, o.within)) o.own)
    | no e ↦ omega arith
  ]

  -- ---- the coordinator

  abbrev ready : Bool
  ready = not (is_down w.down Coord c) && has_work (coordinator_of w c)

  ballot_by : ballot_of w c ≡ cond ready lowest 0
  unfolding ballot_of
  ballot_by = refl

  -- where it can, it is up and has work
  can : 0 < ballot_of w c → (ready ≡ true) × (ballot_of w c ≡ lowest)
  can h = go ready refl
    where
      go : (t : Bool) → ready ≡ t → (ready ≡ true) × (ballot_of w c ≡ lowest)
      go true e = (e, ballot_by ∙ ap (λ (t : Bool). cond t lowest 0) e)
      go false e = let z : ballot_of w c ≡ 0 = ballot_by ∙ ap (λ (t : Bool). cond t lowest 0) e in absurd (omega arith)

  is_ready : Such w c → ready ≡ true
  is_ready s = rw (s.up, lt-ltb 0 (coordinator_of w c).queue.count s.queued, lt-ltb (coordinator_of w c).applied instances s.current)

  could : Such w c → ballot_of w c ≡ lowest
  could s = ballot_by ∙ ap (λ (t : Bool). cond t lowest 0) (is_ready s)

-- ---- the world

module _ (w : World) where
  abbrev n : ℕ
  n = w.acceptors

  allowed : (n ≡ fewest_acceptors) ⊎ (n ≡ most_acceptors) → quorum n ≤ length (up_acceptors w) → w.sent + numbers_needed n ≤ messages → allows w ≡ true
  unfolding allows
  allowed a q m = rw (set_up a, le-leb (quorum n) (length (up_acceptors w)) q, le-ltb (messages - w.sent) (numbers_needed n) (omega arith))
    where
      set_up : (n ≡ fewest_acceptors) ⊎ (n ≡ most_acceptors) → can_set_up n ≡ true
      set_up (inl e) = or_left (eqb n fewest_acceptors) (eqb n most_acceptors) (eq-eqb n fewest_acceptors e)
      set_up (inr e) = or_right (eqb n fewest_acceptors) (eqb n most_acceptors) (eq-eqb n most_acceptors e)

  allows_such : {c : ℕ} → Such w c → allows w ≡ true
  allows_such s = allowed s.set_up s.quorum_up s.numbers

  such_if : allows w ≡ true → (c : ℕ) → c < coordinators → 0 < ballot_of w c → Such w c
  unfolding allows
  such_if a c l h = record {
    coordinator = l;
    up = not-true (is_down w.down Coord c) (and_left (not (is_down w.down Coord c)) (has_work k) r);
    set_up = three_or_five n (and_left (can_set_up n) _ a₁);
    quorum_up = leb-true (quorum n) (length (up_acceptors w)) (and_right (can_set_up n) _ a₁);
    queued = ltb-true 0 k.queue.count (and_left _ (ltb k.applied instances) work);
    current = ltb-true k.applied instances (and_right (ltb 0 k.queue.count) _ work);
    ballot = (lowest w c, lowest_is w c (subst (λ (x : ℕ). 0 < x) (can w c h).1 h));
    numbers = omega (arith, ltb-false (messages - w.sent) (numbers_needed n) left);
  }
    where
      k : Coordinator
      k = coordinator_of w c

      r : ready w c ≡ true
      r = (can w c h).0

      work : has_work k ≡ true
      work = and_right (not (is_down w.down Coord c)) (has_work k) r

      a₁ : (can_set_up n && leb (quorum n) (length (up_acceptors w))) ≡ true
      a₁ = and_left (can_set_up n && leb (quorum n) (length (up_acceptors w))) (not (lacks_numbers w.sent (numbers_needed n))) a

      left : lacks_numbers w.sent (numbers_needed n) ≡ false
      left = not-true _ (and_right (can_set_up n && leb (quorum n) (length (up_acceptors w))) (not (lacks_numbers w.sent (numbers_needed n))) a)

  ballot_such : {c : ℕ} → Such w c → 0 < ballot_of w c
  ballot_such {c} s = subst (λ (x : ℕ). 0 < x) (sym (could w c s)) (lowest_there w c s.ballot.1)

  -- of the k coordinators from c on, x is the first that can; ballot 0 if none can
  record First (c k : ℕ) (x : Choice) : Type 0 where
    none : x.ballot ≡ 0 → (d : ℕ) → c ≤ d → d < c + k → ballot_of w d ≡ 0
    below : 0 < x.ballot → x.coord < c + k
    ballot : 0 < x.ballot → x.ballot ≡ ballot_of w x.coord
    first : 0 < x.ballot → (d : ℕ) → c ≤ d → 0 < ballot_of w d → x.coord ≤ d

  first_is : (c k : ℕ) → First c k (first_from w c k)
  unfolding first_from
  first_is c ℕ.zero = record {
    none = λ e d g l. absurd (omega arith);
    below = λ h. absurd (omega arith);
    ballot = λ h. absurd (omega arith);
    first = λ h. absurd (omega arith);
  }
  first_is c (suc k) = go (eqb (ballot_of w c) 0) refl (first_is (suc c) k)
    where
      go : (t : Bool) → eqb (ballot_of w c) 0 ≡ t → First (suc c) k (first_from w (suc c) k)
          → First c (suc k) (cond t (first_from w (suc c) k) (chosen c (ballot_of w c)))
      go true e f = record {
        none = λ z d g l. elim (ℕ_discrete d c) [
          | yes x ↦ ap (ballot_of w) x ∙ eqb-true (ballot_of w c) 0 e
          | no x ↦ f.none z d (omega arith) (omega arith)
        ];
        below = λ h. omega (arith, f.below h);
        ballot = f.ballot;
        first = λ h d g l. elim (ℕ_discrete d c) [
          | yes x ↦ absurd (omega (arith, ap (ballot_of w) x ∙ eqb-true (ballot_of w c) 0 e))
          | no x ↦ f.first h d (omega arith) l
        ];
      }
      go false e f = record {
        none = λ z. absurd (eqb-false (ballot_of w c) 0 e z);
        below = λ h. omega arith;
        ballot = λ h. refl;
        first = λ h d g l. g;
      }

  -- where the world does not allow it, nobody is chosen
  by_allows : choice_of w ≡ cond (allows w) (first_from w 0 coordinators) (chosen 0 0)
  unfolding choice_of
  by_allows = refl

  choice_allowed : allows w ≡ true → choice_of w ≡ first_from w 0 coordinators
  choice_allowed e = by_allows ∙ ap (λ (t : Bool). cond t (first_from w 0 coordinators) (chosen 0 0)) e

  abbrev IsFor : Choice → Type 0
  IsFor x = (x.ballot ≡ 0 → (c : ℕ) → Such w c → ⊥) × (0 < x.ballot → Lowest w x.coord x.ballot)

  among_first : allows w ≡ true → IsFor (first_from w 0 coordinators)
  among_first a = (
    λ e c s. omega (arith, f.none e c (omega arith) s.coordinator, ballot_such s),
    λ h.
        let k = f.ballot h in
        let p : 0 < ballot_of w x.coord = omega (arith, k) in
        let l = (can w x.coord p).1 in
        let q : 0 < lowest w x.coord = omega (arith, l) in
        record {
          such = such_if a x.coord (f.below h) p;
          ballot = subst (OwnBallot w x.coord) (sym (k ∙ l)) (lowest_is w x.coord q);
          lowest_coordinator = λ d s. f.first h d (omega arith) (ballot_such s);
          lowest_ballot = λ d o. omega (arith, k, l, lowest_least w x.coord q d o);
        },
  )
    where
      x : Choice
      x = first_from w 0 coordinators

      f : First 0 coordinators x
      f = first_is 0 coordinators

  is_for : IsFor (choice_of w)
  is_for = go (allows w) refl
    where
      go : (t : Bool) → allows w ≡ t → IsFor (choice_of w)
      go true a = subst IsFor (sym (choice_allowed a)) (among_first a)
      go false a =
          subst IsFor (sym (by_allows ∙ ap (λ (t : Bool). cond t (first_from w 0 coordinators) (chosen 0 0)) a))
          (λ e c s. opposed (allows_such s) a, λ h. absurd (omega arith))

pub choice_exactly : ChoiceExactly
choice_exactly w = record { none = (is_for w).0; lowest = (is_for w).1 }

-- a list is never empty
closing_some : (w : World) (c b : ℕ) → closing w c b ≡ [] → ⊥
closing_some w c b e = omega (arith, closing_length w c b, ap length e)

pub nothing_exactly : NothingExactly
nothing_exactly w = (λ e. (choice_exactly w).none (no_ballot_lem e), λ f. nothing f (ℕ_discrete (choice_of w).ballot 0))
  where
    no_ballot_lem : finishing w ≡ [] → (choice_of w).ballot ≡ 0
    no_ballot_lem e = go (eqb (choice_of w).ballot 0) refl e
      where
        go : (t : Bool) → eqb (choice_of w).ballot 0 ≡ t → cond t [] (closing w (choice_of w).coord (choice_of w).ballot) ≡ [] → (choice_of w).ballot ≡ 0
        go true h e = eqb-true (choice_of w).ballot 0 h
        go false h e = absurd (closing_some w _ _ e)

    nothing : ((c : ℕ) → Such w c → ⊥) → Dec ((choice_of w).ballot ≡ 0) → finishing w ≡ []
    nothing f (yes e) = rw (eq-eqb (choice_of w).ballot 0 e)
    nothing f (no e) = absurd (f (choice_of w).coord ((choice_exactly w).lowest (omega arith)).such)
