-- A number beyond a byte is outside its limits.
use Prim.Native.Nat.{ℕ, ◌≤◌}
use native.Mathlib.Omega.{arith}
use mathlib.Core.Bool.{Bool, true, false, ◌||◌, not}
use mathlib.Core.List.{[], ◌∷◌, ◌++◌}
use mathlib.Core.Path.{◌≡◌, refl, sym, ◌∙◌}
use lib.Dec.{eqb, leb, ltb}
use borrow.Author.Tests.{le-leb, leb-true, lt-ltb, ne_eqb}
use Rattle.log_entry.specs.declared.Entry.{Entry}
use Rattle.log_entry.specs.Entry.{no_process, no_turn, outside}
use Rattle.log_entry.specs.Limits.{stores, transactions}
use Rattle.model_steps.specs.declared.Role.{Role}
use Rattle.model_steps.specs.declared.Role.TheVariants.{Acceptor, Coord, Proc}
use Rattle.model_steps.specs.declared.Step.{Step}
use Rattle.model_steps.specs.declared.Step.TheVariants.{Setup, Request, Open, Propose, Deliver, Tell, Restore, Follow, Crash, Back}
use Rattle.model_steps.specs.Limits.{ballots, coordinators, instances, messages, most_acceptors, no_ballot, no_coordinator, no_party, outside_step}
use Rattle.text_entry.specs.Entry as entry
use Rattle.text_entry.specs.Entry.{Way}
use Rattle.text_ascii.specs.Decimal.{byte_numbers}
use Rattle.text_entry.specs.Table.{any_beyond, no_byte}
use Rattle.text_entry.proofs.Beyond as texts
use Rattle.text_entry.proofs.Beyond.{beyond_cases, first_of, no_such_process, no_such_turn, second_of, third_of}
use Rattle.text_entry.proofs.Counts.{beyond_last}
use Rattle.text_step.specs.Step.{HasTextIn, beyond}

coordinator_beyond : (c : ℕ) → byte_numbers ≤ c → no_coordinator c ≡ true
coordinator_beyond c h = le-leb coordinators c (omega arith)

ballot_beyond : (b : ℕ) → byte_numbers ≤ b → no_ballot b ≡ true
ballot_beyond b h = elim (eqb b 0) as (λ x. (x || ltb ballots b) ≡ true) [ true ↦ refl | false ↦ lt-ltb ballots b (omega arith) ]

setup_beyond : (n : ℕ) → byte_numbers ≤ n → not (eqb n 3 || eqb n most_acceptors) ≡ true
setup_beyond n h = rw (ne_eqb n 3 (λ (e : n ≡ 3). omega arith), ne_eqb n most_acceptors (λ (e : n ≡ most_acceptors). omega arith))

or_left : (a b : Bool) → a ≡ true → (a || b) ≡ true
or_left a b h = rw h

or_right : (a b : Bool) → b ≡ true → (a || b) ≡ true
or_right true b h = refl
or_right false b h = h

round_beyond : (c i b : ℕ) → any_beyond (c ∷ i ∷ b ∷ []) ≡ true → (no_coordinator c || leb instances i || no_ballot b) ≡ true
round_beyond c i b =
    let x = no_coordinator c in
    let y = leb instances i in
    let z = no_ballot b in
    beyond_cases ((x || y || z) ≡ true) (c ∷ i ∷ b ∷ []) (
      (λ h. first_of x y z (coordinator_beyond c h)),
      ((λ h. second_of x y z (le-leb instances i (omega arith))), ((λ h. third_of x y z (ballot_beyond b h)), tt)),
    )

party_beyond : (n : ℕ) → n ≤ byte_numbers → (r : Role) (id : ℕ) → byte_numbers ≤ id → no_party n r id ≡ true
party_beyond n k Acceptor id h = le-leb n id (omega arith)
party_beyond n k Coord id h = coordinator_beyond id h
party_beyond n k Proc id h = no_such_process id h

-- the entry or its receiver
request_beyond : (w : Way) (e : Entry) (to : ℕ) → entry.HasTextIn w e → any_beyond (entry.numbers e ++ to ∷ []) ≡ true → (outside stores e || no_coordinator to) ≡ true
request_beyond w e to t h = go (entry.beyond e) (no_byte to) refl refl (sym (beyond_last (entry.numbers e) to) ∙ h)
  where
    go : (b c : Bool) → entry.beyond e ≡ b → no_byte to ≡ c → (b || c) ≡ true → (outside stores e || no_coordinator to) ≡ true
    go true c k m z = or_left (outside stores e) (no_coordinator to) (texts.beyond_is_outside stores w e t k)
    go false c k m z = or_right (outside stores e) (no_coordinator to) (coordinator_beyond to (leb-true byte_numbers to (m ∙ z)))

-- a coordinator, a process or a transaction
tell_beyond : (c p tx : ℕ) → any_beyond (c ∷ p ∷ tx ∷ []) ≡ true → (no_coordinator c || no_process p || leb transactions tx) ≡ true
tell_beyond c p tx =
    let x = no_coordinator c in
    let y = no_process p in
    let z = leb transactions tx in
    beyond_cases ((x || y || z) ≡ true) (c ∷ p ∷ tx ∷ []) (
      (λ h. first_of x y z (coordinator_beyond c h)),
      ((λ h. second_of x y z (no_such_process p h)), ((λ h. third_of x y z (le-leb transactions tx (omega arith))), tt)),
    )

-- the step has a number outside its limits, whichever of the numbers of acceptors counts
pub beyond_is_outside : (n : ℕ) → n ≤ byte_numbers → (w : Way) (s : Step) → HasTextIn w s → beyond s ≡ true → outside_step n s ≡ true
unfolding outside_step
beyond_is_outside n k w (Setup a) t = beyond_cases (not (eqb a 3 || eqb a most_acceptors) ≡ true) (a ∷ []) ((λ h. setup_beyond a h), tt)
beyond_is_outside n k w (Request e to) t = request_beyond w e to t
beyond_is_outside n k w (Open c i b) t = round_beyond c i b
beyond_is_outside n k w (Propose c i b) t = round_beyond c i b
beyond_is_outside n k w (Deliver m) t = beyond_cases (leb messages m ≡ true) (m ∷ []) ((λ h. le-leb messages m (omega arith)), tt)
beyond_is_outside n k w (Tell c p tx) t = tell_beyond c p tx
beyond_is_outside n k w (Restore c p) t =
    let x = no_coordinator c in
    let y = no_process p in
    beyond_cases ((x || y) ≡ true) (c ∷ p ∷ []) ((λ h. or_left x y (coordinator_beyond c h)), ((λ h. or_right x y (no_such_process p h)), tt))
beyond_is_outside n k w (Follow c p tx) t = tell_beyond c p tx
beyond_is_outside n k w (Crash r id) t = beyond_cases (no_party n r id ≡ true) (id ∷ []) ((λ h. party_beyond n k r id h), tt)
beyond_is_outside n k w (Back p turn) t =
    let x = no_process p in
    let y = no_turn turn in
    beyond_cases ((x || y) ≡ true) (p ∷ turn ∷ []) ((λ h. or_left x y (no_such_process p h)), ((λ h. or_right x y (no_such_turn turn h)), tt))
