-- A number beyond a byte is outside its limits.
use Rattle.log_entry.specs.Entry.{by_of, is_take, list_of, tx_of, update_in}
use Prim.Native.Nat.{ℕ, ◌≤◌}
use native.Mathlib.Omega.{arith}
use mathlib.Core.Bool.{Bool, true, false, ◌&&◌, ◌||◌, not, false≢true}
use mathlib.Core.List.{List, [], ◌∷◌}
use mathlib.Core.Logic.{inl, inr}
use mathlib.Core.Path.{◌≡◌, refl, ap}
use lib.Dec.{eqb, leb, ltb}
use borrow.Author.Tests.{leb-true, le-leb, lt-ltb}
use Rattle.log_entry.specs.declared.Entry.{Entry}
use Rattle.log_entry.specs.Entry.{no_process, no_turn, outside}
use Rattle.log_entry.specs.Limits.{lists_of, no_list, no_store, no_transaction, processes, stores_of, transactions_of, turns, updates}
use Rattle.log_entry.proofs.LimitLaws.{lists_within, stores_within, transactions_within}
use Rattle.text_entry.specs.Entry.{HasTextIn, Way, beyond, numbers}
use Rattle.text_entry.specs.Table.{any_beyond, no_byte}

-- one of the numbers is beyond a byte
abbrev pub Whichever : Type 0 → List ℕ → Type 0
Whichever P [] = Unit {0}
Whichever P (n ∷ ns) = (256 ≤ n → P) × Whichever P ns

pub beyond_cases : (P : Type 0) (ns : List ℕ) → Whichever P ns → any_beyond ns ≡ true → P
beyond_cases P [] c h = absurd (false≢true h)
beyond_cases P (n ∷ ns) c h = go (no_byte n) refl h (beyond_cases P ns c.1)
  where
    go : (b : Bool) → no_byte n ≡ b → (b || any_beyond ns) ≡ true → (any_beyond ns ≡ true → P) → P
    go true k h later = c.0 (leb-true 256 n k)
    go false k h later = later h

module _ (a b c : Bool) where
  pub first_of : a ≡ true → (a || b || c) ≡ true
  first_of h = rw h

  pub second_of : b ≡ true → (a || b || c) ≡ true
  second_of h = elim a as (λ x. (x || b || c) ≡ true) [ true ↦ refl | false ↦ rw h ]

  pub third_of : c ≡ true → (a || b || c) ≡ true
  third_of h = elim (a || b) as (λ x. (x || c) ≡ true) [ true ↦ refl | false ↦ h ]

pub no_such_process : (p : ℕ) → 256 ≤ p → no_process p ≡ true
no_such_process p h = elim (eqb p 0) as (λ x. (x || ltb processes p) ≡ true) [ true ↦ refl | false ↦ lt-ltb processes p (omega arith) ]

pub no_such_turn : (t : ℕ) → 256 ≤ t → no_turn t ≡ true
no_such_turn t h = elim (eqb t 0) as (λ x. (x || ltb turns t) ≡ true) [ true ↦ refl | false ↦ lt-ltb turns t (omega arith) ]

-- the parts of a vote's limits that a take has none of, in a log of limit n
module _ (n : ℕ) (e : Entry) where
  others : Bool
  others = no_store n (by_of e) || no_transaction n (tx_of e) || no_list n (list_of e) || leb updates (update_in e)

  abbrev process : Bool
  process = no_process e.process

  abbrev turn : Bool
  turn = no_turn e.turn

  abbrev store : Bool
  store = no_store n e.store

  one_outside : (process || turn || store) ≡ true → outside n e ≡ true
  unfolding outside others
  one_outside h = ap (λ (b : Bool). b || not (is_take e) && others) h

  process_outside : 256 ≤ e.process → outside n e ≡ true
  process_outside h = one_outside (first_of process turn store (no_such_process e.process h))

  turn_outside : 256 ≤ e.turn → outside n e ≡ true
  turn_outside h = one_outside (second_of process turn store (no_such_turn e.turn h))

  store_outside : 256 ≤ e.store → outside n e ≡ true
  store_outside h = one_outside (third_of process turn store (le-leb (stores_of n) e.store (omega (arith, stores_within n))))

  others_outside : others ≡ true → (is_take e) ≡ false → outside n e ≡ true
  unfolding outside others
  others_outside h t = third_of (process || turn) store (not (is_take e) && others) (rw t h)

  by_outside : 256 ≤ (by_of e) → (is_take e) ≡ false → outside n e ≡ true
  unfolding others
  by_outside h = others_outside (rw (le-leb (stores_of n) (by_of e) (omega (arith, stores_within n))))

  tx_outside : 256 ≤ (tx_of e) → (is_take e) ≡ false → outside n e ≡ true
  unfolding others
  tx_outside h =
      others_outside
      (ap (λ (b : Bool). b || leb updates (update_in e)) (second_of (no_store n (by_of e)) (no_transaction n (tx_of e)) (no_list n (list_of e)) (le-leb (transactions_of n) (tx_of e) (omega (arith, transactions_within n)))))

  list_outside : 256 ≤ (list_of e) → (is_take e) ≡ false → outside n e ≡ true
  unfolding others
  list_outside h =
      others_outside
      (ap (λ (b : Bool). b || leb updates (update_in e)) (third_of (no_store n (by_of e)) (no_transaction n (tx_of e)) (no_list n (list_of e)) (le-leb (lists_of n) (list_of e) (omega (arith, lists_within n)))))

-- what a take does not use is no number beyond a byte
no_number : (n : ℕ) → n ≡ 0 → 256 ≤ n → ⊥
no_number n h k = omega arith

pub beyond_is_outside : (n : ℕ) (w : Way) (e : Entry) → HasTextIn w e → beyond e ≡ true → outside n e ≡ true
beyond_is_outside n w e (t, inl h) =
    beyond_cases (outside n e ≡ true) (numbers e) (
      process_outside n e,
      (
        turn_outside n e,
        (
          (λ m. absurd (no_number (by_of e) (ap (λ (x : Entry). (by_of x)) h) m)),
          (
            store_outside n e,
            (
              (λ m. absurd (no_number (tx_of e) (ap (λ (x : Entry). (tx_of x)) h) m)),
              ((λ m. absurd (no_number (list_of e) (ap (λ (x : Entry). (list_of x)) h) m)), tt),
            ),
          ),
        ),
      ),
    )
beyond_is_outside n w e (t, inr h) =
    beyond_cases (outside n e ≡ true) (numbers e) (
      process_outside n e,
      (
        turn_outside n e,
        ((λ m. by_outside n e m h.0), (store_outside n e, ((λ m. tx_outside n e m h.0), ((λ m. list_outside n e m h.0), tt)))),
      ),
    )
