-- The store that a process holds, looked for from a store on.
use Prim.Native.Nat.{ℕ, ◌+◌, ◌<◌, ◌≤◌}
use mathlib.Core.List.{List}
use mathlib.Core.Path.{◌≡◌}
use native.Mathlib.Numerals.{add-one}
use borrow.Author.Tests.{eq-eqb, ne_eqb}
use lib.ListN.{drop, drop_of_length-le, get_or, length}
use lib.Seq.{drop-cons}
use Rattle.model_protocol.specs.Step.{held_from}

module _ (process : ℕ) (holders : List ℕ) (s : ℕ) where
  pub held_here : s < length holders → get_or holders s 0 ≡ process → held_from process s (drop s holders) ≡ s
  unfolding held_from
  held_here h e = rw (drop-cons holders s 0 h, eq-eqb (get_or holders s 0) process e)

  pub held_later : s < length holders → (get_or holders s 0 ≡ process → ⊥)
      → held_from process s (drop s holders) ≡ held_from process (s + 1) (drop (s + 1) holders)
  unfolding held_from
  held_later h e = rw (drop-cons holders s 0 h, ne_eqb (get_or holders s 0) process e, add-one s)

  pub held_none : length holders ≤ s → held_from process s (drop s holders) ≡ s
  unfolding held_from
  held_none h = rw (drop_of_length-le holders h)

pub ruleset held = (held_here, held_later, held_none)
