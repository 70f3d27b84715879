-- What the tests of a query come to: the answer, and the second buffer afterwards.
use Prim.Native.Nat.{ℕ, ◌<◌, ◌≤◌}
use mathlib.Core.Bool.{Bool, false, true}
use mathlib.Core.List.{List}
use mathlib.Core.Path.{◌≡◌, refl, ◌∙◌}
use borrow.Author.Tests.{le-ltb, lt-ltb}
use Rattle.std.proofs.Common.{Err}
use lib.Dec.{ltb}
use lib.ListN.{length}
use lib.Seq.{sets}
use Rattle.log_entry.specs.declared.refusal.Refusal.{Refusal}
use Rattle.log_entry.specs.Number.{Answer}
use Rattle.log_entry.specs.Refusal.{accepted, first_refusal, outside_limits, no_place}
use Rattle.log_core.specs.declared.Entered.{Entered}
use Rattle.release_log.specs.Parts.{place_answer, place_bytes}
use Rattle.release_log.specs.Query.{Query, bytes_after, query_answer}

module _ (value out : List ℕ) where
  pub no_place_lem : length out < length value → (no_place ≡ place_answer value out) × (out ≡ place_bytes value out)
  unfolding place_answer place_bytes
  no_place_lem h = (rw (lt-ltb (length out) (length value) h), rw (lt-ltb (length out) (length value) h))

  pub place : length value ≤ length out → (accepted ≡ place_answer value out) × (sets out 0 value ≡ place_bytes value out)
  unfolding place_answer place_bytes
  place h = (rw (le-ltb (length out) (length value) h), rw (le-ltb (length out) (length value) h))

module _ (q : Query) (out : List ℕ) {t : Entered} (lent : t ≡ q.lent) where
  pub records_refused : {r : Refusal} → t.answer ≡ Err r → (Err r ≡ query_answer q out) × (out ≡ bytes_after q out)
  unfolding query_answer bytes_after first_refusal
  records_refused h = (rw (← lent, h), rw (← lent, h))

  module _ (accept : t.answer ≡ accepted) where
    pub numbers_outside : q.outside ≡ true → (outside_limits ≡ query_answer q out) × (out ≡ bytes_after q out)
    unfolding query_answer bytes_after first_refusal
    numbers_outside h = (rw (← lent, accept, h), rw (← lent, accept, h))

    pub value_placed : q.outside ≡ false → {value : List ℕ} → value ≡ q.value → {r : Answer} {after : List ℕ}
        → (r ≡ place_answer value out) × (after ≡ place_bytes value out) → (r ≡ query_answer q out) × (after ≡ bytes_after q out)
    unfolding query_answer bytes_after first_refusal place_answer place_bytes
    value_placed h {value} v p = (p.0 ∙ rw (← lent, accept, h, ← v), p.1 ∙ split (ltb (length out) (length value)) refl)
      where
        split : (t : Bool) → ltb (length out) (length value) ≡ t → place_bytes value out ≡ bytes_after q out
        split false e = rw (← lent, accept, h, ← v, e)
        split true e = rw (← lent, accept, h, ← v, e)
