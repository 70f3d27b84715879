-- An accepted vote is of the turn of the holder.
use Prim.Native.Nat.{ℕ}
use mathlib.Core.Path.{◌≡◌}
use borrow.Author.Tests.{eqb-true, not-false}
use Rattle.log_entry.specs.Refusal.{accepted}
use Rattle.log_entry.specs.declared.Entry.{Entry}
use Rattle.log_votes.specs.declared.Row.{Row}
use Rattle.log_votes.specs.Claims.{OtherTurnNotKept}
use Rattle.log_votes.specs.Refusal.{vote_refusal}
use Rattle.log_votes.proofs.RefusalLaws.{accepted_tests}
use lib.Dec.{eqb}

pub accepted_turn : (r : Row) (holder turn : ℕ) (e : Entry) → vote_refusal r holder turn e ≡ accepted → turn ≡ e.turn
accepted_turn r holder turn e h = eqb-true turn e.turn (not-false (eqb turn e.turn) (accepted_tests r holder turn e h).2)

pub other_turn_not_kept : OtherTurnNotKept
other_turn_not_kept r holder turn e other h = other (accepted_turn r holder turn e h)
