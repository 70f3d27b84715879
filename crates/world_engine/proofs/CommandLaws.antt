-- One step taken, and the commands in turn.
use Prim.Native.Nat.{ℕ, ◌<◌, ◌+◌, ◌-◌, ◌≤◌}
use mathlib.Core.Bool.{true}
use mathlib.Core.List.{List, ◌∷◌}
use mathlib.Core.Path.{◌≡◌, subst, sym}
use native.Mathlib.Numerals.{add-one}
use native.Mathlib.Omega.{arith}
use lib.ListN.{drop, drop_of_length-le, get_or, length, set}
use lib.Seq.{drop-cons, sets}
use Rattle.log_entry.specs.Number.{Answer, answer_number}
use Rattle.model_steps.specs.declared.Step.{Step}
use Rattle.model_steps.specs.Commands.{Command}
use Rattle.model_steps.specs.Limits.{messages}
use Rattle.model_protocol.specs.declared.Change.{Change}
use Rattle.model_protocol.specs.declared.Message.{Message}
use Rattle.model_protocol.specs.declared.Parts.{Parts}
use Rattle.model_protocol.specs.declared.Places.{Places}
use Rattle.model_protocol.specs.declared.World.{World}
use Rattle.model_protocol.specs.Change.{is_given}
use Rattle.model_protocol.specs.Places.{message_at, places_of}
use Rattle.model_protocol.specs.Send.{copy_of, send_to_all}
use Rattle.model_protocol.specs.Step.{answered, message_for, parts_at, put_back, step_of}
use Rattle.model_protocol.specs.World.{coordinator_of, log_of, message_of, replay_with}
use Rattle.world_engine.specs.Changed.{change_in}
use Rattle.world_engine.specs.Commands.{answers_to, carried_out, world_after}
use Rattle.world_engine.proofs.Room.{Sends, step_fits, step_sends}
use Rattle.world_engine.proofs.Stepping.{step_is}

-- ---- the messages of a command have numbers

module _ (ch : Change) (s : Step) (p : Parts) (is : ch ≡ change_in s p) where
  pub count_fits : ch.count ≤ messages - p.sent
  count_fits = rw is (step_fits s p)

  -- so has the one with which a replay goes
  pub number_left : is_given ch.beside ≡ true → p.sent < messages
  number_left given =
      let some : 1 ≤ ch.count = subst Sends (sym is) (step_sends s p) given in
      let fits = count_fits in
      omega (arith, some, fits)

-- ---- one step

module _ (w : World) (s : Step) (from : ℕ) (at : Places) (m : Message) (p : Parts) (ch : Change) (u v : World) where
  pub step_taken : from ≡ message_at s → at ≡ places_of s (message_of w from)
      → m ≡ message_for s (message_of w from) (log_of w at.coordinator) (coordinator_of w at.coordinator).applied
      → p ≡ parts_at w at m → ch ≡ change_in s p → u ≡ put_back w at (replay_with w from) ch → v ≡ send_to_all u ch.count (copy_of ch.message)
      → answered v ch.answer ≡ step_of w s
  step_taken from_is at_is m_is p_is ch_is u_is v_is = rw (v_is, u_is, ch_is, p_is, m_is, at_is, from_is) (step_is w s)

-- ---- the commands in turn

module _ (xs : List Command) (k : ℕ) (d : Command) (h : k < length xs) (w v : World) (a : Answer) (v_is : v ≡ (carried_out w (get_or xs k d)).world) where
  pub world_turn : world_after w (drop k xs) ≡ world_after v (drop (k + 1) xs)
  unfolding world_after
  world_turn = rw (drop-cons xs k d h, v_is, add-one k)

  pub answers_turn : a ≡ (carried_out w (get_or xs k d)).answer → answers_to w (drop k xs) ≡ answer_number a ∷ answers_to v (drop (k + 1) xs)
  unfolding answers_to
  answers_turn a_is = rw (drop-cons xs k d h, v_is, a_is, add-one k)

  pub stored_turn : a ≡ (carried_out w (get_or xs k d)).answer → (n : ℕ) → n ≡ answer_number a → (answers : List ℕ)
      → sets answers k (answers_to w (drop k xs)) ≡ sets (set answers k n) (k + 1) (answers_to v (drop (k + 1) xs))
  stored_turn a_is n n_is answers = rw (answers_turn a_is, n_is, add-one k)

module _ (xs : List Command) (k : ℕ) (h : length xs ≤ k) (w : World) where
  pub world_end : world_after w (drop k xs) ≡ w
  unfolding world_after
  world_end = rw (drop_of_length-le xs h)

  pub stored_end : (answers : List ℕ) → sets answers k (answers_to w (drop k xs)) ≡ answers
  unfolding answers_to
  stored_end answers = rw (drop_of_length-le xs h)
