-- The list of a coordinator that can close its current instance: its message numbers and its text.
use Prim.Native.Nat.{ℕ, ◌+◌, ◌<◌, ◌≤◌, min}
use mathlib.Core.List.{List, [], ◌++◌}
use mathlib.Core.Path.{◌≡◌, ap, ◌∙◌}
use native.Mathlib.Omega.{arith}
use lib.ListN.{get_or, length, length-take, take}
use lib.Seq.{get_or-take}
use Rattle.std.proofs.Common.{Some}
use Rattle.finish_list.specs.Found.{ChoiceIs}
use Rattle.model_steps.specs.declared.Step.TheVariants.{Open, Propose}
use Rattle.model_steps.specs.Limits.{most_acceptors}
use Rattle.model_protocol.specs.declared.World.{World}
use Rattle.model_finish.specs.declared.Choice.{Choice}
use Rattle.model_finish.specs.Choice.{choice_of, chosen}
use Rattle.model_finish.specs.Closing.{accept_number, accepted_number, closing, deliveries, prepare_number, promise_number}
use Rattle.model_finish.specs.Such.{Such, current_of, quorum, up_acceptor, up_acceptors, up_below}
use Rattle.model_finish.proofs.ChoiceLaws.{choice_exactly}
use Rattle.model_finish.proofs.SuchLaws.{few}
use Rattle.model_finish.proofs.UpAcceptors.{asked_are_lowest}
use Rattle.text_ascii.specs.declared.Page.{Page}
use Rattle.text_report.specs.Within.{Within}
use Rattle.text_report.proofs.Lengths.{within_as, within_more, within_room}
use Rattle.finish_list.specs.Longest.{open_name, propose_name}
use Rattle.finish_list.specs.Text.{finish_text, steps_text}
use Rattle.finish_list.proofs.TextLaws.{list_text, open_text, propose_text, round_line, same_run}

-- ---- the whole list

module _ (w : World) {c : ℕ} (such : Such w c) (up : List ℕ) (is : up ≡ up_below w.down (min w.acceptors most_acceptors)) where
  abbrev n : ℕ
  n = w.acceptors

  all_up : up ≡ up_acceptors w
  all_up =
      let e : min n most_acceptors ≡ n = omega (arith, few such) in
      is ∙ ap (up_below w.down) e

  module _ {m : ℕ} (quorum-is : m ≡ quorum n) where
    pub all_asked : m ≤ length up
    all_asked = rw all_up (omega (arith, such.quorum_up))

    module _ (asked : List ℕ) (asked-is : asked ≡ take m up) where
      pub asked_count : length asked ≡ m
      asked_count = ap length asked-is ∙ omega (arith, length-take m up, all_asked)

      acceptor_asked : (k : ℕ) → k < m → get_or asked k 0 ≡ up_acceptor w k
      acceptor_asked k h = ap (λ (l : List ℕ). get_or l k 0) asked-is ∙ get_or-take m up k 0 h ∙ ap (λ (l : List ℕ). get_or l k 0) all_up

      pub asked_below : (k : ℕ) → k < length asked → get_or asked k 0 < n
      asked_below k h =
          let j : k < m = omega (arith, asked_count) in
          let q : k < quorum n = omega arith in
          rw (acceptor_asked k j) ((asked_are_lowest w c such).is_acceptor k q)

      pub closing_text : (b : ℕ) {i : ℕ} → i ≡ current_of w c
          → round_line open_name c i b
          ++ steps_text (deliveries (λ k. w.sent + get_or asked k 0) (length asked) ++ deliveries (λ k. w.sent + n + k) (length asked))
          ++ round_line propose_name c i b
          ++ steps_text (deliveries (λ k. w.sent + n + m + get_or asked k 0) (length asked) ++ deliveries (λ k. w.sent + n + m + n + k) (length asked))
          ≡ steps_text (closing w c b)
      unfolding closing
      closing_text b current =
          let q = quorum n in
          let prepares = same_run (λ k. w.sent + get_or asked k 0) (prepare_number w) q (λ k h. ap (λ (x : ℕ). w.sent + x) (acceptor_asked k (omega arith))) in
          let accepts = same_run (λ k. w.sent + n + q + get_or asked k 0) (accept_number w) q (λ k h. ap (λ (x : ℕ). w.sent + n + q + x) (acceptor_asked k (omega arith))) in
          let promised = deliveries (promise_number w) q in
          let accepted = deliveries (accepted_number w) q in
          rw (asked_count, quorum-is, current)
          ((λ i. open_text c (current_of w c) b i ++ steps_text (prepares i ++ promised) ++ propose_text c (current_of w c) b i ++ steps_text (accepts i ++ accepted))
          ∙ list_text (Open c (current_of w c) b) (Propose c (current_of w c) b) (deliveries (prepare_number w) q) promised (deliveries (accept_number w) q) accepted)

-- four texts, one after the other
pub four_within : {a b c d e : Page} {s t u v text : List ℕ} {i j k l whole : ℕ}
    → Within i a b s → Within j b c t → Within k c d u → Within l d e v
    → s ++ t ++ u ++ v ≡ text → i + j + k + l ≤ whole → Within whole a e text
four_within f g h k e r = within_room (within_as e (within_more (within_more (within_more f g) h) k)) r

-- ---- the list of the choice

module _ (w : World) where
  pub nothing_text : choice_of w ≡ chosen 0 0 → [] ≡ finish_text w
  unfolding steps_text
  nothing_text h = rw h

  module _ {x : Choice} (is : ChoiceIs (Some x) (choice_of w)) where
    pub chosen_such : Such w x.coord
    chosen_such = rw is.0 ((choice_exactly w).lowest is.1).such
