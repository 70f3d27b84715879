use Prim.Native.Nat.{ℕ}
use mathlib.Core.List.{List, [], ◌∷◌}
use mathlib.Core.Path.{◌≡◌, sym, ◌∙◌, ap}
use Rattle.std.proofs.Common.{Option, Some}
use Rattle.log_entry.specs.declared.Say.{Say}
use Rattle.text_entry.specs.declared.EntryParts.TheVariants.{Vote}
use Rattle.text_entry.specs.Kinds.{by, list, proc, say, store, turn, turn_presence, tx, upd, update_form, vote_kind}
use Rattle.text_entry.specs.Parts.{front, kind_front, made_parts, then_front, vote_parts}
use Rattle.text_entry.specs.Read.{part}
use Rattle.text_entry.specs.Seen.{left, said, seen}
use Rattle.text_entry.proofs.Fronts.{begun, done, step, stop, unbegun}
use Rattle.text_entry.proofs.Votes.{said_back}
use Rattle.text_entry.proofs.vote_parts.Goals as goal
use Rattle.text_entry.proofs.vote_parts.Goals.{In_ok-store}

-- the fields as far as the store, and what stands behind them
to-store : (c : In_ok-store) {r : Option (List ℕ × List ℕ)} → front (tx ∷ list ∷ say ∷ upd update_form ∷ []) (part 0 c.in_ok-store.rest.now) ≡ r
    → kind_front vote_kind c.args.line.now ≡ then_front c.in_ok-process.process (then_front c.in_ok-turn.turn (then_front c.in_ok-by.by (then_front c.in_ok-store.store r)))
to-store c h = begun vote_kind _ _ (sym (ap left c.in_ok-rest.was) ∙ c.named.ensures) (step proc _ _ _ _ (sym (ap seen c.in_ok-process.was) ∙ c.decimal.ensures) (step (turn turn_presence) _ _ _ _ (sym (ap seen c.in_ok-turn.was) ∙ c.turned.ensures) (step by _ _ _ _ (sym (ap seen c.in_ok-by.was) ∙ c.decimal-2.ensures) (step store _ _ _ _ (sym (ap seen c.in_ok-store.was) ∙ c.decimal-3.ensures) h))))

pub returns-in_err-rest : goal.returns-in_err-rest
returns-in_err-rest c = rw c.from_residual.ensures (sym (ap (made_parts vote_parts) (unbegun vote_kind _ (sym (ap left c.in_err-rest.was) ∙ c.named.ensures))))

pub returns-in_err-process : goal.returns-in_err-process
returns-in_err-process c = rw c.from_residual-in_err-process.ensures (sym (ap (made_parts vote_parts) (begun vote_kind _ _ (sym (ap left c.in_ok-rest.was) ∙ c.named.ensures) (stop proc _ _ (sym (ap seen c.in_err-process.was) ∙ c.decimal.ensures)))))

pub returns-in_err-turn : goal.returns-in_err-turn
returns-in_err-turn c = rw c.from_residual-in_err-turn.ensures (sym (ap (made_parts vote_parts) (begun vote_kind _ _ (sym (ap left c.in_ok-rest.was) ∙ c.named.ensures) (step proc _ _ _ _ (sym (ap seen c.in_ok-process.was) ∙ c.decimal.ensures) (stop (turn turn_presence) _ _ (sym (ap seen c.in_err-turn.was) ∙ c.turned.ensures))))))

pub returns-in_err-by : goal.returns-in_err-by
returns-in_err-by c = rw c.from_residual-in_err-by.ensures (sym (ap (made_parts vote_parts) (begun vote_kind _ _ (sym (ap left c.in_ok-rest.was) ∙ c.named.ensures) (step proc _ _ _ _ (sym (ap seen c.in_ok-process.was) ∙ c.decimal.ensures) (step (turn turn_presence) _ _ _ _ (sym (ap seen c.in_ok-turn.was) ∙ c.turned.ensures) (stop by _ _ (sym (ap seen c.in_err-by.was) ∙ c.decimal-2.ensures)))))))

pub returns-in_err-store : goal.returns-in_err-store
returns-in_err-store c = rw c.from_residual-in_err-store.ensures (sym (ap (made_parts vote_parts) (begun vote_kind _ _ (sym (ap left c.in_ok-rest.was) ∙ c.named.ensures) (step proc _ _ _ _ (sym (ap seen c.in_ok-process.was) ∙ c.decimal.ensures) (step (turn turn_presence) _ _ _ _ (sym (ap seen c.in_ok-turn.was) ∙ c.turned.ensures) (step by _ _ _ _ (sym (ap seen c.in_ok-by.was) ∙ c.decimal-2.ensures) (stop store _ _ (sym (ap seen c.in_err-store.was) ∙ c.decimal-3.ensures))))))))

pub returns-in_err-tx : goal.returns-in_err-tx
returns-in_err-tx c = rw c.from_residual-in_err-tx.ensures (sym (ap (made_parts vote_parts) (to-store (goal.at.returns-in_err-tx c).In_ok-store (stop tx _ _ (sym (ap seen c.in_err-tx.was) ∙ c.decimal-4.ensures)))))

pub returns-in_err-list : goal.returns-in_err-list
returns-in_err-list c = rw c.from_residual-in_err-list.ensures (sym (ap (made_parts vote_parts) (to-store (goal.at.returns-in_err-list c).In_ok-store (step tx _ _ _ _ (sym (ap seen c.in_ok-tx.was) ∙ c.decimal-4.ensures) (stop list _ _ (sym (ap seen c.in_err-list.was) ∙ c.listed.ensures))))))

pub returns-in_err-say : goal.returns-in_err-say
returns-in_err-say c = rw c.from_residual-in_err-say.ensures (sym (ap (made_parts vote_parts) (to-store (goal.at.returns-in_err-say c).In_ok-store (step tx _ _ _ _ (sym (ap seen c.in_ok-tx.was) ∙ c.decimal-4.ensures) (step list _ _ _ _ (sym (ap seen c.in_ok-list.was) ∙ c.listed.ensures) (stop say _ _ (sym (ap said c.in_err-say.was) ∙ c.said.ensures)))))))

pub returns-in_err-update : goal.returns-in_err-update
returns-in_err-update c = rw c.from_residual-in_err-update.ensures (sym (ap (made_parts vote_parts) (to-store (goal.at.returns-in_err-update c).In_ok-store (step tx _ _ _ _ (sym (ap seen c.in_ok-tx.was) ∙ c.decimal-4.ensures) (step list _ _ _ _ (sym (ap seen c.in_ok-list.was) ∙ c.listed.ensures) (step say _ _ _ _ (sym (ap said c.in_ok-say.was) ∙ c.said.ensures) (stop (upd update_form) _ _ (sym (ap seen c.in_err-update.was) ∙ c.updated.ensures))))))))

pub returns : goal.returns
returns c =
    ap (λ (y : Say). Some (Vote c.in_ok-process.process c.in_ok-turn.turn c.in_ok-by.by c.in_ok-store.store c.in_ok-tx.tx c.in_ok-list.list y c.in_ok-update.update, c.in_ok-update.rest.now)) (sym (said_back c.in_ok-say.say))
    ∙ sym (ap (made_parts vote_parts) (to-store (goal.at.returns c).In_ok-store (step tx _ _ _ _ (sym (ap seen c.in_ok-tx.was) ∙ c.decimal-4.ensures) (step list _ _ _ _ (sym (ap seen c.in_ok-list.was) ∙ c.listed.ensures) (step say _ _ _ _ (sym (ap said c.in_ok-say.was) ∙ c.said.ensures) (step (upd update_form) _ _ _ _ (sym (ap seen c.in_ok-update.was) ∙ c.updated.ensures) (done c.in_ok-update.rest.now)))))))
