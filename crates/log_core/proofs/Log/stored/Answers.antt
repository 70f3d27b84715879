use borrow.Author.Tests.{not-false, not-true}
use mathlib.Core.Path.{ap, sym, ◌∙◌}
use native.Mathlib.Omega.{arith}
use Rattle.log_entry.specs.Entry.{in_is_take, in_tx_of}
use Rattle.log_entry.proofs.InsideLaws.{inside_process, inside_store, inside_vote}
use Rattle.log_core.proofs.EnterLaws.{holder_stored, stored_group, stored_row}
use Rattle.log_core.proofs.Log.stored.Goals as goal

pub bounds-self-store : goal.bounds-self-store
bounds-self-store c = omega (arith, c.from-store.ensures, inside_store c.args.self.stores c.args.e c.requires.e_value)

pub bounds-self-store-in-Take : goal.bounds-self-store-in-Take
bounds-self-store-in-Take c = omega (arith, c.from-store.ensures, inside_store c.args.self.stores c.args.e c.requires.e_value)

pub bounds-self-process : goal.bounds-self-process
bounds-self-process c = omega (arith, c.from-process.ensures, inside_process c.args.self.stores c.args.e c.requires.e_value)

pub bounds-self-store-in-Take-2 : goal.bounds-self-store-in-Take-2
bounds-self-store-in-Take-2 c = omega (arith, c.from-store.ensures, inside_store c.args.self.stores c.args.e c.requires.e_value)

pub bounds-self-store-in-Take-3 : goal.bounds-self-store-in-Take-3
bounds-self-store-in-Take-3 c = omega (arith, c.from-store.ensures, inside_store c.args.self.stores c.args.e c.requires.e_value)

pub overflow_shl-self : goal.overflow_shl-self
overflow_shl-self c = omega (arith, inside_process c.args.self.stores c.args.e c.requires.e_value)

pub returns-in-Take : goal.returns-in-Take
returns-in-Take c =
    rw (c.from-store.ensures, c.from-process.ensures)
    (holder_stored c.args.self c.args.e c.args.f (ap in_is_take c.in-Take.is) (omega (arith, inside_process c.args.self.stores c.args.e c.requires.e_value)))

pub bounds-self-tx : goal.bounds-self-tx
bounds-self-tx c =
    omega (arith, ap in_tx_of c.in-Vote.is, c.from-tx.ensures, (inside_vote c.args.self.stores c.args.e c.requires.e_value (ap in_is_take c.in-Vote.is)).tx)

pub returns-then-not-f : goal.returns-then-not-f
returns-then-not-f c =
    stored_row c.args.self c.args.e c.args.f (ap in_is_take c.in-Vote.is) (ap in_tx_of c.in-Vote.is ∙ sym c.from-tx.ensures) c.keeping-row.ensures (not-true _ c.if-not-f.true)

pub returns-else-not-f : goal.returns-else-not-f
returns-else-not-f c =
    rw c.from.ensures
    (stored_group c.args.self c.args.e c.args.f (ap in_is_take c.in-Vote.is) (ap in_tx_of c.in-Vote.is ∙ sym c.from-tx.ensures) c.keeping-row.ensures (not-false _ c.if-not-f.false)
    c.running_set-running.result c.running_set-running.ensures)
