-- Document 01's case P11: promised 6: prepare 6, accept 6, accept 5: nothing, accepted, nothing.
use mathlib.Core.Path.{◌≡◌}
use Rattle.model_protocol.specs.Kind.{Accept, Prepare}
use Rattle.model_protocol.specs.declared.Parts.{Parts}
use Rattle.model_protocol.specs.Acceptor.{accepting}
use Rattle.model_protocol.specs.Change.{slot_now, done, sending}
use Rattle.model_protocol.specs.Deliver.{delivery_change}
use Rattle.model_protocol.specs.Message.{accepted_from, said_acceptor, said_ballot, said_batch, said_inst}

module _ (p : Parts) (promised : p.slot.promised ≡ 6) where
  pub p11_prepare_6 : said_ballot p.message ≡ 6 → delivery_change p Prepare ≡ done p
  unfolding delivery_change
  p11_prepare_6 b = rw (promised, b)

  pub p11_accept_6 : said_ballot p.message ≡ 6
      → delivery_change p Accept ≡ sending (slot_now p (accepting 6 (said_batch p.message))) 1 (accepted_from (said_inst p.message) 6 (said_acceptor p.message))
  unfolding delivery_change
  p11_accept_6 b = rw (promised, b)

  pub p11_accept_5 : said_ballot p.message ≡ 5 → delivery_change p Accept ≡ done p
  unfolding delivery_change
  p11_accept_5 b = rw (promised, b)
