-- Document 01, "Cases": P1 to P11 as one table.
use Rattle.std.specs.Prelude.{◌≡◌}
use Rattle.log_laws.specs.Cases.{CasesHold}
use Rattle.model_protocol.specs.Kind.{Accept, Prepare}
use Rattle.model_protocol.specs.declared.Parts.{Parts}
use Rattle.model_protocol.specs.Acceptor.{accepting}
use Rattle.model_protocol.specs.Change.{slot_now, done, sending}
use Rattle.model_protocol.specs.Deliver.{delivery_change}
use Rattle.model_protocol.specs.Message.{accepted_from, said_acceptor, said_ballot, said_batch, said_inst}

-- P11, of a message to an acceptor that promised 6
pub record CaseEleven (p : Parts) : Type 0 where
  -- prepare 6: nothing
  pub prepare_6 : said_ballot p.message ≡ 6 → delivery_change p Prepare ≡ done p
  -- accept 6: accepted
  pub accept_6 : said_ballot p.message ≡ 6
      → delivery_change p Accept ≡ sending (slot_now p (accepting 6 (said_batch p.message))) 1 (accepted_from (said_inst p.message) 6 (said_acceptor p.message))
  -- accept 5: nothing
  pub accept_5 : said_ballot p.message ≡ 5 → delivery_change p Accept ≡ done p

pub record AllCases : Type 0 where
  pub one_to_ten : CasesHold
  pub eleven : (p : Parts) → p.slot.promised ≡ 6 → CaseEleven p
