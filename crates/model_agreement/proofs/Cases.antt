-- The table of cases.
use Rattle.log_laws.proofs.Theorems.{cases_hold}
use Rattle.model_protocol.proofs.Acceptors.{p11_accept_5, p11_accept_6, p11_prepare_6}
use Rattle.model_agreement.specs.Cases.{AllCases}

pub all_cases : AllCases
all_cases = record {
  one_to_ten = cases_hold;
  eleven =
      λ p e. record { prepare_6 = p11_prepare_6 p e; accept_6 = p11_accept_6 p e; accept_5 = p11_accept_5 p e };
}
