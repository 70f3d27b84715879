-- The messages of single-decree Paxos about values: each has an instance, a ballot and an acceptor.
use Rattle.std.specs.Prelude.{ℕ}

pub data Paxos (Value : Type 0) : Type 0 where
  prepare : ℕ → ℕ → ℕ → Paxos Value
  -- with the acceptor's accepted pair: the ballot, 0 if none, and the value
  promise : ℕ → ℕ → ℕ → ℕ → Value → Paxos Value
  -- with the value proposed
  accept : ℕ → ℕ → ℕ → Value → Paxos Value
  accepted : ℕ → ℕ → ℕ → Paxos Value
