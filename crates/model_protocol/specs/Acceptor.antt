-- Document 01, "Acceptors".
use Rattle.std.specs.Prelude.{ℕ, Bool, leb, ltb}
use Rattle.model_protocol.specs.Batch.{Batch}
use Rattle.model_protocol.specs.declared.AcceptorSlot.{AcceptorSlot}

-- "if b is above the promised ballot": whether a prepare of b does something
abbrev pub promises : AcceptorSlot → ℕ → Bool
promises x b = ltb x.promised b

-- it promises b
abbrev pub promising : AcceptorSlot → ℕ → AcceptorSlot
promising x b = record { promised = b; ballot = x.ballot; batch = x.batch }

-- "if b is not below the promised ballot": whether an accept of b does something
abbrev pub accepts : AcceptorSlot → ℕ → Bool
accepts x b = leb x.promised b

-- it promises and accepts b
abbrev pub accepting : ℕ → Batch → AcceptorSlot
accepting b v = record { promised = b; ballot = b; batch = v }
