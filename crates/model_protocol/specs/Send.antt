-- Sending: "Messages 0 to 127, numbered as sent, never forgotten."
use Rattle.std.specs.Prelude.{ℕ, suc, ◌-◌, Bool, ltb}
use Rattle.model_steps.specs.Limits.{messages}
use Rattle.model_protocol.specs.declared.Message.{Message}
use Rattle.model_protocol.specs.declared.Message.TheVariants as said
use Rattle.model_protocol.specs.declared.World.{World}
use Rattle.model_protocol.specs.World.{with_message}

-- 6: fewer message numbers left than the step sends
abbrev pub lacks_numbers : ℕ → ℕ → Bool
lacks_numbers sent n = ltb (messages - sent) n

-- n messages, by their number among them
unfoldable pub send_to_all : World → ℕ → (ℕ → Message) → World
send_to_all w ℕ.zero message = w
send_to_all w (suc n) message = with_message (send_to_all w n message) (message n)

-- the message, to another acceptor
abbrev pub addressed : Message → ℕ → Message
addressed (said.Request to e) a = said.Request to e
addressed (said.Prepare i b c) a = said.Prepare i b a
addressed (said.Accept i b c v) a = said.Accept i b a v
addressed (said.Promise i b c d v) a = said.Promise i b a d v
addressed (said.Accepted i b c) a = said.Accepted i b a
addressed (said.Tell to tx o) a = said.Tell to tx o
addressed (said.Restore to t s p r) a = said.Restore to t s p r
addressed (said.Follow to s tx o u) a = said.Follow to s tx o u

-- "acceptor 0 first": the message itself, and then the same to acceptor 1, 2 and so on
unfoldable pub copy_of : Message → ℕ → Message
copy_of m ℕ.zero = m
copy_of m (suc i) = addressed m (suc i)
