-- Own: what the private parts of the reader of replies give.
use Rattle.std.specs.Prelude.{◌≡◌, ℕ, List, []}
use Rattle.tds_packets.specs.declared.message.Message.{Message}
use Rattle.tds_packets.specs.declared.fault.MessageFault.TheVariants.{Closed}
use Rattle.tds_packets.specs.Stream.{IsMessage, Stops}
use Rattle.tds_tokens.specs.declared.token.Token.{Token}
use Rattle.transfer_load.specs.Replies.{Carries}

-- the bytes from a place on are one message, which carries these tokens
abbrev pub IsNext : ℕ → List ℕ → List Token → Type 0
IsNext at bytes tokens = (message : Message) × IsMessage at bytes message × Carries message tokens

-- the stream that goes on with these bytes is closed, and nothing is left behind them
abbrev pub IsOver : ℕ → List ℕ → List ℕ → Type 0
IsOver at bytes left = Stops at bytes Closed × (left ≡ [])
