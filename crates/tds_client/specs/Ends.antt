-- Own: why a client ends without tokens to print, and which end that is.
use Rattle.tds_packets.specs.declared.fault.MessageFault.{MessageFault}
use Rattle.tds_packets.specs.declared.fault.MessageFault.TheVariants as reading
use Rattle.tds_packets.specs.declared.fault.SendFault.{SendFault}
use Rattle.tds_packets.specs.declared.fault.SendFault.TheVariants as sending
use Rattle.tds_tokens.specs.declared.fault.TokenFault.{TokenFault}
use Rattle.tds_tokens.specs.declared.fault.TokenFault.TheVariants as faults
use Rattle.tds_client.specs.declared.end.ClientEnd.{ClientEnd}
use Rattle.tds_client.specs.declared.end.ClientEnd.TheVariants.{BadReply, NoReply, Cut, BadHeader, TooLong, Spent, ReadFault, WriteFault, Memory}
use Rattle.tds_client.specs.declared.turn.Turn.{Turn}
use Rattle.tds_client.specs.Replies.{number_of}

-- a message could not be sent
abbrev pub end_of_sending : SendFault → ClientEnd
end_of_sending sending.WriteFault = WriteFault
end_of_sending sending.Memory = Memory

-- no reply came to it
abbrev pub end_of_message : Turn → MessageFault → ClientEnd
end_of_message turn reading.Closed = NoReply (number_of turn)
end_of_message turn (reading.Cut at) = Cut at
end_of_message turn (reading.BadHeader at) = BadHeader at
end_of_message turn (reading.TooLong at) = TooLong at
end_of_message turn reading.ReadFault = ReadFault
end_of_message turn reading.Memory = Memory
end_of_message turn reading.Spent = Spent

-- its payload is no tokens, or there was no memory to read them
abbrev pub end_of_tokens : Turn → TokenFault → ClientEnd
end_of_tokens turn (faults.Bad at) = BadReply (number_of turn) at
end_of_tokens turn faults.Memory = Memory

-- Why a client ends: there was no memory to make its next message; it could not be sent; no reply came to it; the reply
-- ended the client; or there was no memory to read it.
pub data Cause : Type 0 where
  unmade : Cause
  unsent : SendFault → Cause
  no_reply : MessageFault → Cause
  by_reply : ClientEnd → Cause
  unread : Cause

-- the end
abbrev pub end_of : Turn → Cause → ClientEnd
end_of turn unmade = Memory
end_of turn (unsent fault) = end_of_sending fault
end_of turn (no_reply fault) = end_of_message turn fault
end_of turn (by_reply end) = end
end_of turn unread = Memory
