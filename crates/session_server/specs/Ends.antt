-- Own: why a connection ended, and which end that is.
use Rattle.session_server.specs.declared.end.End.{End}
use Rattle.session_server.specs.declared.end.End.TheVariants.{Closed, Cut, BadHeader, TooLong, Spent, ReadFault, WriteFault, Memory}
use Rattle.tds_packets.specs.declared.fault.MessageFault.{MessageFault}
use Rattle.tds_packets.specs.declared.fault.MessageFault.TheVariants as reading
use Rattle.tds_packets.specs.declared.fault.SendFault.{SendFault}
use Rattle.tds_packets.specs.declared.fault.SendFault.TheVariants as sending

-- no message comes
abbrev pub end_of_message : MessageFault → End
end_of_message reading.Closed = Closed
end_of_message (reading.Cut at) = Cut at
end_of_message (reading.BadHeader at) = BadHeader at
end_of_message (reading.TooLong at) = TooLong at
end_of_message reading.ReadFault = ReadFault
end_of_message reading.Memory = Memory
end_of_message reading.Spent = Spent

-- a reply could not be sent
abbrev pub end_of_sending : SendFault → End
end_of_sending sending.WriteFault = WriteFault
end_of_sending sending.Memory = Memory

-- Why a connection ended: no message came; the last message ended it; the response to the last one could
-- not be sent; or there was no memory to make it, or to read a call.
pub data Cause : Type 0 where
  no_message : MessageFault → Cause
  by_message : End → Cause
  unsent : SendFault → Cause
  unmade : Cause

abbrev pub end_of : Cause → End
end_of (no_message fault) = end_of_message fault
end_of (by_message end) = end
end_of (unsent fault) = end_of_sending fault
end_of unmade = Memory
