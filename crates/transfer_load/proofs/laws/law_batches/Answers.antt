use Rattle.tds_packets.specs.declared.fault.MessageFault.TheVariants.{Closed}
use Rattle.tds_packets.proofs.Ends.{Stops-nil}
use Rattle.transfer_load.proofs.Messages.{batches_join}
use Rattle.transfer_load.proofs.laws.law_batches.Goals as goal

pub returns : goal.returns
returns c = λ texts short. record { joined = batches_join 0 texts short; partial = (Closed, Stops-nil _) }
