use Rattle.shared_port.proofs.Goes.{since_itself}
use Rattle.shared_port.proofs.port.law_entry.Goals as goal

pub returns : goal.returns
returns c = since_itself c.args.seat.now c.law_within.ensures.0
