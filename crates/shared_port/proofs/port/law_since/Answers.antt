use Rattle.shared_port.proofs.Goes.{since_fits}
use Rattle.shared_port.proofs.port.law_since.Goals as goal

pub returns : goal.returns
returns c = λ entry. since_fits entry c.args.seat.now c.law_within.ensures.0
