use Rattle.shared_port.specs.Asked.{HasWaited}
use Rattle.shared_port.proofs.port.ask_until.Given as goal

abbrev pub invariant-loop : goal.invariant-loop
invariant-loop g l = HasWaited l.fn.seat l.fn.call l.seat
