use Rattle.std.proofs.Common.{◌≡◌, length}
use Rattle.rpc_requests.proofs.Loop.{with_front}
use Rattle.rpc_requests.proofs.DriverLoop.{all_at}
use Rattle.rpc_requests.proofs.drivers.driver_parameters_at.Given as goal

-- the parameters so far, and those that are left, are all
abbrev pub invariant-loop-rest : goal.invariant-loop-rest
invariant-loop-rest l = with_front l.parameters.items (all_at l.left l.size l.rest) ≡ all_at l.ahead l.size l.bytes

abbrev pub decreases-loop-rest : goal.decreases-loop-rest
decreases-loop-rest l = length l.rest
