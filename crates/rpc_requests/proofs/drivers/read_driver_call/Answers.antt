use Rattle.std.proofs.Common.{arith}
use Rattle.rpc_requests.proofs.DriverFits.{fits}
use Rattle.rpc_requests.proofs.drivers.read_driver_call.Goals as goal

pub returns-clause-fits : goal.returns-clause-fits
returns-clause-fits c = fits c.args.payload.now c.answer.result (λ i. omega (arith, c.type_inv.payload i)) c.answer.ensures
