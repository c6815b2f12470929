use Rattle.batch_exec.proofs.Called.{declared_fits}
use Rattle.batch_exec.proofs.Parameters.{copied_is, declared_at, parameter_at}
use Rattle.batch_exec.proofs.rpc.declare.Goals as goal

pub set-requires-clause-fits : goal.set-requires-clause-fits
set-requires-clause-fits c = declared_fits c.args.vars.now _ (parameter_at c.count-place.result c.args.parameter.now) _ _ c.count-place.ensures c.in_ok-name.ensures c.in-Ok.ensures.declared _ (copied_is _ _ _ c.in_ok-value.ensures c.requires.fits.value)

pub returns-in-Ok : goal.returns-in-Ok
returns-in-Ok c = declared_at c.args.vars.now _ _ c.args.parameter.now _ _ _ c.count-place.ensures c.in_ok-name.ensures c.in_ok-value.ensures c.in-Ok.ensures.declared c.set.ensures
