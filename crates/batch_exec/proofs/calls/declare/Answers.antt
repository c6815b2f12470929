use Rattle.batch_exec.proofs.Called.{declared_fits, declared_is}
use Rattle.batch_exec.proofs.calls.declare.Goals as goal

pub set-requires-clause-fits : goal.set-requires-clause-fits
set-requires-clause-fits c = declared_fits c.args.vars.now _ c.args.parameter.now _ _ c.count-place.ensures c.in_ok-name.ensures c.in-Ok.ensures.declared c.args.value c.requires.typed

pub returns-in-Ok : goal.returns-in-Ok
returns-in-Ok c = declared_is c.args.vars.now _ c.args.parameter.now _ _ c.count-place.ensures c.in_ok-name.ensures c.in-Ok.ensures.declared c.args.value _ c.set.ensures
