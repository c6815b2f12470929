use Rattle.binder.specs.Statements.{bind_checks}
use Rattle.statement_exec.proofs.Changes.{checks_unbound}
use Rattle.statement_exec.proofs.changing.plan_in.Goals as goal

pub returns-in-Ok : goal.returns-in-Ok
returns-in-Ok c = rw c.in-Ok.ensures (rw c.as_slice.ensures.value at c.plan_with.ensures)

pub returns-in-Err : goal.returns-in-Err
returns-in-Err c = checks_unbound c.args.around.now c.args.session.now c.args.shape.now c.args.write.now c.args.images.now c.in-Err.fault c.unbound_by.result (bind_checks c.args.shape.now) c.in-Err.ensures c.unbound_by.ensures
