use Rattle.std.proofs.Common.{Err, ap}
use Rattle.statement_exec.proofs.CursorSteps.{opens_other}
use Rattle.statement_exec.proofs.cursors.fill_bound.Goals as goal

pub returns-in-Query-clause-does : goal.returns-in-Query-clause-does
returns-in-Query-clause-does g c = rw c.in-Query.is c.fill_with.ensures.does

pub returns-in_default-clause-does : goal.returns-in_default-clause-does
returns-in_default-clause-does g c = opens_other c.args.around.now c.args.name.now c.args.shapes.now c.args.of.now c.in_default.not-Query (ap Err c.plain.ensures)
