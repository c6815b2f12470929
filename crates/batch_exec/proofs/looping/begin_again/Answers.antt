use Rattle.std.proofs.Common.{sym}
use Rattle.batch_exec.proofs.Runs.{loops_again, turned_out}
use Rattle.batch_exec.proofs.looping.begin_again.Goals as goal

pub returns-in-Some-clause-does : goal.returns-in-Some-clause-does
returns-in-Some-clause-does g c = λ levels below. turned_out levels _ c.args.body.now _ _ _ (sym c.in-Some.ensures)

pub returns-in-None-clause-does : goal.returns-in-None-clause-does
returns-in-None-clause-does g c = λ levels below. loops_again (g.P.Port.past c.args.port.now) (g.P.Port.past c.begin_anew.new.port) levels c.args.statement.now c.args.body.now c.args.around.now c.args.exit c.args.session.now c.begin_anew.result c.begin_anew.new.session (sym c.in-None.ensures) (c.begin_anew.ensures.does levels below)
