use Rattle.statement_exec.proofs.Firing.{written_failed, written_named}
use Rattle.std.proofs.Common.{false}
use Rattle.batch_meaning.specs.Meaning.{writes}
use Rattle.batch_meaning.proofs.Composed.{does_room}
use Rattle.statement_exec.proofs.changing.write.Goals as goal

pub returns-in-Ok-clause-does : goal.returns-in-Ok-clause-does
returns-in-Ok-clause-does g c = λ one. written_named (g.P.Port.past c.args.port.now) (g.P.Port.past c.write_named.new.port) one c.args.around.now c.args.statement.now c.args.session.now c.write_named.result c.write_named.new.session (rw (c.as_slice.ensures.value, c.in-Ok.ensures) at (c.write_named.ensures.does one))

pub returns-in-Err-clause-does : goal.returns-in-Err-clause-does
unfolding writes
returns-in-Err-clause-does g c = λ one. does_room false (written_failed c.no_memory.ensures)
