use Rattle.std.proofs.Common.{refl}
use Rattle.dml_exec.specs.Writing.{attempts, writes}
use Rattle.dml_exec.proofs.Held.{asks_over, asks_then}
use Rattle.dml_exec.proofs.writing.apply_write.Goals as goal

pub returns-clause-asks : goal.returns-clause-asks
unfolding writes
returns-clause-asks g c = asks_then (attempts c.args.shapes.now c.args.changes.now) _ c.attempt_write.ensures.asks (asks_over refl)
