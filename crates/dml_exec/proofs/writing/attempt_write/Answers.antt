use Rattle.std.proofs.Common.{[], refl}
use Rattle.dml_exec.specs.Writing.{asks_keys, attempts, behind_keys}
use Rattle.dml_exec.proofs.Held.{asks_over, asks_then}
use Rattle.dml_exec.proofs.writing.attempt_write.Goals as goal

pub returns-in-Ok-clause-asks : goal.returns-in-Ok-clause-asks
unfolding attempts
returns-in-Ok-clause-asks g c =
    asks_then (asks_keys c.args.changes.now []) (behind_keys c.args.shapes.now c.args.changes.now) c.in-Ok.ensures.asks (rw c.as_slice.ensures.value at c.attempt_found.ensures.asks)

pub returns-in-Err-clause-asks : goal.returns-in-Err-clause-asks
unfolding attempts
returns-in-Err-clause-asks g c = asks_then (asks_keys c.args.changes.now []) (behind_keys c.args.shapes.now c.args.changes.now) c.in-Err.ensures.asks (asks_over refl)
