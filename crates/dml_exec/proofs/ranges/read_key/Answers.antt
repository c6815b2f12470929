use Rattle.std.proofs.Common.{refl}
use Rattle.dml_exec.specs.Reading.{rows_in}
use Rattle.dml_exec.proofs.Held.{asks_behind, asks_failed, asks_over}
use Rattle.dml_exec.proofs.ranges.read_key.Goals as goal

pub returns-in-Ok-clause-asks : goal.returns-in-Ok-clause-asks
unfolding rows_in
returns-in-Ok-clause-asks g c = asks_behind _ _ _ _ (rw c.new-rows.ensures.items at c.in-Ok.ensures.asks) (asks_over refl)

pub returns-in-Err-clause-asks : goal.returns-in-Err-clause-asks
unfolding rows_in
returns-in-Err-clause-asks g c = asks_failed _ _ _ (rw c.new-rows.ensures.items at c.in-Err.ensures.asks)
