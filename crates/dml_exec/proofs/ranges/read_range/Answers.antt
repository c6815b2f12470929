use Rattle.dml_exec.specs.Reading.{rows_in}
use Rattle.dml_exec.proofs.ranges.read_range.Goals as goal

pub returns-clause-asks : goal.returns-clause-asks
unfolding rows_in
returns-clause-asks g c = rw c.if-one.false c.read_rows.ensures.asks
