use Rattle.dml_exec.specs.Reading.{reads_table}
use Rattle.dml_exec.proofs.RangeSteps.{table_given}
use Rattle.dml_exec.proofs.images.read_table.Goals as goal

pub returns-in-Some-clause-asks : goal.returns-in-Some-clause-asks
unfolding reads_table
returns-in-Some-clause-asks g c =
    rw (c.letting_go.ensures, ← c.in-Some.ensures, ← c.as_slice.ensures) (table_given c.as_slice.result.now c.copy_given.result c.copy_given.ensures.copied c.copy_given.ensures.err)

pub returns-in-None-clause-asks : goal.returns-in-None-clause-asks
unfolding reads_table
returns-in-None-clause-asks g c = rw (← c.in-None.ensures) c.fetch_range.ensures.asks
