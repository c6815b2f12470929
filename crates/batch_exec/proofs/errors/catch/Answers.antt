use Rattle.session_state.proofs.Stepping.{stepped_made, stepped_makes}
use Rattle.batch_exec.proofs.errors.catch.Goals as goal

pub returns-in-Doom-clause-came : goal.returns-in-Doom-clause-came
returns-in-Doom-clause-came c = rw c.in-Doom.is (stepped_makes c.doom.ensures (stepped_made c.raised_to.ensures))

pub returns-in-Statement-clause-came : goal.returns-in-Statement-clause-came
returns-in-Statement-clause-came c = rw c.in-Statement.is (stepped_made c.raised_to-in-Statement.ensures)

pub returns-in-Batch-clause-came : goal.returns-in-Batch-clause-came
returns-in-Batch-clause-came c = rw c.in-Batch.is (stepped_made c.raised_to-in-Batch.ensures)

pub returns-in-BatchAndTransaction-clause-came : goal.returns-in-BatchAndTransaction-clause-came
returns-in-BatchAndTransaction-clause-came c = rw c.in-BatchAndTransaction.is (stepped_made c.raised_to-in-BatchAndTransaction.ensures)
