use Rattle.std.proofs.Common.{refl}
use Rattle.batch_meaning.specs.Meaning.{ended_by}
use Rattle.batch_meaning.proofs.Composed.{does_leave, does_over, does_then}
use Rattle.batch_exec.proofs.errors.end_by.Goals as goal

pub returns-in-Statement-clause-does : goal.returns-in-Statement-clause-does
unfolding ended_by
returns-in-Statement-clause-does g c = rw c.in-Statement.is (does_over refl)

pub returns-in-Doom-clause-does : goal.returns-in-Doom-clause-does
unfolding ended_by
returns-in-Doom-clause-does g c = rw c.in-Doom.is (does_over refl)

pub returns-in-Batch-clause-does : goal.returns-in-Batch-clause-does
unfolding ended_by
returns-in-Batch-clause-does g c = rw c.in-Batch.is (does_over refl)

pub returns-in_err-roll_back_told-in-BatchAndTransaction-clause-does : goal.returns-in_err-roll_back_told-in-BatchAndTransaction-clause-does
unfolding ended_by
returns-in_err-roll_back_told-in-BatchAndTransaction-clause-does g c = rw c.in-BatchAndTransaction.is (does_leave _ _ _ c.from_residual.ensures.0 c.in_err-roll_back_told-in-BatchAndTransaction.ensures.does)

pub returns-in_ok-roll_back_told-in-BatchAndTransaction-clause-does : goal.returns-in_ok-roll_back_told-in-BatchAndTransaction-clause-does
unfolding ended_by
returns-in_ok-roll_back_told-in-BatchAndTransaction-clause-does g c = rw c.in-BatchAndTransaction.is (does_then _ _ c.in_ok-roll_back_told-in-BatchAndTransaction.ensures.does (does_over refl))
