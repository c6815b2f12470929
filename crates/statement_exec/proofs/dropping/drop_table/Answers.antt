use Rattle.std.proofs.Common.{Ok, ap}
use Rattle.batch_meaning.specs.Writes.{drops_table}
use Rattle.batch_meaning.proofs.Composed.{does_bind, does_fail}
use Rattle.statement_exec.proofs.Parts.{does_made, does_on, does_read, does_read_on, does_result}
use Rattle.statement_exec.proofs.dropping.drop_table.Goals as goal

pub returns-in_err-definitions-clause-does : goal.returns-in_err-definitions-clause-does
unfolding drops_table
returns-in_err-definitions-clause-does g c = does_fail _ _ _ c.from_residual.ensures.0 c.from_residual.ensures.1 c.in_err-definitions.ensures.does

pub returns-in_err-free-clause-does : goal.returns-in_err-free-clause-does
unfolding drops_table
returns-in_err-free-clause-does g c = does_bind _ _ c.in_ok-definitions.ensures.does (does_fail _ _ _ c.from_residual-in_err-free.ensures.0 c.from_residual-in_err-free.ensures.1 (does_result _ _ (rw c.as_slice.ensures.value at c.in_err-free.ensures)))

pub returns-in_err-images-clause-does : goal.returns-in_err-images-clause-does
unfolding drops_table
returns-in_err-images-clause-does g c = does_bind _ _ c.in_ok-definitions.ensures.does (does_on _ _ (rw c.as_slice.ensures.value at c.in_ok-free.ensures) (does_fail _ _ _ c.from_residual-in_err-images.ensures.0 c.from_residual-in_err-images.ensures.1 (rw c.from_ref.ensures.value at c.in_err-images.ensures.does)))

pub returns-in_err-planned-clause-does : goal.returns-in_err-planned-clause-does
unfolding drops_table
returns-in_err-planned-clause-does g c = does_bind _ _ c.in_ok-definitions.ensures.does (does_on _ _ (rw c.as_slice.ensures.value at c.in_ok-free.ensures) (does_bind _ _ (rw c.from_ref.ensures.value at c.in_ok-images.ensures.does) (does_fail _ _ _ c.from_residual-in_err-planned.ensures.0 c.from_residual-in_err-planned.ensures.1 (does_read _ _ (rw (c.as_slice-2.ensures.value, c.as_slice-3.ensures) at c.in_err-planned.ensures)))))

pub returns-in_err-apply-clause-does : goal.returns-in_err-apply-clause-does
unfolding drops_table
returns-in_err-apply-clause-does g c = does_bind _ _ c.in_ok-definitions.ensures.does (does_on _ _ (rw c.as_slice.ensures.value at c.in_ok-free.ensures) (does_bind _ _ (rw c.from_ref.ensures.value at c.in_ok-images.ensures.does) (does_read_on _ _ (rw (c.as_slice-2.ensures.value, c.as_slice-3.ensures) at c.in_ok-planned.ensures) (does_fail _ _ _ c.from_residual-in_err-apply.ensures.0 c.from_residual-in_err-apply.ensures.1 (rw c.as_slice-4.ensures at c.in_err-apply.ensures.does)))))

pub returns-clause-does : goal.returns-clause-does
unfolding drops_table
returns-clause-does g c = does_bind _ _ c.in_ok-definitions.ensures.does (does_on _ _ (rw c.as_slice.ensures.value at c.in_ok-free.ensures) (does_bind _ _ (rw c.from_ref.ensures.value at c.in_ok-images.ensures.does) (does_read_on _ _ (rw (c.as_slice-2.ensures.value, c.as_slice-3.ensures) at c.in_ok-planned.ensures) (does_bind _ _ (rw c.as_slice-4.ensures at c.in_ok-apply.ensures.does) (does_made (ap Ok c.none.ensures))))))
