use Rattle.batch_meaning.specs.Asking.{reads_images}
use Rattle.batch_meaning.specs.Writes.{changes}
use Rattle.batch_meaning.proofs.Composed.{does_bind, does_fail, does_reads}
use Rattle.statement_exec.specs.Changed.{changes_planned, changes_read}
use Rattle.statement_exec.proofs.changing.change_rows.Goals as goal

pub returns-in_err-definitions-clause-does : goal.returns-in_err-definitions-clause-does
unfolding changes reads_images
returns-in_err-definitions-clause-does g c = λ shape others is. does_fail _ _ _ c.from_residual.ensures.0 c.from_residual.ensures.1 c.in_err-definitions.ensures.does

pub returns-in_err-images-clause-does : goal.returns-in_err-images-clause-does
unfolding changes reads_images
returns-in_err-images-clause-does g c = λ shape others is. does_bind _ _ c.in_ok-definitions.ensures.does (does_fail _ _ _ c.from_residual-in_err-images.ensures.0 c.from_residual-in_err-images.ensures.1 (does_reads (rw (c.as_slice.ensures, is, c.settings-level.ensures, c.fired-given.ensures, c.requires.write) at c.in_err-images.ensures.does)))

pub returns-clause-does : goal.returns-clause-does
unfolding changes reads_images changes_read changes_planned
returns-clause-does g c = λ shape others is. does_bind _ _ c.in_ok-definitions.ensures.does (does_bind _ _ (does_reads (rw (c.as_slice.ensures, is, c.settings-level.ensures, c.fired-given.ensures, c.requires.write) at c.in_ok-images.ensures.does)) (c.change_read.ensures.does shape others is))
