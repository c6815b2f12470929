use Rattle.batch_meaning.proofs.Composed.{does_bind, does_fail}
use Rattle.session_state.proofs.Stepping.{does_stepped}
use Rattle.statement_exec.specs.Changed.{changes_read}
use Rattle.statement_exec.proofs.Parts.{does_read, does_read_on}
use Rattle.statement_exec.proofs.changing.change_read.Goals as goal

pub returns-in_err-planned-clause-does : goal.returns-in_err-planned-clause-does
unfolding changes_read
returns-in_err-planned-clause-does g c = λ shape others is. does_fail _ _ _ c.from_residual.ensures.0 c.from_residual.ensures.1 (does_read _ _ (rw (c.as_slice.ensures, is, c.as_slice-2.ensures) at c.in_err-planned.ensures))

pub returns-in_err-effect-clause-does : goal.returns-in_err-effect-clause-does
unfolding changes_read
returns-in_err-effect-clause-does g c = λ shape others is. does_read_on _ _ (rw (c.as_slice.ensures, is, c.as_slice-2.ensures) at c.in_ok-planned.ensures) (does_fail _ _ _ c.from_residual-in_err-effect.ensures.0 c.from_residual-in_err-effect.ensures.1 (does_read _ _ (rw (c.done_kind.ensures, c.settings.ensures, c.as_slice-3.ensures) at c.in_err-effect.ensures.came)))

pub returns-in_err-fitting-clause-does : goal.returns-in_err-fitting-clause-does
unfolding changes_read
returns-in_err-fitting-clause-does g c = λ shape others is. does_read_on _ _ (rw (c.as_slice.ensures, is, c.as_slice-2.ensures) at c.in_ok-planned.ensures) (does_read_on _ _ (rw (c.done_kind.ensures, c.settings.ensures, c.as_slice-3.ensures) at c.in_ok-effect.ensures.came) (does_fail _ _ _ c.from_residual-in_err-fitting.ensures.0 c.from_residual-in_err-fitting.ensures.1 (does_stepped c.in_err-fitting.ensures.came)))

pub returns-clause-does : goal.returns-clause-does
unfolding changes_read
returns-clause-does g c = λ shape others is. does_read_on _ _ (rw (c.as_slice.ensures, is, c.as_slice-2.ensures) at c.in_ok-planned.ensures) (does_read_on _ _ (rw (c.done_kind.ensures, c.settings.ensures, c.as_slice-3.ensures) at c.in_ok-effect.ensures.came) (does_bind _ _ (does_stepped c.in_ok-fitting.ensures.came) (c.change_planned.ensures.does shape others is)))
