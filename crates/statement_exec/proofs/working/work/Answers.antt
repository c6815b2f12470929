use Rattle.std.proofs.Common.{◌∙◌}
use Rattle.batch_meaning.specs.Working.{works}
use Rattle.statement_exec.proofs.AtHome.{does_within, does_within_not}
use Rattle.statement_exec.proofs.working.work.Goals as goal

pub returns-in_err-home-clause-does : goal.returns-in_err-home-clause-does
unfolding works
returns-in_err-home-clause-does g c = does_within_not _ _ _ _ c.from_residual.ensures.0 c.from_residual.ensures.1 c.in_err-home.ensures.does

pub returns-clause-does : goal.returns-clause-does
unfolding works
returns-clause-does g c = does_within _ _ _ c.in_ok-home.ensures.does (rw c.as_slice.ensures at c.work_bound-came.ensures.does) (rw c.is_ok.ensures.value at c.leave.ensures.does)

pub leave-requires : goal.leave-requires
leave-requires g c = record { ready = c.work_bound-came.ensures.ready; begun = λ some. c.work_bound-came.ensures.kept ∙ c.in_ok-home.ensures.home some }

pub returns-clause-fits : goal.returns-clause-fits
returns-clause-fits g c = rw c.leave.ensures.vars c.work_bound-came.ensures.fits
