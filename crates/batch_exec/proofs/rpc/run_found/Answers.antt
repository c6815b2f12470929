use Rattle.std.proofs.Common.{refl}
use Rattle.batch_meaning.specs.Progress.{statement_limit}
use Rattle.batch_meaning.specs.Rpc.{runs_exec}
use Rattle.batch_meaning.proofs.Composed.{does_leave, does_out, does_reads, does_then}
use Rattle.batch_exec.proofs.rpc.run_found.Goals as goal

pub returns-in_err-vars-clause-does : goal.returns-in_err-vars-clause-does
returns-in_err-vars-clause-does g c = does_out _ c.from_residual.ensures.0 refl

pub returns-in_err-exit-clause-does : goal.returns-in_err-exit-clause-does
unfolding runs_exec
returns-in_err-exit-clause-does g c = rw (← c.of.view_is) (does_reads (does_leave _ _ _ c.from_residual-in_err-exit.ensures.0
    (rw (c.in_ok-vars.ensures, c.as_slice-body.ensures, c.in_body-inside.ensures, c.batch-around.ensures) at c.in_err-exit.ensures.does statement_limit (λ settings. settings) c.requires.left c.settings-settings.ensures)))

pub returns-clause-does : goal.returns-clause-does
unfolding runs_exec
returns-clause-does g c = rw (← c.of.view_is) (does_reads (does_then _ _
    (rw (c.in_ok-vars.ensures, c.as_slice-body.ensures, c.in_body-inside.ensures, c.batch-around.ensures) at c.in_ok-exit.ensures.does statement_limit (λ settings. settings) c.requires.left c.settings-settings.ensures)
    (rw c.count-count.ensures.count at c.leave_body.ensures.does _)))

pub call_vars-requires : goal.call_vars-requires
call_vars-requires g c = record { typed = rw (← c.of.view_is) at c.requires.typed }
