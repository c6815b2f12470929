use Rattle.batch_meaning.proofs.Composed.{leads_here}
use Rattle.batch_exec.proofs.Runs.{again_level, loops_left, spent_level}
use Rattle.batch_exec.proofs.looping.begin_anew.Goals as goal

pub returns-in_err-exit-clause-does : goal.returns-in_err-exit-clause-does
returns-in_err-exit-clause-does g c = λ levels below. loops_left _ _ _ _ c.from_residual.ensures.0 (spent_level levels _ _ c.if-is_spent.ensures c.in_err-exit.ensures.does)

pub returns-then-is_spent-clause-does : goal.returns-then-is_spent-clause-does
returns-then-is_spent-clause-does g c = λ levels below. spent_level levels _ _ c.if-is_spent.ensures c.in_ok-exit.ensures.does

pub returns-clause-does : goal.returns-clause-does
returns-clause-does g c = λ levels below. again_level levels _ _ _ c.requires.loops below c.if-is_spent.ensures c.begin_statement.ensures leads_here
