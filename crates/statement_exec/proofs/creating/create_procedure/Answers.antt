use Rattle.std.proofs.Common.{true, ◌||◌}
use Rattle.clause_binder.specs.Scope.{is_long}
use Rattle.batch_meaning.specs.Working.{own}
use Rattle.batch_meaning.specs.Writes.{creates, creates_definition, is_odd_procedure}
use Rattle.batch_meaning.proofs.Composed.{does_room}
use Rattle.statement_exec.proofs.CreateWays.{puts_fails, puts_on}
use Rattle.statement_exec.proofs.creating.create_procedure.Goals as goal

pub returns-in_err-may_be_put-clause-does : goal.returns-in_err-may_be_put-clause-does
unfolding creates_definition
returns-in_err-may_be_put-clause-does g c =
    let of = c.args.procedure.now in
    does_room true (puts_fails of.name (own true (creates of.name c.args.text.now)) (is_odd_procedure of) _ _ c.from_residual.ensures.0 c.from_residual.ensures.1 (rw c.is_odd_procedure.ensures at c.in_err-may_be_put.ensures))

pub returns-clause-does : goal.returns-clause-does
unfolding creates_definition
returns-clause-does g c =
    let of = c.args.procedure.now in
    does_room true (puts_on of.name (own true (creates of.name c.args.text.now)) (is_odd_procedure of) (rw c.is_odd_procedure.ensures at c.in_ok-may_be_put.ensures) c.create_own.ensures.does)
