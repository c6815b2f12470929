use Rattle.std.proofs.Common.{sym, ◌∙◌}
use Rattle.clause_binder.specs.Scope.{is_long}
use Rattle.batch_meaning.specs.Writes.{creates, puts_definition}
use Rattle.batch_meaning.proofs.Composed.{does_bind, does_fail}
use Rattle.statement_exec.proofs.CreateWays.{does_not_there, does_there, found_some, puts_fails, puts_on}
use Rattle.statement_exec.proofs.Parts.{does_naming}
use Rattle.statement_exec.proofs.creating.create_trigger_in.Goals as goal

pub returns-in_err-look_up-clause-does : goal.returns-in_err-look_up-clause-does
returns-in_err-look_up-clause-does g c = does_fail _ _ _ c.from_residual.ensures.0 c.from_residual.ensures.1 c.in_err-look_up.ensures.does

pub returns-then-not-is_there-clause-does : goal.returns-then-not-is_there-clause-does
returns-then-not-is_there-clause-does g c =
    let of = c.args.trigger.now in
    does_bind _ _ c.in_ok-look_up.ensures.does (does_not_there of.table (puts_definition (is_long of.name) of.name (creates of.name c.args.text.now)) _ (sym (rw c.if-not-is_there.true at c.is_found-is_there.ensures)) (does_naming _ _ _ c.naming.ensures))

pub returns-in_err-may_be_put-clause-does : goal.returns-in_err-may_be_put-clause-does
returns-in_err-may_be_put-clause-does g c =
    let of = c.args.trigger.now in
    does_bind _ _ c.in_ok-look_up.ensures.does (does_there of.table (puts_definition (is_long of.name) of.name (creates of.name c.args.text.now)) _ (sym (rw c.if-not-is_there.false at c.is_found-is_there.ensures))
    (puts_fails of.name (creates of.name c.args.text.now) (is_long of.name) _ _ c.from_residual-in_err-may_be_put.ensures.0 c.from_residual-in_err-may_be_put.ensures.1 (rw c.is_long.ensures at c.in_err-may_be_put.ensures)))

pub returns-clause-does : goal.returns-clause-does
returns-clause-does g c =
    let of = c.args.trigger.now in
    does_bind _ _ c.in_ok-look_up.ensures.does (does_there of.table (puts_definition (is_long of.name) of.name (creates of.name c.args.text.now)) _ (sym (rw c.if-not-is_there.false at c.is_found-is_there.ensures))
    (puts_on of.name (creates of.name c.args.text.now) (is_long of.name) (rw c.is_long.ensures at c.in_ok-may_be_put.ensures) c.create.ensures.does))

pub create-requires-clause-begun : goal.create-requires-clause-begun
create-requires-clause-begun g c = c.in_ok-look_up.ensures.found (found_some _ _ (sym (rw c.if-not-is_there.false at c.is_found-is_there.ensures)))

pub returns-clause-kept : goal.returns-clause-kept
returns-clause-kept g c = c.create.ensures.begun ∙ sym (c.in_ok-look_up.ensures.found (found_some _ _ (sym (rw c.if-not-is_there.false at c.is_found-is_there.ensures)))) ∙ c.in_ok-look_up.ensures.kept
