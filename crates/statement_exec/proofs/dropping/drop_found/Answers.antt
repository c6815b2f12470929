use Rattle.std.proofs.Common.{Some, sym, ap, ◌∙◌}
use Rattle.statement_exec.proofs.DropWays.{does_procedure, does_table, does_trigger, drops_none, drops_wanting}
use Rattle.statement_exec.proofs.Parts.{does_naming}
use Rattle.statement_exec.proofs.dropping.drop_found.Goals as goal

pub returns-then-not-is_found-clause-does : goal.returns-then-not-is_found-clause-does
returns-then-not-is_found-clause-does g c = rw (drops_none c.args.around.now c.args.kind c.args.name.now c.args.found.now (sym c.if-not-is_found.ensures)) (does_naming _ _ _ c.naming.ensures)

pub returns-then-not-in_transaction-clause-does : goal.returns-then-not-in_transaction-clause-does
returns-then-not-in_transaction-clause-does g c = rw c.no_memory.ensures (drops_wanting c.args.around.now c.args.kind c.args.name.now c.args.found.now)

-- the equation of a nested pattern is made of its two
pub returns-in-Some-Table-clause-does : goal.returns-in-Some-Table-clause-does
returns-in-Some-Table-clause-does g c = does_table c.args.around.now c.args.kind c.args.name.now c.args.found.now c.if-not-is_found.ensures _ (c.in-Some-Table.is ∙ ap Some (rw c.in-Some-Table.is at c.in-Some-Table.field-0-is)) c.drop_table.ensures.does

pub returns-in-Some-Procedure-clause-does : goal.returns-in-Some-Procedure-clause-does
returns-in-Some-Procedure-clause-does g c = does_procedure c.args.around.now c.args.kind c.args.name.now c.args.found.now c.if-not-is_found.ensures _ (c.in-Some-Procedure.is ∙ ap Some (rw c.in-Some-Procedure.is at c.in-Some-Procedure.field-0-is)) (c.drop_definition.ensures.does c.args.around.now)

pub returns-in-Some-Trigger-clause-does : goal.returns-in-Some-Trigger-clause-does
returns-in-Some-Trigger-clause-does g c = does_trigger c.args.around.now c.args.kind c.args.name.now c.args.found.now c.if-not-is_found.ensures _ (c.in-Some-Trigger.is ∙ ap Some (rw c.in-Some-Trigger.is at c.in-Some-Trigger.field-0-is)) (c.drop_definition-in-Some-Trigger.ensures.does c.args.around.now)

pub returns-in-None-clause-does : goal.returns-in-None-clause-does
returns-in-None-clause-does g c = rw c.no_memory-in-None.ensures (drops_wanting c.args.around.now c.args.kind c.args.name.now c.args.found.now)
