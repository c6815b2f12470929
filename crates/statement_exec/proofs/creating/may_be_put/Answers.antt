use Rattle.std.proofs.Common.{Err, refl, sym, ap}
use Rattle.statement_exec.proofs.creating.may_be_put.Goals as goal

pub returns-then-is_outside : goal.returns-then-is_outside
returns-then-is_outside c = rw c.if-is_outside.true (ap Err c.plain.ensures)

pub returns-then-is_objects : goal.returns-then-is_objects
returns-then-is_objects c = rw (c.if-is_outside.false, sym c.if-is_objects.ensures) c.naming.ensures

pub returns : goal.returns
returns c = rw (c.if-is_outside.false, sym c.if-is_objects.ensures) refl
