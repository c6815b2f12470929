use Rattle.std.proofs.Common.{true, false, Err, ap, sym}
use Rattle.batch_meaning.specs.Writes.{creates_table}
use Rattle.batch_meaning.proofs.Composed.{does_no, does_room, does_yes}
use Rattle.statement_exec.proofs.Parts.{does_made}
use Rattle.statement_exec.proofs.creating.create_table.Goals as goal

pub returns-in-Ok-clause-does : goal.returns-in-Ok-clause-does
unfolding creates_table
returns-in-Ok-clause-does g c = does_room true (does_yes _ _ _ (sym (rw (c.as_slice.ensures.value, c.in-Ok.ensures) at c.if-asks_any.ensures)) c.create_named.ensures.does)

pub returns-in-Ok-2-clause-does : goal.returns-in-Ok-2-clause-does
unfolding creates_table
returns-in-Ok-2-clause-does g c = does_room true (does_no _ _ _ (sym (rw (c.as_slice.ensures.value, c.in-Ok.ensures) at c.if-asks_any.ensures)) c.create_alone.ensures.does)

pub returns-in-Err-clause-does : goal.returns-in-Err-clause-does
unfolding creates_table
returns-in-Err-clause-does g c = does_room false (does_made (ap Err c.no_memory.ensures))
