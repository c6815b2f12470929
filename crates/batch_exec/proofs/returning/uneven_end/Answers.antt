use Rattle.session_state.proofs.Stepping.{does_stepped}
use Rattle.batch_exec.proofs.Raises.{ready_same}
use Rattle.batch_exec.proofs.returning.uneven_end.Goals as goal

pub returns-then-caught-clause-does : goal.returns-then-caught-clause-does
returns-then-caught-clause-does g c = rw c.if-caught.true (does_stepped c.catch.ensures.came)

pub returns-else-caught-clause-does : goal.returns-else-caught-clause-does
returns-else-caught-clause-does g c = rw c.if-caught.false c.end_by.ensures.does

pub returns-then-caught-clause-ready : goal.returns-then-caught-clause-ready
returns-then-caught-clause-ready g c = ready_same _ _ c.requires.ready c.catch.ensures.kept c.catch.ensures.txn c.catch.ensures.count c.catch.ensures.settings
