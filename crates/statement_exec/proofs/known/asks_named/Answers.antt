use Rattle.statement_exec.proofs.Looking.{named_given, named_looked, named_nothing}
use Rattle.statement_exec.proofs.known.asks_named.Goals as goal

pub returns-in-LookedUp : goal.returns-in-LookedUp
returns-in-LookedUp c = named_looked _ _ _ (rw c.in-LookedUp.is at c.known.ensures) c.is_objects.ensures

pub returns-in-Nothing : goal.returns-in-Nothing
returns-in-Nothing c = named_nothing _ _ (rw c.in-Nothing.is at c.known.ensures)

pub returns-in-Given : goal.returns-in-Given
returns-in-Given c = named_given _ _ _ (rw c.in-Given.is at c.known.ensures)
