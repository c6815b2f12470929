use Rattle.std.proofs.Common.{refl}
use Rattle.statement_exec.proofs.Looking.{asks_given, asks_looked, asks_no_more, asks_nothing}
use Rattle.statement_exec.proofs.known.asks_any.Goals as goal

pub loop-name-init : goal.loop-name-init
loop-name-init c = refl

pub returns-in-LookedUp : goal.returns-in-LookedUp
returns-in-LookedUp c = asks_looked _ _ _ _ c.name-item.is c.loop-name-test.true c.loop-name.invariant (rw c.in-LookedUp.is at c.known.ensures) c.is_objects.ensures

pub returns-in-Nothing : goal.returns-in-Nothing
returns-in-Nothing c = asks_nothing _ _ _ _ c.name-item.is c.loop-name-test.true c.loop-name.invariant (rw c.in-Nothing.is at c.known.ensures)

pub loop-name-preserved : goal.loop-name-preserved
loop-name-preserved c = asks_given _ _ _ _ c.name-item.is c.loop-name-test.true c.loop-name.invariant (rw c.in-Given.is at c.known.ensures)

pub returns : goal.returns
returns c = asks_no_more _ _ _ c.loop-name-test.false c.loop-name.invariant
