use Rattle.std.proofs.Common.{refl, Err, ap}
use Rattle.batch_meaning.proofs.Composed.{does_over, does_asks}
use Rattle.statement_exec.proofs.Parts.{does_defined, does_made}
use Rattle.statement_exec.proofs.look_up.fetch_defined.Goals as goal

pub returns-in-Row-clause-does : goal.returns-in-Row-clause-does
returns-in-Row-clause-does g c = does_asks c.in-Row.ensures.asked (does_defined _ _ c.defined.ensures)

pub returns-in-Gone-clause-does : goal.returns-in-Gone-clause-does
returns-in-Gone-clause-does g c = does_asks c.in-Gone.ensures.asked (does_over refl)

pub returns-in-End-clause-does : goal.returns-in-End-clause-does
returns-in-End-clause-does g c = does_asks c.in-End.ensures.asked (does_over refl)

pub returns-in-Memory-clause-does : goal.returns-in-Memory-clause-does
returns-in-Memory-clause-does g c = does_asks c.in-Memory.ensures.asked (does_made (ap Err c.plain.ensures))

pub returns-in-TimedOut-clause-does : goal.returns-in-TimedOut-clause-does
returns-in-TimedOut-clause-does g c = does_asks c.in-TimedOut.ensures.asked (does_made (ap Err c.plain-in-TimedOut.ensures))

pub returns-in-Victim-clause-does : goal.returns-in-Victim-clause-does
returns-in-Victim-clause-does g c = does_asks c.in-Victim.ensures.asked (does_made (ap Err c.plain-in-Victim.ensures))
