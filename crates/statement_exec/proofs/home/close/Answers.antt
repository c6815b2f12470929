use Rattle.std.proofs.Common.{refl}
use Rattle.batch_meaning.specs.Working.{closes}
use Rattle.batch_meaning.proofs.Composed.{does_over, does_asks}
use Rattle.statement_exec.proofs.home.close.Goals as goal

pub returns-in-Ended-clause-does : goal.returns-in-Ended-clause-does
unfolding closes
returns-in-Ended-clause-does g c = rw c.if-succeeded.true (does_asks c.in-Ended.ensures.asked (does_over refl))

pub returns-in-Ended-ask-clause-does : goal.returns-in-Ended-ask-clause-does
unfolding closes
returns-in-Ended-ask-clause-does g c = rw c.if-succeeded.false (does_asks c.in-Ended-ask.ensures.asked (does_over refl))
