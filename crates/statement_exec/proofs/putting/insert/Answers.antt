use Rattle.std.proofs.Common.{refl, sym, ◌∙◌}
use Rattle.batch_meaning.specs.Changing.{object_present}
use Rattle.batch_meaning.specs.Asking.{takes_back}
use Rattle.batch_meaning.proofs.Composed.{does_over, does_asks}
use Rattle.statement_exec.proofs.Changes.{does_named, insertion_may}
use Rattle.statement_exec.proofs.putting.insert.Goals as goal

pub ask-requires-clause-may : goal.ask-requires-clause-may
ask-requires-clause-may g c = insertion_may _ _ c.requires.inserts (sym c.requires.ready.agree ∙ c.requires.begun)

pub returns-in-Done-clause-does : goal.returns-in-Done-clause-does
returns-in-Done-clause-does g c = does_asks c.in-Done.ensures.asked (does_over refl)

pub returns-in-Exists-clause-does : goal.returns-in-Exists-clause-does
unfolding takes_back
returns-in-Exists-clause-does g c = does_asks c.in-Exists.ensures.asked (does_named (takes_back c.args.mark) object_present c.args.name.now c.naming.result c.naming.ensures (does_asks c.take_back.ensures.back (does_over refl)))

pub returns-in-Memory-clause-does : goal.returns-in-Memory-clause-does
unfolding takes_back
returns-in-Memory-clause-does g c = does_asks c.in-Memory.ensures.asked (rw c.no_memory.ensures (does_asks c.take_back-in-Memory.ensures.back (does_over refl)))

pub returns-in-TimedOut-clause-does : goal.returns-in-TimedOut-clause-does
unfolding takes_back
returns-in-TimedOut-clause-does g c = does_asks c.in-TimedOut.ensures.asked (rw c.plain.ensures (does_asks c.take_back-in-TimedOut.ensures.back (does_over refl)))

pub returns-in-Victim-clause-does : goal.returns-in-Victim-clause-does
unfolding takes_back
returns-in-Victim-clause-does g c = does_asks c.in-Victim.ensures.asked (rw c.plain-in-Victim.ensures (does_asks c.take_back-in-Victim.ensures.back (does_over refl)))
