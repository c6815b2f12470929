use Rattle.std.proofs.Common.{refl}
use Rattle.dml_exec.specs.Writing.{writes_one}
use Rattle.dml_exec.proofs.Held.{asks_over, asks_then}
use Rattle.dml_exec.proofs.Writes.{there_told}
use Rattle.dml_exec.proofs.writing.write_one.Goals as goal

pub returns-in-Done-clause-asks : goal.returns-in-Done-clause-asks
unfolding writes_one
returns-in-Done-clause-asks g c = asks_then _ _ c.in-Done.ensures.asks (asks_over refl)

pub returns-in-Exists-clause-asks : goal.returns-in-Exists-clause-asks
unfolding writes_one
returns-in-Exists-clause-asks g c = asks_then _ _ c.in-Exists.ensures.asks (there_told c.args.shapes.now c.args.change.now _ c.there.ensures)

pub returns-in-Missing-clause-asks : goal.returns-in-Missing-clause-asks
unfolding writes_one
returns-in-Missing-clause-asks g c = asks_then _ _ c.in-Missing.ensures.asks (asks_over refl)

pub returns-in-Memory-clause-asks : goal.returns-in-Memory-clause-asks
unfolding writes_one
returns-in-Memory-clause-asks g c = asks_then _ _ c.in-Memory.ensures.asks (asks_over refl)

pub returns-in-TimedOut-clause-asks : goal.returns-in-TimedOut-clause-asks
unfolding writes_one
returns-in-TimedOut-clause-asks g c = asks_then _ _ c.in-TimedOut.ensures.asks (asks_over refl)

pub returns-in-Victim-clause-asks : goal.returns-in-Victim-clause-asks
unfolding writes_one
returns-in-Victim-clause-asks g c = asks_then _ _ c.in-Victim.ensures.asks (asks_over refl)
