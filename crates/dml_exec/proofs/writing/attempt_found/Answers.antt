use Rattle.std.proofs.Common.{refl}
use Rattle.dml_exec.proofs.Held.{asks_one, asks_over, asks_then}
use Rattle.dml_exec.proofs.writing.attempt_found.Goals as goal

pub returns-in-Marked-clause-asks : goal.returns-in-Marked-clause-asks
returns-in-Marked-clause-asks g c = asks_one tt _ _ c.in-Marked.ensures.past c.in-Marked.ensures.reply (asks_then _ _ c.work-came.ensures.asks c.end.ensures.asks)

pub returns-in-Memory-clause-asks : goal.returns-in-Memory-clause-asks
returns-in-Memory-clause-asks g c = asks_one tt _ _ c.in-Memory.ensures.past c.in-Memory.ensures.reply (asks_over refl)
