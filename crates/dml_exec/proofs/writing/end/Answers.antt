use Rattle.std.proofs.Common.{Some, ◌∙◌, ap}
use Rattle.dml_exec.specs.Writing.{told}
use Rattle.dml_exec.proofs.Held.{asks_one, asks_over}
use Rattle.dml_exec.proofs.writing.end.Goals as goal

pub returns-in-Ok-clause-asks : goal.returns-in-Ok-clause-asks
returns-in-Ok-clause-asks g c = rw c.in-Ok.is (asks_over c.told.ensures)

pub returns-in-Done-clause-asks : goal.returns-in-Done-clause-asks
returns-in-Done-clause-asks g c = rw c.in-Err.is (asks_one tt _ _ c.in-Done.ensures.past c.in-Done.ensures.reply (asks_over (c.told-in-Done.ensures ∙ ap (told (Some c.args.mark)) c.outcome.ensures)))
