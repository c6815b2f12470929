use Rattle.std.proofs.Common.{refl}
use Rattle.dml_exec.specs.Writing.{asks_key, row_told}
use Rattle.dml_exec.proofs.Held.{asks_over, asks_tried, asks_untried}
use Rattle.dml_exec.proofs.KeySteps.{key_reply, row_is}
use Rattle.dml_exec.proofs.index_keys.ask_key.Goals as goal

pub told_by-requires : goal.told_by-requires
told_by-requires g c = record { reply = key_reply c.in-Ok.fetch (rw c.in-Ok.ensures tt) c.ask.result c.ask.ensures.reply }

pub returns-in-Ok-clause-asks : goal.returns-in-Ok-clause-asks
unfolding asks_key
returns-in-Ok-clause-asks g c = asks_tried tt row_told _ (rw c.in-Ok.ensures at c.ask.ensures.past) (rw c.in-Ok.ensures at c.ask.ensures.reply) (row_is c.ask.result _ c.told_by.ensures)

pub returns-in-Err-clause-asks : goal.returns-in-Err-clause-asks
unfolding asks_key
returns-in-Err-clause-asks g c = asks_untried _ tt row_told (asks_over refl)
