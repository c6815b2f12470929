use Rattle.batch_meaning.proofs.Composed.{does_asks}
use Rattle.batch_exec.proofs.firing.undo.Goals as goal

pub returns-clause-does : goal.returns-clause-does
returns-clause-does g c = does_asks c.take_back.ensures.back c.undone.ensures.does
