use Rattle.std.proofs.Common.{sym}
use Rattle.batch_meaning.proofs.Composed.{does_makes, does_no, does_yes}
use Rattle.batch_exec.proofs.errors.raise_counted.Goals as goal

pub returns-then-leaves_rows-clause-does : goal.returns-then-leaves_rows-clause-does
returns-then-leaves_rows-clause-does g c = does_yes _ _ _ (sym c.if-leaves_rows.ensures) c.raise.ensures.does

pub returns-clause-does : goal.returns-clause-does
returns-clause-does g c = does_no _ _ _ (sym c.if-leaves_rows.ensures) (does_makes c.tell_rows.ensures c.raise-2.ensures.does)
