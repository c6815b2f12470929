use Rattle.std.proofs.Common.{sym}
use Rattle.batch_exec.proofs.Parameters.{none_given, some_given}
use Rattle.batch_exec.proofs.rpc.name_given.Goals as goal

pub returns-then-is_empty : goal.returns-then-is_empty
returns-then-is_empty c = none_given c.args.name.now (sym c.if-is_empty.ensures)

pub returns-in_ok-copy : goal.returns-in_ok-copy
returns-in_ok-copy c = some_given c.args.name.now _ (sym c.if-is_empty.ensures) c.in_ok-copy.ensures
