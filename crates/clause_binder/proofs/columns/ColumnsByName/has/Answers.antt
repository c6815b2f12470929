use Rattle.std.proofs.Common.{ap, sym, true, false}
use Rattle.clause_binder.proofs.ByName.{found_any, is_any}
use Rattle.clause_binder.proofs.columns.ColumnsByName.has.Goals as goal

pub returns-in-Nothing : goal.returns-in-Nothing
returns-in-Nothing c = found_any c.args.name.now c.args.self.now c.find.result false c.find.ensures (ap is_any (sym c.in-Nothing.is))

pub returns-in-One : goal.returns-in-One
returns-in-One c = found_any c.args.name.now c.args.self.now c.find.result true c.find.ensures (ap is_any (sym c.in-One.is))

pub returns-in-Several : goal.returns-in-Several
returns-in-Several c = found_any c.args.name.now c.args.self.now c.find.result true c.find.ensures (ap is_any (sym c.in-Several.is))
