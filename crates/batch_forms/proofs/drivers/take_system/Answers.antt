use Rattle.std.proofs.Common.{refl}
use Rattle.batch_meaning.specs.Drivers.{executes, sql_source}
use Rattle.batch_forms.proofs.Taken.{both_are}
use Rattle.batch_forms.proofs.drivers.take_system.Goals as goal

pub returns-in-ExecuteSql : goal.returns-in-ExecuteSql
returns-in-ExecuteSql c =
    rw c.in-ExecuteSql.is (both_are c.execute_sql.result c.args.prepared.now (executes c.args.parameters.items (sql_source c.args.parameters.items)) c.args.prepared.now refl c.execute_sql.ensures)
