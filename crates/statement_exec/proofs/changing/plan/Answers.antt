use Rattle.std.proofs.Common.{◌≡◌, Some, None, Err, inl, sym, ap}
use Rattle.table_rows.specs.Rows.{shape_of}
use Rattle.dml_exec.specs.Planning.{table_written}
use Rattle.statement_exec.proofs.changing.plan.Goals as goal

pub returns-in-Some : goal.returns-in-Some
returns-in-Some c =
    let same : shape_of (table_written c.args.write.now) c.args.shapes.now ≡ Some c.in-Some.shape.now = sym (rw c.table_written.ensures at c.in-Some.ensures) in
    rw same c.plan_in.ensures

pub returns-in-None : goal.returns-in-None
returns-in-None c =
    let same : shape_of (table_written c.args.write.now) c.args.shapes.now ≡ None = sym (rw c.table_written.ensures at c.in-None.ensures) in
    rw same (inl (ap Err c.plain.ensures))
