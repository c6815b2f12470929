use Rattle.std.proofs.Common.{◌≡◌, Some, Ok, inl, ap}
use Rattle.table_rows.specs.Rows.{shape_of}
use Rattle.dml_exec.specs.Planning.{table_written}
use Rattle.statement_exec.proofs.seen.seen_by_triggers.Goals as goal

pub returns-in-Ok : goal.returns-in-Ok
returns-in-Ok c = λ first.
    let is : shape_of (table_written c.args.write.now) c.args.shapes ≡ Some c.in-Some.shape = rw c.table_written.ensures at c.in-Some.ensures in
    rw is (inl (ap Ok (rw (c.target_rows.ensures, c.as_slice.ensures) at c.in-Ok.ensures)))
