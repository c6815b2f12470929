use Rattle.statement_exec.proofs.Seeing.{shape_first, shape_within}
use Rattle.statement_exec.proofs.seen.written_shape.Goals as goal

pub remove-requires : goal.remove-requires
remove-requires c = shape_within c.args.table.now _ _ (rw (c.in-Some.is, c.as_slice.ensures) at c.place_of_shape.ensures)

pub returns-in-Some : goal.returns-in-Some
returns-in-Some c = shape_first c.args.table.now _ _ _ (rw (c.in-Some.is, c.as_slice.ensures) at c.place_of_shape.ensures) c.remove.ensures.item
