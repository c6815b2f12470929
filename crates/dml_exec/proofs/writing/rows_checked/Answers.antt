use Rattle.std.proofs.Common.{true, false, refl, ap, Ok}
use Rattle.dml_exec.specs.Writing.{halted, rows_checked}
use Rattle.dml_exec.proofs.Held.{asks_over, asks_room, asks_then}
use Rattle.dml_exec.proofs.writing.rows_checked.Goals as goal

pub returns-in_default-clause-asks : goal.returns-in_default-clause-asks
unfolding rows_checked
returns-in_default-clause-asks g c = asks_room false _ (asks_over refl)

pub returns-in-Ok-read_range-clause-asks : goal.returns-in-Ok-read_range-clause-asks
unfolding rows_checked
returns-in-Ok-read_range-clause-asks g c =
    asks_room true _ (asks_then _ halted (rw (c.is_one_key-one.ensures, c.key_width.ensures, c.part_shape-shape.ensures, c.in-Ok.ensures) at c.in-Ok-read_range.ensures.asks) (asks_over (ap Ok c.from.ensures)))

pub returns-in-Err-clause-asks : goal.returns-in-Err-clause-asks
unfolding rows_checked
returns-in-Err-clause-asks g c =
    asks_room true _ (asks_then _ halted (rw (c.is_one_key-one.ensures, c.key_width.ensures, c.part_shape-shape.ensures, c.in-Ok.ensures) at c.in-Err.ensures.asks) (asks_over refl))
