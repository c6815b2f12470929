use Rattle.std.proofs.Common.{◌≡◌, to_z, of_z, Err, inr, ap, rules}
use Rattle.std.specs.Int.{w32}
use Rattle.statement_exec.proofs.working.raised_from.Goals as goal

pub returns-in_default : goal.returns-in_default
returns-in_default c = inr (ap Err c.no_memory.ensures)

pub returns-in-Ok-procedure : goal.returns-in-Ok-procedure
returns-in-Ok-procedure c =
    let same : to_z w32 (of_z w32 c.in-Ok.line) ≡ c.in-Ok.line = search rules in
    rw (same, c.in-Ok.ensures, c.in-Ok-procedure.ensures, c.first_row.ensures) at c.raised_by.ensures

pub returns-in-Err : goal.returns-in-Err
returns-in-Err c = inr (ap Err c.no_memory-in-Err.ensures)
