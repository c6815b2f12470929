use Rattle.std.proofs.Common.{of_z, ap, refl}
use Rattle.std.specs.Int.{w32}
use Rattle.session_state.proofs.Stepping.{stepped_made, stepped_makes}
use Rattle.statement_exec.proofs.CursorSteps.{passes_failed, passes_none, passes_row}
use Rattle.statement_exec.proofs.cursors.pass_row.Goals as goal

pub returns-in-Ok-clause-came : goal.returns-in-Ok-clause-came
returns-in-Ok-clause-came c = λ meant is. passes_row c.args.name.now meant c.in-Ok.sets.items (rw c.in-Ok.is at is) c.fetch_next.ensures.fetched (rw c.none.ensures (stepped_makes c.tell_fetch.ensures (stepped_made refl)))

pub returns-in-Err-clause-came : goal.returns-in-Err-clause-came
returns-in-Err-clause-came c = λ meant is. passes_none c.args.name.now meant c.no_memory.result c.no_memory.ensures

pub returns-in-Err-2-clause-came : goal.returns-in-Err-2-clause-came
returns-in-Err-2-clause-came c = λ meant is.
    passes_failed c.args.name.now meant c.in-Err.failure (λ wanting. c.if-sets-eq-WANTING.false (ap (of_z w32) wanting)) (rw c.in-Err.is at is) c.fetch_next-in-Err-2.ensures.fetched
