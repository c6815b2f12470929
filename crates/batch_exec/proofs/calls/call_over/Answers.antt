use Rattle.std.proofs.Common.{refl, sym}
use Rattle.batch_exec.proofs.Called.{call_missing, call_standing, call_unbound}
use Rattle.batch_exec.proofs.calls.call_over.Goals as goal

pub returns-in_err-bind_first-clause-came : goal.returns-in_err-bind_first-clause-came
returns-in_err-bind_first-clause-came c = call_unbound _ _ _ _ _ _ _ _ _ c.from_residual.ensures.0 c.from_residual.ensures.1 c.in_err-bind_first.ensures

pub returns-then-not-are_standing-clause-came : goal.returns-then-not-are_standing-clause-came
returns-then-not-are_standing-clause-came c = call_missing _ _ _ _ _ _ _ c.in_ok-bind_first.ensures (sym (rw c.vars-vars.ensures.vars at c.if-not-are_standing.ensures.stands)) c.plain.ensures

pub call_of-requires : goal.call_of-requires
call_of-requires c = record { declared = c.if-not-are_standing.ensures.declared refl }

pub returns-clause-came : goal.returns-clause-came
returns-clause-came c =
    call_standing _ _ _ _ _ _ _ c.in_ok-bind_first.ensures (sym (rw c.vars-vars.ensures.vars at c.if-not-are_standing.ensures.stands)) (rw c.vars-vars.ensures.vars at c.call_of.ensures.came c.args.found c.procedure_in-procedure.ensures)
