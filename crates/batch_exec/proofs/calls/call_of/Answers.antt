use Rattle.std.proofs.Common.{sym, ◌∙◌}
use Rattle.batch_exec.proofs.Called.{call_deep, call_none, call_some}
use Rattle.batch_exec.proofs.calls.call_of.Goals as goal

pub returns-in-Some-clause-came : goal.returns-in-Some-clause-came
returns-in-Some-clause-came c = λ found is. call_deep c.args.around.now c.args.name.now c.args.arguments.now c.args.vars.now found (sym c.in-Some.is ∙ is) (sym c.if-is_deepest.ensures) c.plain.ensures

pub returns-in-Some-2-clause-came : goal.returns-in-Some-2-clause-came
returns-in-Some-2-clause-came c = λ found is. call_some c.args.around.now c.args.name.now c.args.arguments.now c.args.vars.now found (sym c.in-Some.is ∙ is) (sym c.if-is_deepest.ensures) c.call_with.ensures.came

pub returns-in-None-clause-came : goal.returns-in-None-clause-came
returns-in-None-clause-came c = λ found is. call_none c.args.around.now c.args.name.now c.args.arguments.now c.args.vars.now found (sym c.in-None.is ∙ is) c.naming.ensures
