use Rattle.std.proofs.Common.{rules}
use Rattle.clause_binder.proofs.Variables.{kind_found}
use Rattle.clause_binder.proofs.operand.variable_of.Goals as goal

pub returns-in-Some : goal.returns-in-Some
returns-in-Some c = search (rules, kind_found c.args.name.now c.args.vars.now c.in-Some.place c.kind.result)
