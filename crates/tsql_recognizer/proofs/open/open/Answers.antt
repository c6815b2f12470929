use Rattle.tsql_grammar.specs.declared.rule.Rule.TheVariants as r
use Rattle.tsql_recognizer.proofs.Counted.{at_rule, by_symbols, plain_so}
use Rattle.tsql_recognizer.proofs.open.open.Goals as goal

pub returns-in-Body : goal.returns-in-Body
returns-in-Body c = at_rule c.args.rule (r.Body c.in-Body.around) c.in-Body.is _ _ _ _ c.body.ensures

pub returns-in-Statement : goal.returns-in-Statement
returns-in-Statement c = at_rule c.args.rule (r.Statement c.in-Statement.around) c.in-Statement.is _ _ _ _ c.statement.ensures

pub returns-in-OtherStatement : goal.returns-in-OtherStatement
returns-in-OtherStatement c = at_rule c.args.rule (r.OtherStatement c.in-OtherStatement.around) c.in-OtherStatement.is _ _ _ _ c.other_statement.ensures

pub returns-in-AfterBegin : goal.returns-in-AfterBegin
returns-in-AfterBegin c = at_rule c.args.rule (r.AfterBegin c.in-AfterBegin.around) c.in-AfterBegin.is _ _ _ _ c.after_begin.ensures

pub returns-in-Else : goal.returns-in-Else
returns-in-Else c = at_rule c.args.rule (r.Else c.in-Else.around) c.in-Else.is _ _ _ _ c.alternative.ensures

pub returns-in-ThrowArguments : goal.returns-in-ThrowArguments
returns-in-ThrowArguments c = at_rule c.args.rule (r.ThrowArguments c.in-ThrowArguments.around) c.in-ThrowArguments.is _ _ _ _ c.throw_arguments.ensures

pub returns-in-AfterItemFunction : goal.returns-in-AfterItemFunction
returns-in-AfterItemFunction c = at_rule c.args.rule (r.AfterItemFunction c.in-AfterItemFunction.function) c.in-AfterItemFunction.is _ _ _ _ c.after_item_function.ensures

pub returns-in-Opened : goal.returns-in-Opened
returns-in-Opened c = at_rule c.args.rule (r.Opened c.in-Opened.count) c.in-Opened.is _ _ _ _ c.opened.ensures

pub returns-in-Operand : goal.returns-in-Operand
returns-in-Operand c = at_rule c.args.rule (r.Operand c.in-Operand.count) c.in-Operand.is _ _ _ _ c.operand.ensures

pub returns-in-Compared : goal.returns-in-Compared
returns-in-Compared c = at_rule c.args.rule (r.Compared c.in-Compared.count) c.in-Compared.is _ _ _ _ c.compared.ensures

pub returns-in-Tested : goal.returns-in-Tested
returns-in-Tested c = at_rule c.args.rule (r.Tested c.in-Tested.count) c.in-Tested.is _ _ _ _ c.tested.ensures

pub returns-in-AfterFunction : goal.returns-in-AfterFunction
returns-in-AfterFunction c = at_rule c.args.rule (r.AfterFunction c.in-AfterFunction.function) c.in-AfterFunction.is _ _ _ _ c.after_function.ensures

pub returns-in-FunctionArguments : goal.returns-in-FunctionArguments
returns-in-FunctionArguments c = at_rule c.args.rule (r.FunctionArguments c.in-FunctionArguments.function) c.in-FunctionArguments.is _ _ _ _ c.function_arguments.ensures

pub returns-in_default : goal.returns-in_default
returns-in_default c =
    let plain = plain_so c.args.rule c.in_default.not-Body c.in_default.not-Statement c.in_default.not-OtherStatement c.in_default.not-AfterBegin c.in_default.not-Else c.in_default.not-ThrowArguments c.in_default.not-AfterItemFunction c.in_default.not-Opened c.in_default.not-Operand c.in_default.not-Compared c.in_default.not-Tested c.in_default.not-AfterFunction c.in_default.not-FunctionArguments in
    by_symbols _ _ (c.productions.ensures plain) _ _ _ _ c.push_chosen.ensures
