use Rattle.std.proofs.Common.{ap, sym}
use Rattle.tsql_grammar.specs.declared.rule.Rule.TheVariants as r
use Rattle.tsql_recognizer.specs.Stack.{symbols_of_rule}
use Rattle.tsql_recognizer.proofs.table.arguments_of.Goals as goal

pub returns-in-Cast : goal.returns-in-Cast
returns-in-Cast c = ap (λ a. symbols_of_rule (r.FunctionArguments a)) (sym c.in-Cast.is)

pub returns-in-IsNull : goal.returns-in-IsNull
returns-in-IsNull c = ap (λ a. symbols_of_rule (r.FunctionArguments a)) (sym c.in-IsNull.is)

pub returns-in-Len : goal.returns-in-Len
returns-in-Len c = ap (λ a. symbols_of_rule (r.FunctionArguments a)) (sym c.in-Len.is)

pub returns-in-Count : goal.returns-in-Count
returns-in-Count c = ap (λ a. symbols_of_rule (r.FunctionArguments a)) (sym c.in-Count.is)

pub returns-in-Sum : goal.returns-in-Sum
returns-in-Sum c = ap (λ a. symbols_of_rule (r.FunctionArguments a)) (sym c.in-Sum.is)

pub returns-in-Avg : goal.returns-in-Avg
returns-in-Avg c = ap (λ a. symbols_of_rule (r.FunctionArguments a)) (sym c.in-Avg.is)

pub returns-in-Min : goal.returns-in-Min
returns-in-Min c = ap (λ a. symbols_of_rule (r.FunctionArguments a)) (sym c.in-Min.is)

pub returns-in-Max : goal.returns-in-Max
returns-in-Max c = ap (λ a. symbols_of_rule (r.FunctionArguments a)) (sym c.in-Max.is)

pub returns-in-XactState : goal.returns-in-XactState
returns-in-XactState c = ap (λ a. symbols_of_rule (r.FunctionArguments a)) (sym c.in-XactState.is)

pub returns-in-ErrorNumber : goal.returns-in-ErrorNumber
returns-in-ErrorNumber c = ap (λ a. symbols_of_rule (r.FunctionArguments a)) (sym c.in-ErrorNumber.is)

pub returns-in-ErrorSeverity : goal.returns-in-ErrorSeverity
returns-in-ErrorSeverity c = ap (λ a. symbols_of_rule (r.FunctionArguments a)) (sym c.in-ErrorSeverity.is)

pub returns-in-ErrorState : goal.returns-in-ErrorState
returns-in-ErrorState c = ap (λ a. symbols_of_rule (r.FunctionArguments a)) (sym c.in-ErrorState.is)

pub returns-in-ErrorLine : goal.returns-in-ErrorLine
returns-in-ErrorLine c = ap (λ a. symbols_of_rule (r.FunctionArguments a)) (sym c.in-ErrorLine.is)

pub returns-in-ErrorMessage : goal.returns-in-ErrorMessage
returns-in-ErrorMessage c = ap (λ a. symbols_of_rule (r.FunctionArguments a)) (sym c.in-ErrorMessage.is)

pub returns-in-ErrorProcedure : goal.returns-in-ErrorProcedure
returns-in-ErrorProcedure c = ap (λ a. symbols_of_rule (r.FunctionArguments a)) (sym c.in-ErrorProcedure.is)

pub returns-in-SchemaName : goal.returns-in-SchemaName
returns-in-SchemaName c = ap (λ a. symbols_of_rule (r.FunctionArguments a)) (sym c.in-SchemaName.is)

pub returns-in-DatabaseName : goal.returns-in-DatabaseName
returns-in-DatabaseName c = ap (λ a. symbols_of_rule (r.FunctionArguments a)) (sym c.in-DatabaseName.is)

pub returns-in-UserName : goal.returns-in-UserName
returns-in-UserName c = ap (λ a. symbols_of_rule (r.FunctionArguments a)) (sym c.in-UserName.is)
