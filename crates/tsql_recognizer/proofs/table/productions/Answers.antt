use Rattle.std.proofs.Common.{ap, sym}
use Rattle.tsql_recognizer.specs.Stack.{symbols_of_rule}
use Rattle.tsql_recognizer.proofs.table.productions.Goals as goal

pub returns-in-Batch : goal.returns-in-Batch
returns-in-Batch c = λ e. ap symbols_of_rule (sym c.in-Batch.is)

pub returns-in-AfterFirstCreate : goal.returns-in-AfterFirstCreate
returns-in-AfterFirstCreate c = λ e. ap symbols_of_rule (sym c.in-AfterFirstCreate.is)

pub returns-in-Definition : goal.returns-in-Definition
returns-in-Definition c = λ e. ap symbols_of_rule (sym c.in-Definition.is)

pub returns-in-AfterCreate : goal.returns-in-AfterCreate
returns-in-AfterCreate c = λ e. ap symbols_of_rule (sym c.in-AfterCreate.is)

pub returns-in-Procedure : goal.returns-in-Procedure
returns-in-Procedure c = λ e. ap symbols_of_rule (sym c.in-Procedure.is)

pub returns-in-Trigger : goal.returns-in-Trigger
returns-in-Trigger c = λ e. ap symbols_of_rule (sym c.in-Trigger.is)

pub returns-in-TriggerTime : goal.returns-in-TriggerTime
returns-in-TriggerTime c = λ e. ap symbols_of_rule (sym c.in-TriggerTime.is)

pub returns-in-Event : goal.returns-in-Event
returns-in-Event c = λ e. ap symbols_of_rule (sym c.in-Event.is)

pub returns-in-MoreEvents : goal.returns-in-MoreEvents
returns-in-MoreEvents c = λ e. ap symbols_of_rule (sym c.in-MoreEvents.is)

pub returns-in-Params : goal.returns-in-Params
returns-in-Params c = λ e. ap symbols_of_rule (sym c.in-Params.is)

pub returns-in-Param : goal.returns-in-Param
returns-in-Param c = λ e. ap symbols_of_rule (sym c.in-Param.is)

pub returns-in-MoreParams : goal.returns-in-MoreParams
returns-in-MoreParams c = λ e. ap symbols_of_rule (sym c.in-MoreParams.is)

pub returns-in-Output : goal.returns-in-Output
returns-in-Output c = λ e. ap symbols_of_rule (sym c.in-Output.is)

pub returns-in-Object : goal.returns-in-Object
returns-in-Object c = λ e. ap symbols_of_rule (sym c.in-Object.is)

pub returns-in-AfterDbo : goal.returns-in-AfterDbo
returns-in-AfterDbo c = λ e. ap symbols_of_rule (sym c.in-AfterDbo.is)

pub returns-in-Type : goal.returns-in-Type
returns-in-Type c = λ e. ap symbols_of_rule (sym c.in-Type.is)

pub returns-in-Names : goal.returns-in-Names
returns-in-Names c = λ e. ap symbols_of_rule (sym c.in-Names.is)

pub returns-in-MoreNames : goal.returns-in-MoreNames
returns-in-MoreNames c = λ e. ap symbols_of_rule (sym c.in-MoreNames.is)

pub returns-in-Semicolons : goal.returns-in-Semicolons
returns-in-Semicolons c = λ e. ap symbols_of_rule (sym c.in-Semicolons.is)

pub returns-in-OptionalSemicolon : goal.returns-in-OptionalSemicolon
returns-in-OptionalSemicolon c = λ e. ap symbols_of_rule (sym c.in-OptionalSemicolon.is)

pub returns-in-OptionalExpr : goal.returns-in-OptionalExpr
returns-in-OptionalExpr c = λ e. ap symbols_of_rule (sym c.in-OptionalExpr.is)

pub returns-in-Into : goal.returns-in-Into
returns-in-Into c = λ e. ap symbols_of_rule (sym c.in-Into.is)

pub returns-in-AfterInsertTable : goal.returns-in-AfterInsertTable
returns-in-AfterInsertTable c = λ e. ap symbols_of_rule (sym c.in-AfterInsertTable.is)

pub returns-in-InsertRows : goal.returns-in-InsertRows
returns-in-InsertRows c = λ e. ap symbols_of_rule (sym c.in-InsertRows.is)

pub returns-in-ValueRow : goal.returns-in-ValueRow
returns-in-ValueRow c = λ e. ap symbols_of_rule (sym c.in-ValueRow.is)

pub returns-in-MoreValueRows : goal.returns-in-MoreValueRows
returns-in-MoreValueRows c = λ e. ap symbols_of_rule (sym c.in-MoreValueRows.is)

pub returns-in-Assignment : goal.returns-in-Assignment
returns-in-Assignment c = λ e. ap symbols_of_rule (sym c.in-Assignment.is)

pub returns-in-MoreAssignments : goal.returns-in-MoreAssignments
returns-in-MoreAssignments c = λ e. ap symbols_of_rule (sym c.in-MoreAssignments.is)

pub returns-in-DeleteFrom : goal.returns-in-DeleteFrom
returns-in-DeleteFrom c = λ e. ap symbols_of_rule (sym c.in-DeleteFrom.is)

pub returns-in-DropKind : goal.returns-in-DropKind
returns-in-DropKind c = λ e. ap symbols_of_rule (sym c.in-DropKind.is)

pub returns-in-Table : goal.returns-in-Table
returns-in-Table c = λ e. ap symbols_of_rule (sym c.in-Table.is)

pub returns-in-Element : goal.returns-in-Element
returns-in-Element c = λ e. ap symbols_of_rule (sym c.in-Element.is)

pub returns-in-MoreElements : goal.returns-in-MoreElements
returns-in-MoreElements c = λ e. ap symbols_of_rule (sym c.in-MoreElements.is)

pub returns-in-ColumnTraits : goal.returns-in-ColumnTraits
returns-in-ColumnTraits c = λ e. ap symbols_of_rule (sym c.in-ColumnTraits.is)

pub returns-in-ColumnConstraint : goal.returns-in-ColumnConstraint
returns-in-ColumnConstraint c = λ e. ap symbols_of_rule (sym c.in-ColumnConstraint.is)

pub returns-in-ReferencedColumn : goal.returns-in-ReferencedColumn
returns-in-ReferencedColumn c = λ e. ap symbols_of_rule (sym c.in-ReferencedColumn.is)

pub returns-in-TableConstraint : goal.returns-in-TableConstraint
returns-in-TableConstraint c = λ e. ap symbols_of_rule (sym c.in-TableConstraint.is)

pub returns-in-AfterDeclare : goal.returns-in-AfterDeclare
returns-in-AfterDeclare c = λ e. ap symbols_of_rule (sym c.in-AfterDeclare.is)

pub returns-in-Declaration : goal.returns-in-Declaration
returns-in-Declaration c = λ e. ap symbols_of_rule (sym c.in-Declaration.is)

pub returns-in-MoreDeclarations : goal.returns-in-MoreDeclarations
returns-in-MoreDeclarations c = λ e. ap symbols_of_rule (sym c.in-MoreDeclarations.is)

pub returns-in-OptionalAs : goal.returns-in-OptionalAs
returns-in-OptionalAs c = λ e. ap symbols_of_rule (sym c.in-OptionalAs.is)

pub returns-in-Initial : goal.returns-in-Initial
returns-in-Initial c = λ e. ap symbols_of_rule (sym c.in-Initial.is)

pub returns-in-CursorScope : goal.returns-in-CursorScope
returns-in-CursorScope c = λ e. ap symbols_of_rule (sym c.in-CursorScope.is)

pub returns-in-CursorStatic : goal.returns-in-CursorStatic
returns-in-CursorStatic c = λ e. ap symbols_of_rule (sym c.in-CursorStatic.is)

pub returns-in-CursorReadOnly : goal.returns-in-CursorReadOnly
returns-in-CursorReadOnly c = λ e. ap symbols_of_rule (sym c.in-CursorReadOnly.is)

pub returns-in-AfterSet : goal.returns-in-AfterSet
returns-in-AfterSet c = λ e. ap symbols_of_rule (sym c.in-AfterSet.is)

pub returns-in-OnOff : goal.returns-in-OnOff
returns-in-OnOff c = λ e. ap symbols_of_rule (sym c.in-OnOff.is)

pub returns-in-Level : goal.returns-in-Level
returns-in-Level c = λ e. ap symbols_of_rule (sym c.in-Level.is)

pub returns-in-AfterRead : goal.returns-in-AfterRead
returns-in-AfterRead c = λ e. ap symbols_of_rule (sym c.in-AfterRead.is)

pub returns-in-SignedNumber : goal.returns-in-SignedNumber
returns-in-SignedNumber c = λ e. ap symbols_of_rule (sym c.in-SignedNumber.is)

pub returns-in-Priority : goal.returns-in-Priority
returns-in-Priority c = λ e. ap symbols_of_rule (sym c.in-Priority.is)

pub returns-in-OptionName : goal.returns-in-OptionName
returns-in-OptionName c = λ e. ap symbols_of_rule (sym c.in-OptionName.is)

pub returns-in-TransactionWord : goal.returns-in-TransactionWord
returns-in-TransactionWord c = λ e. ap symbols_of_rule (sym c.in-TransactionWord.is)

pub returns-in-TransactionEnd : goal.returns-in-TransactionEnd
returns-in-TransactionEnd c = λ e. ap symbols_of_rule (sym c.in-TransactionEnd.is)

pub returns-in-OptionalName : goal.returns-in-OptionalName
returns-in-OptionalName c = λ e. ap symbols_of_rule (sym c.in-OptionalName.is)

pub returns-in-Next : goal.returns-in-Next
returns-in-Next c = λ e. ap symbols_of_rule (sym c.in-Next.is)

pub returns-in-Variables : goal.returns-in-Variables
returns-in-Variables c = λ e. ap symbols_of_rule (sym c.in-Variables.is)

pub returns-in-MoreVariables : goal.returns-in-MoreVariables
returns-in-MoreVariables c = λ e. ap symbols_of_rule (sym c.in-MoreVariables.is)

pub returns-in-AfterExecute : goal.returns-in-AfterExecute
returns-in-AfterExecute c = λ e. ap symbols_of_rule (sym c.in-AfterExecute.is)

pub returns-in-Arguments : goal.returns-in-Arguments
returns-in-Arguments c = λ e. ap symbols_of_rule (sym c.in-Arguments.is)

pub returns-in-MoreArguments : goal.returns-in-MoreArguments
returns-in-MoreArguments c = λ e. ap symbols_of_rule (sym c.in-MoreArguments.is)

pub returns-in-Argument : goal.returns-in-Argument
returns-in-Argument c = λ e. ap symbols_of_rule (sym c.in-Argument.is)

pub returns-in-AfterArgumentVariable : goal.returns-in-AfterArgumentVariable
returns-in-AfterArgumentVariable c = λ e. ap symbols_of_rule (sym c.in-AfterArgumentVariable.is)

pub returns-in-ArgumentValue : goal.returns-in-ArgumentValue
returns-in-ArgumentValue c = λ e. ap symbols_of_rule (sym c.in-ArgumentValue.is)

pub returns-in-Constant : goal.returns-in-Constant
returns-in-Constant c = λ e. ap symbols_of_rule (sym c.in-Constant.is)

pub returns-in-Select : goal.returns-in-Select
returns-in-Select c = λ e. ap symbols_of_rule (sym c.in-Select.is)

pub returns-in-Distinct : goal.returns-in-Distinct
returns-in-Distinct c = λ e. ap symbols_of_rule (sym c.in-Distinct.is)

pub returns-in-Top : goal.returns-in-Top
returns-in-Top c = λ e. ap symbols_of_rule (sym c.in-Top.is)

pub returns-in-TopNumber : goal.returns-in-TopNumber
returns-in-TopNumber c = λ e. ap symbols_of_rule (sym c.in-TopNumber.is)

pub returns-in-Items : goal.returns-in-Items
returns-in-Items c = λ e. ap symbols_of_rule (sym c.in-Items.is)

pub returns-in-AfterFirstVariable : goal.returns-in-AfterFirstVariable
returns-in-AfterFirstVariable c = λ e. ap symbols_of_rule (sym c.in-AfterFirstVariable.is)

pub returns-in-MoreAssigns : goal.returns-in-MoreAssigns
returns-in-MoreAssigns c = λ e. ap symbols_of_rule (sym c.in-MoreAssigns.is)

pub returns-in-Item : goal.returns-in-Item
returns-in-Item c = λ e. ap symbols_of_rule (sym c.in-Item.is)

pub returns-in-MoreItems : goal.returns-in-MoreItems
returns-in-MoreItems c = λ e. ap symbols_of_rule (sym c.in-MoreItems.is)

pub returns-in-NamedItem : goal.returns-in-NamedItem
returns-in-NamedItem c = λ e. ap symbols_of_rule (sym c.in-NamedItem.is)

pub returns-in-AfterItemName : goal.returns-in-AfterItemName
returns-in-AfterItemName c = λ e. ap symbols_of_rule (sym c.in-AfterItemName.is)

pub returns-in-AfterItemDot : goal.returns-in-AfterItemDot
returns-in-AfterItemDot c = λ e. ap symbols_of_rule (sym c.in-AfterItemDot.is)

pub returns-in-OtherItem : goal.returns-in-OtherItem
returns-in-OtherItem c = λ e. ap symbols_of_rule (sym c.in-OtherItem.is)

pub returns-in-AfterItemOperand : goal.returns-in-AfterItemOperand
returns-in-AfterItemOperand c = λ e. ap symbols_of_rule (sym c.in-AfterItemOperand.is)

pub returns-in-Alias : goal.returns-in-Alias
returns-in-Alias c = λ e. ap symbols_of_rule (sym c.in-Alias.is)

pub returns-in-From : goal.returns-in-From
returns-in-From c = λ e. ap symbols_of_rule (sym c.in-From.is)

pub returns-in-TableRef : goal.returns-in-TableRef
returns-in-TableRef c = λ e. ap symbols_of_rule (sym c.in-TableRef.is)

pub returns-in-Joins : goal.returns-in-Joins
returns-in-Joins c = λ e. ap symbols_of_rule (sym c.in-Joins.is)

pub returns-in-Outer : goal.returns-in-Outer
returns-in-Outer c = λ e. ap symbols_of_rule (sym c.in-Outer.is)

pub returns-in-Where : goal.returns-in-Where
returns-in-Where c = λ e. ap symbols_of_rule (sym c.in-Where.is)

pub returns-in-GroupBy : goal.returns-in-GroupBy
returns-in-GroupBy c = λ e. ap symbols_of_rule (sym c.in-GroupBy.is)

pub returns-in-Having : goal.returns-in-Having
returns-in-Having c = λ e. ap symbols_of_rule (sym c.in-Having.is)

pub returns-in-OrderBy : goal.returns-in-OrderBy
returns-in-OrderBy c = λ e. ap symbols_of_rule (sym c.in-OrderBy.is)

pub returns-in-OrderItem : goal.returns-in-OrderItem
returns-in-OrderItem c = λ e. ap symbols_of_rule (sym c.in-OrderItem.is)

pub returns-in-MoreOrderItems : goal.returns-in-MoreOrderItems
returns-in-MoreOrderItems c = λ e. ap symbols_of_rule (sym c.in-MoreOrderItems.is)

pub returns-in-Direction : goal.returns-in-Direction
returns-in-Direction c = λ e. ap symbols_of_rule (sym c.in-Direction.is)

pub returns-in-Test : goal.returns-in-Test
returns-in-Test c = λ e. ap symbols_of_rule (sym c.in-Test.is)

pub returns-in-MoreOrs : goal.returns-in-MoreOrs
returns-in-MoreOrs c = λ e. ap symbols_of_rule (sym c.in-MoreOrs.is)

pub returns-in-AndTest : goal.returns-in-AndTest
returns-in-AndTest c = λ e. ap symbols_of_rule (sym c.in-AndTest.is)

pub returns-in-MoreAnds : goal.returns-in-MoreAnds
returns-in-MoreAnds c = λ e. ap symbols_of_rule (sym c.in-MoreAnds.is)

pub returns-in-NotTest : goal.returns-in-NotTest
returns-in-NotTest c = λ e. ap symbols_of_rule (sym c.in-NotTest.is)

pub returns-in-MoreNots : goal.returns-in-MoreNots
returns-in-MoreNots c = λ e. ap symbols_of_rule (sym c.in-MoreNots.is)

pub returns-in-Basic : goal.returns-in-Basic
returns-in-Basic c = λ e. ap symbols_of_rule (sym c.in-Basic.is)

pub returns-in-Comparison : goal.returns-in-Comparison
returns-in-Comparison c = λ e. ap symbols_of_rule (sym c.in-Comparison.is)

pub returns-in-CompareSign : goal.returns-in-CompareSign
returns-in-CompareSign c = λ e. ap symbols_of_rule (sym c.in-CompareSign.is)

pub returns-in-OptionalNot : goal.returns-in-OptionalNot
returns-in-OptionalNot c = λ e. ap symbols_of_rule (sym c.in-OptionalNot.is)

pub returns-in-Membership : goal.returns-in-Membership
returns-in-Membership c = λ e. ap symbols_of_rule (sym c.in-Membership.is)

pub returns-in-InList : goal.returns-in-InList
returns-in-InList c = λ e. ap symbols_of_rule (sym c.in-InList.is)

pub returns-in-Expr : goal.returns-in-Expr
returns-in-Expr c = λ e. ap symbols_of_rule (sym c.in-Expr.is)

pub returns-in-MoreTerms : goal.returns-in-MoreTerms
returns-in-MoreTerms c = λ e. ap symbols_of_rule (sym c.in-MoreTerms.is)

pub returns-in-AddSign : goal.returns-in-AddSign
returns-in-AddSign c = λ e. ap symbols_of_rule (sym c.in-AddSign.is)

pub returns-in-Product : goal.returns-in-Product
returns-in-Product c = λ e. ap symbols_of_rule (sym c.in-Product.is)

pub returns-in-MoreFactors : goal.returns-in-MoreFactors
returns-in-MoreFactors c = λ e. ap symbols_of_rule (sym c.in-MoreFactors.is)

pub returns-in-MultiplySign : goal.returns-in-MultiplySign
returns-in-MultiplySign c = λ e. ap symbols_of_rule (sym c.in-MultiplySign.is)

pub returns-in-Unary : goal.returns-in-Unary
returns-in-Unary c = λ e. ap symbols_of_rule (sym c.in-Unary.is)

pub returns-in-MoreSigns : goal.returns-in-MoreSigns
returns-in-MoreSigns c = λ e. ap symbols_of_rule (sym c.in-MoreSigns.is)

pub returns-in-Primary : goal.returns-in-Primary
returns-in-Primary c = λ e. ap symbols_of_rule (sym c.in-Primary.is)

pub returns-in-SimplePrimary : goal.returns-in-SimplePrimary
returns-in-SimplePrimary c = λ e. ap symbols_of_rule (sym c.in-SimplePrimary.is)

pub returns-in-OtherPrimary : goal.returns-in-OtherPrimary
returns-in-OtherPrimary c = λ e. ap symbols_of_rule (sym c.in-OtherPrimary.is)

pub returns-in-Enclosed : goal.returns-in-Enclosed
returns-in-Enclosed c = λ e. ap symbols_of_rule (sym c.in-Enclosed.is)

pub returns-in-NamedPrimary : goal.returns-in-NamedPrimary
returns-in-NamedPrimary c = λ e. ap symbols_of_rule (sym c.in-NamedPrimary.is)

pub returns-in-AfterName : goal.returns-in-AfterName
returns-in-AfterName c = λ e. ap symbols_of_rule (sym c.in-AfterName.is)

pub returns-in-CountArguments : goal.returns-in-CountArguments
returns-in-CountArguments c = λ e. ap symbols_of_rule (sym c.in-CountArguments.is)

pub returns-in-Arm : goal.returns-in-Arm
returns-in-Arm c = λ e. ap symbols_of_rule (sym c.in-Arm.is)

pub returns-in-MoreArms : goal.returns-in-MoreArms
returns-in-MoreArms c = λ e. ap symbols_of_rule (sym c.in-MoreArms.is)

pub returns-in-CaseElse : goal.returns-in-CaseElse
returns-in-CaseElse c = λ e. ap symbols_of_rule (sym c.in-CaseElse.is)

pub returns-in-Exprs : goal.returns-in-Exprs
returns-in-Exprs c = λ e. ap symbols_of_rule (sym c.in-Exprs.is)

pub returns-in-MoreExprs : goal.returns-in-MoreExprs
returns-in-MoreExprs c = λ e. ap symbols_of_rule (sym c.in-MoreExprs.is)
