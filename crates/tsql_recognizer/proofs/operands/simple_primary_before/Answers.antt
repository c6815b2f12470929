use Rattle.std.proofs.Common.{ap, ◌∙◌}
use Rattle.tsql_grammar.specs.declared.kind.Kind.TheVariants as k
use Rattle.tsql_grammar.specs.declared.kind.Reserved.TheVariants as w
use Rattle.tsql_grammar.specs.declared.rule.Rule.TheVariants as r
use Rattle.tsql_recognizer.proofs.Leading.{comes_before}
use Rattle.tsql_recognizer.proofs.OperandSteps.{simple_primary_number, simple_primary_text, simple_primary_null, simple_primary_name, simple_primary_variable}
use Rattle.tsql_recognizer.proofs.operands.simple_primary_before.Goals as goal

pub returns-in-Number : goal.returns-in-Number
returns-in-Number c = comes_before c.args.kind k.Number c.in-Number.is r.SimplePrimary _ simple_primary_number

pub returns-in-Text : goal.returns-in-Text
returns-in-Text c = comes_before c.args.kind k.Text c.in-Text.is r.SimplePrimary _ simple_primary_text

pub returns-in-Reserved-Null : goal.returns-in-Reserved-Null
returns-in-Reserved-Null c = comes_before c.args.kind (k.Reserved w.Null) (c.in-Reserved-Null.is ∙ ap k.Reserved (rw c.in-Reserved-Null.is at c.in-Reserved-Null.field-0-is)) r.SimplePrimary _ simple_primary_null

pub returns-in-Name : goal.returns-in-Name
returns-in-Name c = comes_before c.args.kind k.Name c.in-Name.is r.SimplePrimary _ simple_primary_name

pub returns-in-Variable : goal.returns-in-Variable
returns-in-Variable c = comes_before c.args.kind k.Variable c.in-Variable.is r.SimplePrimary _ simple_primary_variable
