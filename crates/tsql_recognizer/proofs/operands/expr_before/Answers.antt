use Rattle.std.proofs.Common.{ap, ◌∙◌}
use Rattle.tsql_lexer.specs.declared.lexeme.Sign.TheVariants as s
use Rattle.tsql_grammar.specs.declared.kind.Kind.TheVariants as k
use Rattle.tsql_grammar.specs.declared.kind.Reserved.TheVariants as w
use Rattle.tsql_grammar.specs.declared.rule.Rule.TheVariants as r
use Rattle.tsql_recognizer.proofs.Leading.{comes_before}
use Rattle.tsql_recognizer.proofs.OperandSteps.{expr_number, expr_text, expr_null, expr_name, expr_variable, expr_open, expr_case}
use Rattle.tsql_recognizer.proofs.operands.expr_before.Goals as goal

pub returns-in-Number : goal.returns-in-Number
returns-in-Number c = comes_before c.args.kind k.Number c.in-Number.is r.Expr _ expr_number

pub returns-in-Text : goal.returns-in-Text
returns-in-Text c = comes_before c.args.kind k.Text c.in-Text.is r.Expr _ expr_text

pub returns-in-Reserved-Null : goal.returns-in-Reserved-Null
returns-in-Reserved-Null c = comes_before c.args.kind (k.Reserved w.Null) (c.in-Reserved-Null.is ∙ ap k.Reserved (rw c.in-Reserved-Null.is at c.in-Reserved-Null.field-0-is)) r.Expr _ expr_null

pub returns-in-Name : goal.returns-in-Name
returns-in-Name c = comes_before c.args.kind k.Name c.in-Name.is r.Expr _ expr_name

pub returns-in-Variable : goal.returns-in-Variable
returns-in-Variable c = comes_before c.args.kind k.Variable c.in-Variable.is r.Expr _ expr_variable

pub returns-in-Sign-Open : goal.returns-in-Sign-Open
returns-in-Sign-Open c = comes_before c.args.kind (k.Sign s.Open) (c.in-Sign-Open.is ∙ ap k.Sign (rw c.in-Sign-Open.is at c.in-Sign-Open.field-0-is)) r.Expr _ expr_open

pub returns-in-Reserved-Case : goal.returns-in-Reserved-Case
returns-in-Reserved-Case c = comes_before c.args.kind (k.Reserved w.Case) (c.in-Reserved-Case.is ∙ ap k.Reserved (rw c.in-Reserved-Case.is at c.in-Reserved-Case.field-0-is)) r.Expr _ expr_case
