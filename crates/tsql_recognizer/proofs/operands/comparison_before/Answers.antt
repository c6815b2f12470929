use Rattle.std.proofs.Common.{ap, ◌∙◌}
use Rattle.tsql_lexer.specs.declared.lexeme.Sign.TheVariants as s
use Rattle.tsql_grammar.specs.declared.kind.Kind.TheVariants as k
use Rattle.tsql_grammar.specs.declared.kind.Reserved.TheVariants as w
use Rattle.tsql_grammar.specs.declared.rule.Rule.TheVariants as r
use Rattle.tsql_recognizer.proofs.Leading.{comes_before}
use Rattle.tsql_recognizer.proofs.OperandSteps.{comparison_equal, comparison_not_equal, comparison_less, comparison_less_equal, comparison_greater, comparison_greater_equal, comparison_in}
use Rattle.tsql_recognizer.proofs.operands.comparison_before.Goals as goal

pub returns-in-Sign-Equal : goal.returns-in-Sign-Equal
returns-in-Sign-Equal c = comes_before c.args.kind (k.Sign s.Equal) (c.in-Sign-Equal.is ∙ ap k.Sign (rw c.in-Sign-Equal.is at c.in-Sign-Equal.field-0-is)) r.Comparison _ comparison_equal

pub returns-in-Sign-NotEqual : goal.returns-in-Sign-NotEqual
returns-in-Sign-NotEqual c = comes_before c.args.kind (k.Sign s.NotEqual) (c.in-Sign-NotEqual.is ∙ ap k.Sign (rw c.in-Sign-NotEqual.is at c.in-Sign-NotEqual.field-0-is)) r.Comparison _ comparison_not_equal

pub returns-in-Sign-Less : goal.returns-in-Sign-Less
returns-in-Sign-Less c = comes_before c.args.kind (k.Sign s.Less) (c.in-Sign-Less.is ∙ ap k.Sign (rw c.in-Sign-Less.is at c.in-Sign-Less.field-0-is)) r.Comparison _ comparison_less

pub returns-in-Sign-LessEqual : goal.returns-in-Sign-LessEqual
returns-in-Sign-LessEqual c = comes_before c.args.kind (k.Sign s.LessEqual) (c.in-Sign-LessEqual.is ∙ ap k.Sign (rw c.in-Sign-LessEqual.is at c.in-Sign-LessEqual.field-0-is)) r.Comparison _ comparison_less_equal

pub returns-in-Sign-Greater : goal.returns-in-Sign-Greater
returns-in-Sign-Greater c = comes_before c.args.kind (k.Sign s.Greater) (c.in-Sign-Greater.is ∙ ap k.Sign (rw c.in-Sign-Greater.is at c.in-Sign-Greater.field-0-is)) r.Comparison _ comparison_greater

pub returns-in-Sign-GreaterEqual : goal.returns-in-Sign-GreaterEqual
returns-in-Sign-GreaterEqual c = comes_before c.args.kind (k.Sign s.GreaterEqual) (c.in-Sign-GreaterEqual.is ∙ ap k.Sign (rw c.in-Sign-GreaterEqual.is at c.in-Sign-GreaterEqual.field-0-is)) r.Comparison _ comparison_greater_equal

pub returns-in-Reserved-In : goal.returns-in-Reserved-In
returns-in-Reserved-In c = comes_before c.args.kind (k.Reserved w.In) (c.in-Reserved-In.is ∙ ap k.Reserved (rw c.in-Reserved-In.is at c.in-Reserved-In.field-0-is)) r.Comparison _ comparison_in
