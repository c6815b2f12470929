use Rattle.std.proofs.Common.{ap, ◌∙◌}
use Rattle.tsql_lexer.specs.declared.lexeme.Sign.TheVariants as s
use Rattle.tsql_grammar.specs.declared.kind.Kind.TheVariants as k
use Rattle.tsql_grammar.specs.declared.rule.Rule.TheVariants as r
use Rattle.tsql_recognizer.proofs.Leading.{comes_before}
use Rattle.tsql_recognizer.proofs.OperandSteps.{more_terms_plus, more_terms_minus}
use Rattle.tsql_recognizer.proofs.operands.more_terms_before.Goals as goal

pub returns-in-Sign-Plus : goal.returns-in-Sign-Plus
returns-in-Sign-Plus c = comes_before c.args.kind (k.Sign s.Plus) (c.in-Sign-Plus.is ∙ ap k.Sign (rw c.in-Sign-Plus.is at c.in-Sign-Plus.field-0-is)) r.MoreTerms _ more_terms_plus

pub returns-in-Sign-Minus : goal.returns-in-Sign-Minus
returns-in-Sign-Minus c = comes_before c.args.kind (k.Sign s.Minus) (c.in-Sign-Minus.is ∙ ap k.Sign (rw c.in-Sign-Minus.is at c.in-Sign-Minus.field-0-is)) r.MoreTerms _ more_terms_minus
