use Rattle.std.proofs.Common.{ap, ◌∙◌}
use Rattle.tsql_lexer.specs.declared.lexeme.Sign.TheVariants as s
use Rattle.tsql_grammar.specs.declared.kind.Kind.TheVariants as k
use Rattle.tsql_grammar.specs.declared.rule.Rule.TheVariants as r
use Rattle.tsql_recognizer.proofs.Leading.{comes_before}
use Rattle.tsql_recognizer.proofs.OperandSteps.{more_factors_star, more_factors_slash, more_factors_percent}
use Rattle.tsql_recognizer.proofs.operands.more_factors_before.Goals as goal

pub returns-in-Sign-Star : goal.returns-in-Sign-Star
returns-in-Sign-Star c = comes_before c.args.kind (k.Sign s.Star) (c.in-Sign-Star.is ∙ ap k.Sign (rw c.in-Sign-Star.is at c.in-Sign-Star.field-0-is)) r.MoreFactors _ more_factors_star

pub returns-in-Sign-Slash : goal.returns-in-Sign-Slash
returns-in-Sign-Slash c = comes_before c.args.kind (k.Sign s.Slash) (c.in-Sign-Slash.is ∙ ap k.Sign (rw c.in-Sign-Slash.is at c.in-Sign-Slash.field-0-is)) r.MoreFactors _ more_factors_slash

pub returns-in-Sign-Percent : goal.returns-in-Sign-Percent
returns-in-Sign-Percent c = comes_before c.args.kind (k.Sign s.Percent) (c.in-Sign-Percent.is ∙ ap k.Sign (rw c.in-Sign-Percent.is at c.in-Sign-Percent.field-0-is)) r.MoreFactors _ more_factors_percent
