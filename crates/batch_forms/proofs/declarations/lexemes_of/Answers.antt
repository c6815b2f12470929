use Rattle.std.proofs.Common.{List, Option, ap}
use Rattle.tsql_lexer.specs.declared.fault.Flaw.{Flaw}
use Rattle.tsql_lexer.specs.declared.lexeme.Spanned.{Spanned}
use Rattle.batch_forms.proofs.declarations.lexemes_of.Goals as goal

pub returns : goal.returns
returns c = ap (λ (read : List Spanned × Option Flaw). read.0) c.in_ok-lexing.ensures
