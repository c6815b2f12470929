use Rattle.std.proofs.Common.{rules}
use Rattle.expr_reader.proofs.Equations.{named_function_is}
use Rattle.expr_reader.proofs.reader.Reader.named_primary.Goals as goal

pub returns-in_err-name-2 : goal.returns-in_err-name-2
returns-in_err-name-2 g c = search (rules, named_function_is c.in-Some-Function.function c.args.lexemes.now)

pub returns : goal.returns
returns g c = search (rules, named_function_is c.in-Some-Function.function c.args.lexemes.now)
