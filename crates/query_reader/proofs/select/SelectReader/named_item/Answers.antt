use Rattle.std.proofs.Common.{rules}
use Rattle.query_reader.proofs.SelectEquations.{named_item_function_is}
use Rattle.query_reader.proofs.select.SelectReader.named_item.Goals as goal

pub returns-in_err-name-2 : goal.returns-in_err-name-2
returns-in_err-name-2 g c = search (rules, named_item_function_is c.in-Some-Function.function c.args.lexemes.now)

pub returns : goal.returns
returns g c = search (rules, named_item_function_is c.in-Some-Function.function c.args.lexemes.now)
